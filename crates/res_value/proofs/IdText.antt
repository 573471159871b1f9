-- The text of an id reads as that id, and is UTF-8.
use Rattle.std.proofs.Common.{◌≡◌, ℕ, zero, suc, ◌^◌, ◌<◌, true, nat_lt, List, [], ◌∷◌, Some, IsUtf8, refl, ap, arith}
use Rattle.std.specs.Str.{IsAscii}
use Rattle.std.specs.List.{list_all}
use Rattle.std.specs.Int.{w32, to_be_bytes}
use Rattle.std.proofs.lemmas.Bool.{ltb-true, and_parts}
use Rattle.std.proofs.lemmas.Nat.{from_be_bytes-to_be_bytes_4}
use Rattle.std.proofs.lemmas.Str.{IsUtf8-from_ascii}
use Rattle.std.proofs.lemmas.Str.Ascii.{IsAscii-nil, IsAscii-cons}
use Rattle.hex.specs.Hex.{IsBytes, encode_lower, lower_digits}
use Rattle.hex.proofs.HexLemmas.{IsAscii-encode_with, decode_sized-encode_lower}
use Rattle.res_value.specs.declared.res_id.ResId.{ResId}
use Rattle.res_value.specs.Word.{word_text, eight_digits}
use Rattle.res_value.specs.ResId.{id_text, id_of}

-- the bytes of a word are bytes
IsBytes-to_be_bytes : (n : ℕ) → IsBytes (to_be_bytes w32 n)
IsBytes-to_be_bytes n zero = omega arith
IsBytes-to_be_bytes n (suc zero) = omega arith
IsBytes-to_be_bytes n (suc (suc zero)) = omega arith
IsBytes-to_be_bytes n (suc (suc (suc zero))) = omega arith
IsBytes-to_be_bytes n (suc (suc (suc (suc i)))) = omega arith

pub id_of-id_text : (id : ResId) → id.0 < 2 ^ 32 → id_of (id_text id.0) ≡ Some id
unfolding id_of word_text eight_digits
id_of-id_text id fits =
    let bytes = to_be_bytes w32 id.0 in
    rw (decode_sized-encode_lower bytes 4 refl (IsBytes-to_be_bytes id.0))
    (ap (λ (n : ℕ). let found : ResId = record { 0 = n } in Some found) (from_be_bytes-to_be_bytes_4 id.0 fits))

pub ruleset reads_back = id_of-id_text

-- ---- UTF-8

ascii-from_test : (bytes : List ℕ) → list_all (λ b. nat_lt b 128) bytes ≡ true → IsAscii bytes
ascii-from_test [] e = IsAscii-nil
ascii-from_test (b ∷ bytes) e =
    let h = and_parts (nat_lt b 128) (list_all (λ c. nat_lt c 128) bytes) e in
    IsAscii-cons b bytes (ltb-true b 128 h.0) (ascii-from_test bytes h.1)

pub digits-ascii : (bytes : List ℕ) → IsAscii (encode_lower bytes)
digits-ascii bytes = IsAscii-encode_with lower_digits bytes (ascii-from_test lower_digits refl)

pub id_text-utf8 : (n : ℕ) → IsUtf8 (id_text n)
unfolding word_text eight_digits
id_text-utf8 n =
    IsUtf8-from_ascii (id_text n)
    (IsAscii-cons 48 (120 ∷ encode_lower (to_be_bytes w32 n)) (omega arith) (IsAscii-cons 120 (encode_lower (to_be_bytes w32 n)) (omega arith) (digits-ascii (to_be_bytes w32 n))))
