-- The JSON value of a map that is printed.
use Rattle.std.proofs.Common.{◌≡◌, ℕ, zero, suc, ◌/◌, ◌%◌, ◌<◌, ◌≤◌, true, false, nat_lt, List, [], ◌∷◌, ◌++◌, map, codes, slice_index, Some, option_map, option_and_then, inl, inr, refl, sym, ap, subst, ◌∙◌, append_assoc, arith}
use Rattle.std.specs.Int.{w32, to_be_bytes}
use Rattle.std.specs.List.{flat_map, list_all}
use Rattle.std.specs.Str.{IsAscii}
use Rattle.std.proofs.lemmas.Bool.{and_parts, cases_lt, ltb-true}
use Rattle.std.proofs.lemmas.List.{append-nil}
use Rattle.std.proofs.lemmas.Str.{IsUtf8-from_ascii, IsAscii-append, is_utf8-from_IsUtf8}
use Rattle.std.proofs.lemmas.Str.Ascii.{IsAscii-nil, IsAscii-cons}
use Rattle.hex.specs.Hex.{IsBytes, encode_lower, encode_with, lower_digits}
use Rattle.hex.proofs.HexLemmas.{IsAscii-encode_with}
use Rattle.json.specs.Json as json
use Rattle.json.specs.Json.{if_last}
use Rattle.json.specs.Lex.{tokens}
use Rattle.json.specs.Print.{ArePrintable, escape, escape_byte}
use Rattle.json.specs.Spaced.{AreGaps, print_spaced}
use Rattle.json.specs.Token.{Token}
use Rattle.json.specs.Tree.{json_tokens, items_tokens, items_depth}
use Rattle.json.proofs.Printed.Tokens.{tokens-print_spaced}
use Rattle.json.proofs.Printed.Trees.{value-json_tokens}
use Rattle.serde_json.specs.Data.{Data, string, array, Items, no_items, item}
use Rattle.serde_json.specs.Read.{of_json, of_items, max_depth, read}
use Rattle.json_input.specs.Json.{value_of}
use Rattle.json_input.proofs.LineFeed.{line-means}
use Rattle.command_base.specs.overlay_map.IdMap.{MapOf}
use Rattle.command_base.specs.answer_text.res_value.Word.{word_text, eight_digits}
use Rattle.command_base.specs.answer_text.res_value.ResId.{id_text}
use Rattle.command_base.specs.MapText.{pair_text, next_pair_text, map_text}

-- ---- an id stands in a text as it is

-- a byte that stands in a text as it is
abbrev IsPlain : ℕ → Type 0
IsPlain x = escape_byte x ≡ x ∷ []

abbrev Each : (ℕ → Type 0) → ℕ → Type 0
Each P zero = Unit {0}
Each P (suc n) = P n × Each P n

each_below : (P : ℕ → Type 0) (n : ℕ) → Each P n → (k : ℕ) → k < n → P k
each_below P zero each k below = absurd (omega arith)
each_below P (suc n) each k below = elim (cases_lt k n) [
  | inl less ↦ each_below P n each.1 k less
  | inr top ↦ subst P (let e : n ≡ k = omega arith in e) each.0
]

abbrev IsPlainDigit : ℕ → Type 0
IsPlainDigit k = IsPlain (slice_index lower_digits k)

plain_digits : Each IsPlainDigit 16
unfolding escape_byte
plain_digits = (refl, (refl, (refl, (refl, (refl, (refl, (refl, (refl, (refl, (refl, (refl, (refl, (refl, (refl, (refl, (refl, tt))))))))))))))))

escape-digits : (bytes : List ℕ) → IsBytes bytes → escape (encode_lower bytes) ≡ encode_lower bytes
unfolding encode_with
escape-digits [] small = refl
escape-digits (b ∷ bytes) small =
    let fits : b < 256 = small 0 in
    rw (
      each_below IsPlainDigit 16 plain_digits (b / 16) (omega arith),
      each_below IsPlainDigit 16 plain_digits (b % 16) (omega arith),
      escape-digits bytes (λ i. small (suc i)),
    )

bytes_of_word : (n : ℕ) → IsBytes (to_be_bytes w32 n)
bytes_of_word n zero = omega arith
bytes_of_word n (suc zero) = omega arith
bytes_of_word n (suc (suc zero)) = omega arith
bytes_of_word n (suc (suc (suc zero))) = omega arith
bytes_of_word n (suc (suc (suc (suc i)))) = omega arith

escape-id_text : (n : ℕ) → escape (id_text n) ≡ id_text n
unfolding word_text eight_digits escape_byte
escape-id_text n = ap (λ (digits : List ℕ). 48 ∷ 120 ∷ digits) (escape-digits (to_be_bytes w32 n) (bytes_of_word n))

-- ---- the tokens of a map, each with the space before it

abbrev pair_spaced : List ℕ → (ℕ × ℕ) → List (List ℕ × Token) → List (List ℕ × Token)
pair_spaced gap pair others =
    (gap, Token.begin_array) ∷ ([], Token.string (id_text pair.0)) ∷ ([], Token.string (id_text pair.1)) ∷ ([], Token.end_array) ∷ others

abbrev others_spaced : MapOf → List (List ℕ × Token)
others_spaced [] = ([], Token.end_array) ∷ []
others_spaced (pair ∷ pairs) = pair_spaced (10 ∷ 32 ∷ []) pair (others_spaced pairs)

abbrev map_spaced : MapOf → List (List ℕ × Token)
map_spaced [] = ([], Token.begin_array) ∷ ([], Token.end_array) ∷ []
map_spaced (pair ∷ pairs) = ([], Token.begin_array) ∷ pair_spaced [] pair (others_spaced pairs)

pair_front : (a b others : List ℕ) → 91 ∷ 34 ∷ ((a ++ 34 ∷ []) ++ (44 ∷ 34 ∷ ((b ++ 34 ∷ []) ++ (93 ∷ others))))
    ≡ (((((91 ∷ 34 ∷ []) ++ a) ++ (34 ∷ 44 ∷ 34 ∷ [])) ++ b) ++ (34 ∷ 93 ∷ [])) ++ others
pair_front a b others = simp append_assoc

-- the pairs behind the first, and the bracket
abbrev tail_text : MapOf → List ℕ
tail_text pairs = flat_map next_pair_text pairs ++ codes "]"

others_text : (pairs : MapOf) → print_spaced true (others_spaced pairs) ≡ tail_text pairs
unfolding print_spaced next_pair_text pair_text
others_text [] = refl
others_text (pair ∷ pairs) =
    rw (escape-id_text pair.0, escape-id_text pair.1, others_text pairs)
    (ap (λ (l : List ℕ). 44 ∷ 10 ∷ 32 ∷ l) (pair_front (id_text pair.0) (id_text pair.1) (tail_text pairs))
    ∙ sym (append_assoc (next_pair_text pair) (flat_map next_pair_text pairs) (codes "]")))

-- the text without the line feed at its end
abbrev map_line : MapOf → List ℕ
map_line [] = codes "[]"
map_line (first ∷ others) = codes "[" ++ pair_text first ++ flat_map next_pair_text others ++ codes "]"

map_line-spaced : (pairs : MapOf) → print_spaced false (map_spaced pairs) ≡ map_line pairs
unfolding print_spaced pair_text
map_line-spaced [] = refl
map_line-spaced (pair ∷ pairs) =
    rw (escape-id_text pair.0, escape-id_text pair.1, others_text pairs)
    (ap (λ (l : List ℕ). 91 ∷ l) (pair_front (id_text pair.0) (id_text pair.1) (tail_text pairs)
    ∙ sym (append_assoc (pair_text pair) (flat_map next_pair_text pairs) (codes "]"))))

map_text-line : (pairs : MapOf) → map_line pairs ++ 10 ∷ [] ≡ map_text pairs
unfolding map_text
map_text-line [] = refl
map_text-line (pair ∷ pairs) = refl

-- ---- the value of these tokens

abbrev pair_json : (ℕ × ℕ) → json.Json
pair_json pair = json.array (json.item (json.string (id_text pair.0)) (json.item (json.string (id_text pair.1)) json.no_items))

abbrev map_json : MapOf → json.Items
map_json [] = json.no_items
map_json (pair ∷ pairs) = json.item (pair_json pair) (map_json pairs)

abbrev pub pair_data : (ℕ × ℕ) → Data
pair_data pair = array (item (string (id_text pair.0)) (item (string (id_text pair.1)) no_items))

abbrev pub map_data : MapOf → Items
map_data [] = no_items
map_data (pair ∷ pairs) = item (pair_data pair) (map_data pairs)

map_tokens : (pairs : MapOf) → map (λ p. p.1) (others_spaced pairs) ≡ items_tokens (map_json pairs)
map_tokens [] = refl
map_tokens (pair ∷ pairs) =
    ap (λ (ts : List Token). Token.begin_array ∷ Token.string (id_text pair.0) ∷ Token.string (id_text pair.1) ∷ Token.end_array ∷ ts) (map_tokens pairs)

all_tokens : (pairs : MapOf) → map (λ p. p.1) (map_spaced pairs) ≡ json_tokens (json.array (map_json pairs))
all_tokens [] = refl
all_tokens (pair ∷ pairs) = ap (λ (ts : List Token). Token.begin_array ∷ ts) (map_tokens (pair ∷ pairs))

others_gaps : (pairs : MapOf) → AreGaps (others_spaced pairs)
others_gaps [] = (tt, tt)
others_gaps (pair ∷ pairs) = ((inr refl, (inl refl, tt)), (tt, (tt, (tt, others_gaps pairs))))

gaps : (pairs : MapOf) → AreGaps (map_spaced pairs)
gaps [] = (tt, (tt, tt))
gaps (pair ∷ pairs) = (tt, (tt, (tt, (tt, (tt, others_gaps pairs)))))

others_printable : (pairs : MapOf) → ArePrintable (map (λ p. p.1) (others_spaced pairs))
unfolding ArePrintable
others_printable [] = (tt, tt)
others_printable (pair ∷ pairs) = (tt, (tt, (tt, (tt, others_printable pairs))))

printable : (pairs : MapOf) → ArePrintable (map (λ p. p.1) (map_spaced pairs))
unfolding ArePrintable
printable [] = (tt, (tt, tt))
printable (pair ∷ pairs) = (tt, (tt, (tt, (tt, (tt, others_printable pairs)))))

shallow : (pairs : MapOf) → items_depth (map_json pairs) ≤ 1
shallow [] = omega arith
shallow (pair ∷ pairs) = omega (arith, shallow pairs)

of_map : (pairs : MapOf) → of_items (map_json pairs) ≡ Some (map_data pairs)
of_map [] = refl
of_map (pair ∷ pairs) = rw (of_map pairs) refl

map_line-read : (pairs : MapOf) → read (map_line pairs) ≡ Some (array (map_data pairs))
map_line-read pairs =
    let whole = json.array (map_json pairs) in
    let parsed = sym (ap tokens (map_line-spaced pairs)) ∙ tokens-print_spaced (map_spaced pairs) (gaps pairs) (printable pairs) ∙ all_tokens pairs ∙ sym (append-nil (json_tokens whole)) in
    ap (λ o. option_and_then of_json (option_and_then (λ p. if_last p.0 p.1) o)) (ap (json.value max_depth) parsed ∙ value-json_tokens whole max_depth [] (omega (arith, shallow pairs)))
    ∙ ap (option_map array) (of_map pairs)

-- ---- it is UTF-8

each_ascii : (xs : List ℕ) → list_all (λ x. nat_lt x 128) xs ≡ true → IsAscii xs
each_ascii [] e = IsAscii-nil
each_ascii (x ∷ xs) e =
    let h = and_parts (nat_lt x 128) (list_all (λ y. nat_lt y 128) xs) e in
    IsAscii-cons x xs (ltb-true x 128 h.0) (each_ascii xs h.1)

ascii-id : (n : ℕ) → IsAscii (id_text n)
unfolding word_text eight_digits
ascii-id n =
    let digits = to_be_bytes w32 n in
    IsAscii-append (codes "0x") (encode_lower digits) (each_ascii (codes "0x") refl) (IsAscii-encode_with lower_digits digits (each_ascii lower_digits refl))

ascii-pair : (pair : ℕ × ℕ) → IsAscii (pair_text pair)
unfolding pair_text
ascii-pair pair =
    let front = codes "[\"" ++ id_text pair.0 in
    let middle = front ++ codes "\",\"" in
    let both = middle ++ id_text pair.1 in
    IsAscii-append both (codes "\"]")
    (IsAscii-append middle (id_text pair.1)
    (IsAscii-append front (codes "\",\"") (IsAscii-append (codes "[\"") (id_text pair.0) (each_ascii (codes "[\"") refl) (ascii-id pair.0)) (each_ascii (codes "\",\"") refl))
    (ascii-id pair.1))
    (each_ascii (codes "\"]") refl)

ascii-others : (pairs : MapOf) → IsAscii (flat_map next_pair_text pairs)
unfolding next_pair_text
ascii-others [] = IsAscii-nil
ascii-others (pair ∷ pairs) =
    let space = 44 ∷ 10 ∷ 32 ∷ [] in
    IsAscii-append (next_pair_text pair) (flat_map next_pair_text pairs) (IsAscii-append space (pair_text pair) (each_ascii space refl) (ascii-pair pair)) (ascii-others pairs)

ascii-line : (pairs : MapOf) → IsAscii (map_line pairs)
ascii-line [] = each_ascii (codes "[]") refl
ascii-line (pair ∷ pairs) =
    let front = codes "[" ++ pair_text pair in
    IsAscii-append (front ++ flat_map next_pair_text pairs) (codes "]")
    (IsAscii-append front (flat_map next_pair_text pairs) (IsAscii-append (codes "[") (pair_text pair) (each_ascii (codes "[") refl) (ascii-pair pair)) (ascii-others pairs))
    (each_ascii (codes "]") refl)

value_of-line : (pairs : MapOf) → value_of (map_line pairs) ≡ Some (array (map_data pairs))
unfolding value_of
value_of-line pairs = rw (is_utf8-from_IsUtf8 (map_line pairs) (IsUtf8-from_ascii (map_line pairs) (ascii-line pairs))) (map_line-read pairs)

-- the JSON value of a map that is printed
pub map_text-value : (pairs : MapOf) → value_of (map_text pairs) ≡ Some (array (map_data pairs))
map_text-value pairs = ap value_of (sym (map_text-line pairs)) ∙ line-means (map_line pairs) (array (map_data pairs)) (value_of-line pairs)
