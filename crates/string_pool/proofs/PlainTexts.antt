-- Texts that stand for themselves.
use Rattle.std.proofs.Common.{◌≡◌, ℕ, ◌<◌, Bool, true, false, ◌||◌, inl, inr, List, [], ◌∷◌, ◌++◌, length, drop, Some, sym, ap, subst, ◌∙◌, arith, length-append}
use Rattle.std.specs.Prelude.{◌&&◌, not}
use Rattle.std.specs.List.{list_all}
use Rattle.std.specs.Char.{encode_utf8, is_ascii}
use Rattle.std.specs.Str.{encode_utf8_all, IsUtf8}
use Rattle.std.proofs.Math.Utf8.{scalar, scalars}
use Rattle.std.proofs.Math.Seq.{drop-append_seam}
use Rattle.std.proofs.lemmas.Bool.{and_parts, cases_lt}
use Rattle.std.proofs.lemmas.List.Folds.{list_all-append}
use Rattle.std.proofs.lemmas.Str.{encode_ascii, length-encode, len_utf8_bounds}
use Rattle.std.proofs.lemmas.Bool.{not-true}
use Rattle.bstr.specs.Utf8.{good, decoded}
use Rattle.bstr.proofs.lemmas.EncodeLemmas.{decoded-encode}
use Rattle.string_pool.specs.Shown.{takes_backslash, is_control, character_text, bytes_text}
use Rattle.string_pool.specs.Escapes.{is_plain_byte, is_unescaped}
use Rattle.string_pool.proofs.ByteTexts.{bytes_text-nil, bytes_text-some, bytes_text-ascii, plain_character, wide_character, is_low}

-- ---- ASCII

pub bytes_text-ascii_all : (bytes : List ℕ) → list_all is_plain_byte bytes ≡ true → bytes_text bytes ≡ bytes
bytes_text-ascii_all [] all = bytes_text-nil
bytes_text-ascii_all (byte ∷ others) all =
    let parts = and_parts (is_plain_byte byte) (list_all is_plain_byte others) all in
    let is = and_parts (is_ascii byte) (not (takes_backslash byte || is_control byte)) parts.0 in
    let low : byte < 128 = is_low byte is.0 in
    bytes_text-ascii byte others low ∙ ap (λ (t : List ℕ). t ++ bytes_text others) (plain_character byte (not-true _ is.1) ∙ encode_ascii byte low)
    ∙ ap (λ (t : List ℕ). byte ∷ t) (bytes_text-ascii_all others parts.1)

-- ---- UTF-8 in which no byte takes an escape

unescaped_character : (c : ℕ) → list_all is_unescaped (encode_utf8 c) ≡ true → (takes_backslash c || is_control c) ≡ false
unescaped_character c all =
    elim (cases_lt c 128) [
      | inl low ↦
          let one : list_all is_unescaped (c ∷ []) ≡ true = subst (λ (t : List ℕ). list_all is_unescaped t ≡ true) (encode_ascii c low) all in
          not-true _ (and_parts (is_unescaped c) true one).0
      | inr high ↦ wide_character c high
    ]

spelled : (cs : List ℕ) → scalars cs ≡ true → list_all is_unescaped (encode_utf8_all cs) ≡ true → bytes_text (encode_utf8_all cs) ≡ encode_utf8_all cs
spelled [] are all = bytes_text-nil
spelled (c ∷ cs) are all =
    let first = encode_utf8 c in
    let others = encode_utf8_all cs in
    let left = first ++ others in
    let is = and_parts (scalar c) (scalars cs) are in
    let tests = and_parts (list_all is_unescaped first) (list_all is_unescaped others) (sym (list_all-append is_unescaped first others) ∙ all) in
    let some : 0 < length left = omega (arith, length-encode c, (len_utf8_bounds c).0, length-append first others) in
    let reads : decoded left ≡ good c (length first) = decoded-encode c others is.0 in
    let found : (decoded left).char ≡ Some c = ap (λ front. front.char) reads in
    let behind : drop (decoded left).size left ≡ others = ap (λ front. drop front.size left) reads ∙ drop-append_seam first others in
    bytes_text-some left c found some ∙ ap (λ (t : List ℕ). t ++ bytes_text (drop (decoded left).size left)) (plain_character c (unescaped_character c tests.0))
    ∙ ap (λ (t : List ℕ). first ++ bytes_text t) behind ∙ ap (λ (t : List ℕ). first ++ t) (spelled cs is.1 tests.1)

pub bytes_text-unescaped : (bytes : List ℕ) → list_all is_unescaped bytes ≡ true → IsUtf8 bytes → bytes_text bytes ≡ bytes
bytes_text-unescaped bytes all text =
    subst (λ (t : List ℕ). bytes_text t ≡ t) text.1.1 (spelled text.0 text.1.0 (subst (λ (t : List ℕ). list_all is_unescaped t ≡ true) (sym text.1.1) all))

pub ruleset plain_texts = (bytes_text-ascii_all, bytes_text-unescaped)
