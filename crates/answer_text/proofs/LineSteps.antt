-- Texts of ASCII on one line.
use Rattle.std.proofs.Common.{◌≡◌, ℕ, suc, ◌<◌, true, false, List, [], ◌∷◌, ◌++◌, refl, sym, ap, ◌∙◌, arith}
use Rattle.std.proofs.Math.Utf8.{scalar, scalars}
use Rattle.std.proofs.lemmas.Bool.Decides.{nat_tests}
use Rattle.std.proofs.lemmas.Str.{encode_ascii, encodes-IsAscii}
use Rattle.std.specs.List.{flat_map}
use Rattle.std.specs.Str.{IsAscii}
use Rattle.bstr.specs.Utf8.{lossy_chars}
use Rattle.bstr.proofs.lemmas.EncodeLemmas.{lossy_chars-encode}
use Rattle.answer_text.specs.OnLine.{character_on_line, on_line}
use Rattle.names.specs.Plain.{breaks_line}

ascii-scalar : (c : ℕ) → c < 128 → scalar c ≡ true
ascii-scalar c low = grind (arith, nat_tests)

ascii-scalars : (text : List ℕ) → IsAscii text → scalars text ≡ true
ascii-scalars [] ascii = refl
ascii-scalars (c ∷ text) ascii = rw (ascii-scalar c (ascii 0)) (ascii-scalars text (λ i. ascii (suc i)))

ascii-character : (c : ℕ) → c < 128 → character_on_line c ≡ c ∷ []
unfolding character_on_line breaks_line
ascii-character c low = let plain : breaks_line c ≡ false = grind (arith, nat_tests) in rw plain (encode_ascii c low)

ascii-characters : (text : List ℕ) → IsAscii text → flat_map character_on_line text ≡ text
ascii-characters [] ascii = refl
ascii-characters (c ∷ text) ascii =
    ap (λ (t : List ℕ). t ++ flat_map character_on_line text) (ascii-character c (ascii 0)) ∙ ap (λ (t : List ℕ). c ∷ t) (ascii-characters text (λ i. ascii (suc i)))

pub ascii-on_line : (text : List ℕ) → IsAscii text → text ≡ on_line text
unfolding on_line
ascii-on_line text ascii =
    let characters : lossy_chars text ≡ text = ap lossy_chars (sym (encodes-IsAscii text ascii)) ∙ lossy_chars-encode text (ascii-scalars text ascii) in
    sym (ap (λ (cs : List ℕ). flat_map character_on_line cs) characters ∙ ascii-characters text ascii)

pub ruleset ascii_steps = ascii-on_line
