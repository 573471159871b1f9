-- What conditions answer, by the way that their code takes.
use Rattle.std.proofs.Common.{◌≡◌, ℕ, Bool, true, false, not, ◌==◌, ◌&&◌, ◌||◌, ap, sym, ◌∙◌, arith}
use Rattle.std.proofs.lemmas.Bool.Decides.{nat_tests}
use Rattle.config_record.specs.ComparedNumber.{has_script_or_variant}
use Rattle.config_match.specs.Condition.{is_equal, keys_suit, plain_suits}
use Rattle.config_match.specs.Locale.{language, region, says_nothing}

pub keys_exposed : (a d : ℕ) → false ≡ is_equal a d → a ≡ 1 → (d == 3) ≡ keys_suit a d
keys_exposed a d other exposed = ap (λ (n : ℕ). n == 1 && d == 3) (sym exposed) ∙ ap (λ (b : Bool). b || (a == 1 && d == 3)) other

pub keys_other : (a d : ℕ) → false ≡ is_equal a d → (a ≡ 1 → ⊥) → (a == 1) ≡ keys_suit a d
keys_other a d other hidden = grind (arith, nat_tests)

pub plain_script : (a d : ℕ) (script : Bool) → script ≡ true → true ≡ has_script_or_variant a → not script ≡ plain_suits a d
plain_script a d script is of_the_record =
    ap not is ∙ ap (λ (b : Bool). not b && (says_nothing a || (language a == language d && is_equal (region a) (region d)))) of_the_record

pub plain_nothing : (a d : ℕ) → false ≡ has_script_or_variant a → true ≡ says_nothing a → true ≡ plain_suits a d
plain_nothing a d plain nothing =
    let rest : Bool = language a == language d && is_equal (region a) (region d) in
    ap (λ (b : Bool). b || rest) nothing ∙ ap (λ (b : Bool). not b && (says_nothing a || rest)) plain

pub plain_language : (a d l m r s : ℕ) (suits : Bool) → false ≡ has_script_or_variant a → false ≡ says_nothing a → l ≡ language a → m ≡ language d → l ≡ m
    → r ≡ region a → s ≡ region d → suits ≡ is_equal r s → suits ≡ plain_suits a d
plain_language a d l m r s suits plain something first second same one other is =
    let alike : true ≡ (language a == language d) = grind (arith, nat_tests) in
    let regions : suits ≡ is_equal (region a) (region d) = rw (← one, ← other) is in
    let rest : Bool = language a == language d && is_equal (region a) (region d) in
    regions ∙ ap (λ (b : Bool). b && is_equal (region a) (region d)) alike ∙ ap (λ (b : Bool). b || rest) something ∙ ap (λ (b : Bool). not b && (says_nothing a || rest)) plain
