-- How what is said goes on, part by part.
use Rattle.std.proofs.Common.{◌≡◌, ℕ, List, ◌∷◌, Option, Some, None, Result, Ok, Err, refl, sym, ap, ◌∙◌}
use Rattle.std.specs.Borrow.{Bor}
use Rattle.config_record.specs.locales.declared.locale_rule.LocaleRule.{LocaleRule}
use Rattle.notation.specs.declared.said.Said.{Said}
use Rattle.notation.specs.Fault.{FaultOf}
use Rattle.notation.specs.Parts.{parts_of}
use Rattle.notation.specs.PartsSeen.{parts_behind}
use Rattle.notation.specs.Said.{with_part, with_parts}

with_parts-ok : (rule : LocaleRule) (part : List ℕ) (parts : List (List ℕ)) (said next : Said) → Ok next ≡ with_part rule part said → with_parts rule (part ∷ parts) said ≡ with_parts rule parts next
unfolding with_parts
with_parts-ok rule part parts said next e = rw (← e) refl

with_parts-err : (rule : LocaleRule) (part : List ℕ) (parts : List (List ℕ)) (said : Said) (fault : FaultOf) → Err fault ≡ with_part rule part said → with_parts rule (part ∷ parts) said ≡ Err fault
unfolding with_parts
with_parts-err rule part parts said fault e = rw (← e) refl

-- the parts of what is left: one, and those behind it
first_of : (rule : LocaleRule) (left : Option (Bor (List ℕ))) (text : Bor (List ℕ)) (parts : List (List ℕ)) (said : Said) (all : Result Said FaultOf)
    → left ≡ Some text → parts_of text.now ≡ parts → with_parts rule (parts_behind left) said ≡ all → with_parts rule parts said ≡ all
first_of rule left text parts said all is cut before =
    ap (λ (parts : List (List ℕ)). with_parts rule parts said) (sym cut ∙ ap parts_behind (sym is)) ∙ before

pub goes_on : (rule : LocaleRule) (left : Option (Bor (List ℕ))) (text : Bor (List ℕ)) (part : List ℕ) (behind : Option (Bor (List ℕ))) (said next : Said) (all : Result Said FaultOf)
    → left ≡ Some text → parts_of text.now ≡ part ∷ parts_behind behind → Ok next ≡ with_part rule part said → with_parts rule (parts_behind left) said ≡ all
    → with_parts rule (parts_behind behind) next ≡ all
goes_on rule left text part behind said next all is cut e before =
    sym (with_parts-ok rule part (parts_behind behind) said next e) ∙ first_of rule left text (part ∷ parts_behind behind) said all is cut before

pub stops : (rule : LocaleRule) (left : Option (Bor (List ℕ))) (text : Bor (List ℕ)) (part : List ℕ) (behind : Option (Bor (List ℕ))) (said : Said) (fault : FaultOf) (all : Result Said FaultOf)
    → left ≡ Some text → parts_of text.now ≡ part ∷ parts_behind behind → Err fault ≡ with_part rule part said → with_parts rule (parts_behind left) said ≡ all
    → Err fault ≡ all
stops rule left text part behind said fault all is cut e before =
    sym (with_parts-err rule part (parts_behind behind) said fault e) ∙ first_of rule left text (part ∷ parts_behind behind) said all is cut before

pub ends : (rule : LocaleRule) (left : Option (Bor (List ℕ))) (said : Said) (all : Result Said FaultOf) → left ≡ None → with_parts rule (parts_behind left) said ≡ all → Ok said ≡ all
unfolding with_parts
ends rule left said all is before = ap (λ (left : Option (Bor (List ℕ))). with_parts rule (parts_behind left) said) (sym is) ∙ before
