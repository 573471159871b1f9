-- What is told of made maps.
use Rattle.std.proofs.Common.{◌≡◌, ◌||◌, ◌++◌, ◌∙◌, ℕ, Bool, true, false, List, [], Option, Some, None, Result, Ok, refl, sym, ap, if◌then◌else◌, arith}
use Rattle.std.specs.Prelude.{IfSome}
use Rattle.resource_tool.specs.command_base.declared.side.Side.{Side}
use Rattle.resource_tool.specs.command_base.Inputs.{Places}
use Rattle.resource_tool.specs.command_base.LeftOut.{has_overlays, left_of}
use Rattle.resource_tool.specs.command_base.StackBytes.{LayerBytes}
use Rattle.resource_tool.specs.command_base.Stop.{StopOf}
use Rattle.restool.specs.Left.{said_of}

-- ---- of one word

pub read-lines : (known : Option Places) (side : Option Side) (word lines : List ℕ) (layers : List LayerBytes) (read : Places → Result (List LayerBytes) StopOf)
    → lines ≡ left_of side word layers → IfSome known (λ places. read places ≡ Ok layers) → IfSome known (λ places. lines ≡ said_of side word (read places))
read-lines None side word lines layers read is at = tt
read-lines (Some places) side word lines layers read is at = rw (at, is) refl

pub unmade-lines : (known : Option Places) (side : Option Side) (word lines : List ℕ) (read : Places → Result (List LayerBytes) StopOf)
    → has_overlays word ≡ false → lines ≡ [] → IfSome known (λ places. lines ≡ said_of side word (read places))
unmade-lines None side word lines read off none = tt
unmade-lines (Some places) side word lines read off none = rw (off, none) refl

pub nothing-left : (side : Option Side) (word lines : List ℕ) (layers : List LayerBytes) → lines ≡ left_of side word layers → has_overlays word ≡ false → lines ≡ []
nothing-left side word lines layers is off = is ∙ rw off refl

-- where the layers of one side are read
pub read-on-side : (known : Option Places) (side : Option Side) (word lines : List ℕ) (layers : List LayerBytes) (read : Places → Result (List LayerBytes) StopOf)
    → lines ≡ left_of side word layers → IfSome known (λ places. read places ≡ Ok layers)
    → IfSome known (λ places. (layers : List LayerBytes) × (read places ≡ Ok layers) × (lines ≡ said_of side word (Ok layers)))
read-on-side None side word lines layers read is at = tt
read-on-side (Some places) side word lines layers read is at = (layers, at, is)

-- ---- of two words

neither : (first second : Bool) (xs ys : List ℕ) → (first || second) ≡ false → (if first then xs else []) ++ (if second then ys else []) ≡ []
neither true second xs ys off = absurd (grind (arith, off))
neither false true xs ys off = absurd (grind (arith, off))
neither false false xs ys off = refl

pub unmade-of-both : (known : Option Places) (first second : Option Side) (old new lines : List ℕ) (olds news : Places → Result (List LayerBytes) StopOf)
    → (has_overlays old || has_overlays new) ≡ false → lines ≡ [] → IfSome known (λ places. lines ≡ said_of first old (olds places) ++ said_of second new (news places))
unmade-of-both None first second old new lines olds news off none = tt
unmade-of-both (Some places) first second old new lines olds news off none = none ∙ sym (neither (has_overlays old) (has_overlays new) _ _ off)

pub read-of-both : (known : Option Places) (first second : Option Side) (old new before behind lines : List ℕ) (olds news : Places → Result (List LayerBytes) StopOf)
    → IfSome known (λ places. (layers : List LayerBytes) × (olds places ≡ Ok layers) × (before ≡ said_of first old (Ok layers)))
    → IfSome known (λ places. (layers : List LayerBytes) × (news places ≡ Ok layers) × (behind ≡ said_of second new (Ok layers)))
    → lines ≡ before ++ behind → IfSome known (λ places. lines ≡ said_of first old (olds places) ++ said_of second new (news places))
read-of-both None first second old new before behind lines olds news of_old of_new are = tt
read-of-both (Some places) first second old new before behind lines olds news of_old of_new are = rw (of_old.1, of_new.1, are, of_old.2, of_new.2) refl
