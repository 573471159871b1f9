use Rattle.std.proofs.Common.{◌≡◌, ℕ, ◌+◌, List, length, Option, Some, None}
use Rattle.std.specs.Borrow.{Bor}
use Rattle.notation.specs.LineLocale.{IsGivenFor}
use Rattle.notation.specs.PartsSeen.{parts_behind}
use Rattle.notation.specs.Parts.{parts_of}
use Rattle.notation.specs.Said.{with_parts}
use Rattle.notation.specs.Config.{nothing_said}
use Rattle.notation.proofs.read.said_in.Given as goal

-- what is said so far, and the parts that are left
abbrev pub invariant-parts : goal.invariant-parts
invariant-parts l =
    record {
      value : with_parts l.rule (parts_behind l.left) l.said ≡ with_parts l.rule (parts_of l.line) (nothing_said l.rule);
      given : IsGivenFor l.rule l.said.fields.locale;
    }

abbrev pub size_of_left : Option (Bor (List ℕ)) → ℕ
size_of_left None = 0
size_of_left (Some text) = length text.now + 1

abbrev pub decreases-parts : goal.decreases-parts
decreases-parts l = size_of_left l.left
