use Rattle.std.proofs.Common.{◌≡◌, ◌-◌, ◌<◌, ◌++◌, ◌∷◌, length}
use Rattle.locales.specs.Line.{first_above}
use Rattle.locales.proofs.tree.line.Given as goal

-- the line so far, and what is still above its last locale
abbrev pub invariant-up : goal.invariant-up
invariant-up l =
    (length l.line.items < 5)
    × (l.line.items ++ first_above (5 - length l.line.items) l.last l.script ≡ l.locale ∷ first_above 4 l.locale l.script)

abbrev pub decreases-up : goal.decreases-up
decreases-up l = 5 - length l.line.items
