use Rattle.std.proofs.Common.{◌≡◌, ◌||◌, true, refl, sym, ◌∙◌}
use Rattle.std.proofs.lemmas.Bool.{or_right}
use Rattle.bags_themes.specs.Theme.{value_of, is_undefined}
use Rattle.bags_themes.proofs.ThemeSteps.{AppliesRows-set}
use Rattle.bags_themes.proofs.attribute_values.set_row.Goals as goal
use Rattle.bags_themes.proofs.attribute_values.set_row.Goals.{then-force-via-then-force, then-force-via-else-force+then-is_undefined}

sets : (c : goal.In_ok-insert) → (c.args.force || is_undefined (value_of c.args.values.now.entries c.args.row.now.name.0)) ≡ true
sets c = elim c.then-force.branch [
  | then-force-via-then-force w ↦ rw w.if-force.true refl
  | then-force-via-else-force+then-is_undefined w ↦ or_right _ _ (sym w.is_undefined.ensures ∙ w.if-is_undefined.true)
]

pub returns-in_ok-insert-clause-applied : goal.returns-in_ok-insert-clause-applied
returns-in_ok-insert-clause-applied c =
    AppliesRows-set c.args.force c.args.row.now _ c.args.values.now.entries c.insert.new.self.entries refl (sets c) c.in_ok-insert.ensures.updates.0
