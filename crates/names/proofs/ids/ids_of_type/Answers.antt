use Rattle.std.proofs.Common.{ℕ, List, map, ap, ◌∙◌}
use Rattle.std.proofs.lemmas.Result.{IfOk-weaker}
use Rattle.names.specs.IdsOfType.{id_of_number, ids_of_type}
use Rattle.names.proofs.IdSteps.{PutsTablesBut-next, PutsTablesBut-end}
use Rattle.names.proofs.ids.ids_of_type.Goals as goal

pub loop-table-preserved : goal.loop-table-preserved
loop-table-preserved c = PutsTablesBut-next _ _ _ _ _ _ _ _ c.loop-table.invariant c.loop-table-test.true c.table-item.is c.in_ok-put_numbers.ensures

pub returns : goal.returns
unfolding ids_of_type
returns c =
    IfOk-weaker c.ids_in.result _ _ (λ ids is. is ∙ ap (λ (numbers : List ℕ). map id_of_number numbers) (PutsTablesBut-end _ _ _ _ _ _ c.loop-table.invariant c.loop-table-test.false))
    c.ids_in.ensures
