use Rattle.std.proofs.Common.{length, ap, arith, subst, sym, All}
use Rattle.overlay_map.specs.Layer.{HasFewRows}
use Rattle.overlay_map.proofs.FewRows.{length-candidates_from}
use Rattle.overlay_map.proofs.stack.Stack.candidates.Goals as goal

pub returns-clause-few : goal.returns-clause-few
returns-clause-few c =
    let few = subst (λ layers. All HasFewRows layers) (sym c.deref.ensures.value) c.self.inside.few_rows in
    let same = ap length c.new.ensures in
    omega (arith, same, length-candidates_from 0 c.deref.result.now c.args.id.0 few, c.self.inside.few, c.deref.ensures.len)
