use Rattle.std.proofs.Common.{◌∙◌, ◌++◌, List, ℕ, length, take, ap, sym, arith}
use Rattle.std.proofs.lemmas.List.{append-nil, length-drop}
use Rattle.overlay_map.proofs.ZeroSteps.{has_unit-size, passed-next, passed-drop, before_zero-none}
use Rattle.overlay_map.proofs.package_header.before_zero.Goals as goal

pub split_at-requires : goal.split_at-requires
split_at-requires c = has_unit-size c.loop-left.left.now (sym c.has_unit.ensures ∙ c.loop-left-test.true)

pub loop-left-preserved : goal.loop-left-preserved
loop-left-preserved c =
    let so_far = c.loop-left.invariant in
    let has = sym c.has_unit.ensures ∙ c.loop-left-test.true in
    record {
      within = omega (arith, has_unit-size c.loop-left.left.now has, ap (λ (t : List ℕ). length t) so_far.behind, length-drop c.loop-left.size c.args.units.now, so_far.within);
      behind = c.split_at.ensures.back ∙ passed-drop c.args.units.now c.loop-left.left.now c.loop-left.size so_far.behind;
      before = rw c.split_at.ensures.back (passed-next c.args.units.now c.loop-left.left.now c.loop-left.size so_far.behind has so_far.before);
    }

pub returns : goal.returns
returns c =
    let so_far = c.loop-left.invariant in
    let none = before_zero-none c.loop-left.left.now (sym c.has_unit.ensures ∙ c.loop-left-test.false) in
    sym (append-nil (take c.loop-left.size c.args.units.now))
    ∙ ap (λ (t : List ℕ). take c.loop-left.size c.args.units.now ++ t) (sym none)
    ∙ so_far.before
