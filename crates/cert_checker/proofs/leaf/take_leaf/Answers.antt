use Rattle.std.proofs.Common.{◌≡◌, ◌≢◌, List, Some, sym, refl, subst}
use Rattle.std.proofs.lemmas.Bool.{MatchBool-at_true, MatchBool-at_false}
use Rattle.box_trace.specs.config_record.DeviceSeen.{device_numbers}
use Rattle.box_trace.specs.declared.common.CommonTrace.{CommonTrace}
use Rattle.box_trace.specs.CommonTrace.{IsCommonTrace}
use Rattle.box_trace.specs.Parting.{answer_of}
use Rattle.cert_tree.specs.box_answers.NumberSet.{SetOf}
use Rattle.cert_tree.specs.box_answers.Members.{IsCorner}
use Rattle.cert_checker.specs.declared.rule.Rule.{Rule}
use Rattle.cert_checker.specs.declared.verdict.Shown.TheVariants.{One}
use Rattle.cert_checker.specs.OpenBoxes.{TakesLeaf}
use Rattle.cert_checker.proofs.LeafSteps.{two_traces, as_claimed, not_as_claimed}
use Rattle.cert_checker.proofs.leaf.take_leaf.Goals as goal

pub returns-in-Mixed : goal.returns-in-Mixed
returns-in-Mixed c = λ trace reached.
    let part = c.args.part.now.members in
    let common = subst (λ (k : CommonTrace). IsCommonTrace k part trace) c.in-Mixed.is (c.in_ok-parting.ensures.common trace reached) in
    let pair = c.in-Mixed.parting.pair in
    two_traces trace c.args.claimed part (answer_of c.in-Mixed.parting) pair.yes pair.no pair.coord common.told.separates common.divides common.told.trace_tells

pub returns-in-One : goal.returns-in-One
returns-in-One c = λ trace reached.
    let part = c.args.part.now.members in
    let common = subst (λ (k : CommonTrace). IsCommonTrace k part trace) c.in-One.is (c.in_ok-parting.ensures.common trace reached) in
    let same : c.in-One.end ≡ c.args.claimed = MatchBool-at_true _ _ c.if-is_same.true c.is_same.ensures in
    as_claimed trace (record { steps = common.0; end = c.in-One.end }) c.args.claimed part c.requires common.1 same

pub returns-in-One-2 : goal.returns-in-One-2
returns-in-One-2 c = λ trace reached.
    let part = c.args.part.now.members in
    let common = subst (λ (k : CommonTrace). IsCommonTrace k part trace) c.in-One.is (c.in_ok-parting.ensures.common trace reached) in
    let other : c.in-One.end ≢ c.args.claimed = MatchBool-at_false _ _ c.if-is_same.false c.is_same.ensures in
    let corner = subst (λ (sets : List SetOf). IsCorner sets (device_numbers c.corner.result)) c.in_ok-parting.ensures.members c.corner.ensures in
    subst (λ (r : Rule). TakesLeaf trace c.args.claimed part (Some (record { rule = r; shown = One c.corner.result c.in-One.end }))) (sym c.rule_of.ensures)
    (not_as_claimed trace (record { steps = common.0; end = c.in-One.end }) c.args.claimed c.in-One.end part c.corner.result refl other common.1 corner)
