use Rattle.std.proofs.Common.{subst}
use Rattle.cert_maker.specs.cert_checker.box_trace.Halving.{IsHalving}
use Rattle.cert_maker.specs.cert_checker.declared.rule.Rule.TheVariants.{TestKind, EmptyHalf}
use Rattle.stack_diff.specs.LookUpBoxes.{trace_of_look_up}
use Rattle.stack_diff.proofs.loaded_rows.open_halves.Goals as goal

pub unreachable-requires : goal.unreachable-requires
unreachable-requires c = c.requires TestKind (subst (IsHalving _ _ _ _) c.in-WrongKind.is c.in_ok-halving.ensures.halved)

pub unreachable-requires-in-EmptyHalf : goal.unreachable-requires-in-EmptyHalf
unreachable-requires-in-EmptyHalf c =
    let empty = subst (IsHalving _ _ _ _) c.in-EmptyHalf.is c.in_ok-halving.ensures.halved in
    c.requires EmptyHalf empty.1

pub returns-clause-halves : goal.returns-clause-halves
returns-clause-halves c = subst (IsHalving _ _ _ _) c.in-Opened.is c.in_ok-halving.ensures.halved

pub returns-clause-open : goal.returns-clause-open
returns-clause-open c = λ stack look_up is_open all. c.in_ok-halving.ensures.reached stack (trace_of_look_up look_up) is_open all
