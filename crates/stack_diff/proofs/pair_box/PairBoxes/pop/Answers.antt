use Rattle.std.proofs.Common.{sym, ◌∙◌, ap}
use Rattle.cert_maker.specs.cert_checker.box_trace.OpenBox.{boxes_of}
use Rattle.cert_maker.proofs.cert_checker.box_trace.OpenBoxSteps.{boxes-push}
use Rattle.stack_diff.proofs.Both.{none-left}
use Rattle.stack_diff.proofs.pair_box.PairBoxes.pop.Goals as goal

pub unreachable-requires : goal.unreachable-requires
unreachable-requires c =
    none-left (boxes_of c.pop.new.self) _ (sym (boxes-push _ _ _ c.in_ok-before.ensures.items) ∙ sym c.requires ∙ ap boxes_of c.in-None.ensures.none)

pub returns : goal.returns
returns c = record { before = c.in_ok-before.ensures.items; after = c.in-Some.ensures.items }
