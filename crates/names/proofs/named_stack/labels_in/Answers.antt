use Rattle.std.proofs.Common.{map, ap, ◌∙◌}
use Rattle.std.proofs.lemmas.List.{map_push}
use Rattle.names.specs.Merged.{labelled_of}
use Rattle.names.proofs.NamedSteps.{labels-end}
use Rattle.names.proofs.Pushed.{map-next}
use Rattle.names.proofs.named_stack.labels_in.Goals as goal

pub loop-label-preserved : goal.loop-label-preserved
loop-label-preserved c =
    map-next _ _ _ _ _ _ _ c.loop-label.invariant c.in-Some.ensures.steps (ap (map labelled_of) c.in_ok-push.ensures.items ∙ map_push labelled_of c.loop-label.labels.items _)

pub returns : goal.returns
returns c = labels-end c.args.found.now _ _ c.len.ensures.ordered c.loop-label.invariant c.in-None.ensures.steps.0
