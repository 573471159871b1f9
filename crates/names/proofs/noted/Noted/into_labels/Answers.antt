use Rattle.std.proofs.Common.{map, ap, ◌∙◌}
use Rattle.std.specs.Option.{option_or}
use Rattle.names.specs.Noted.{by_number, id_at}
use Rattle.names.specs.StackLabels.{first_with}
use Rattle.names.proofs.NotesSteps.{AddsAllBut-next, AddsAllBut-end}
use Rattle.names.proofs.noted.Noted.into_labels.Goals as goal

pub loop-id-init : goal.loop-id-init
loop-id-init c = λ label.
    ap (λ numbers. option_or (id_at c.args.self.labels label) (first_with (map by_number numbers) label)) (c.into_iter-id-iterator.ensures.into_iter_gives ∙ c.difference-id-items.ensures.rest)

pub loop-id-preserved : goal.loop-id-preserved
loop-id-preserved c = AddsAllBut-next c.args.self.labels c.loop-id.labels c.add_label.new.labels _ _ _ _ c.loop-id.invariant c.in-Some.ensures.steps c.in_ok-add_label.ensures.added

pub returns : goal.returns
returns c = (AddsAllBut-end c.args.self.labels c.loop-id.labels _ _ c.loop-id.invariant c.in-None.ensures.steps.0, c.difference-id-items.ensures.ordered_self)
