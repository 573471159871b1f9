use Rattle.std.proofs.Common.{Ok, map, ap, inl, refl, sym, ◌∙◌}
use Rattle.std.proofs.lemmas.Result.{err_from_is_err_and}
use Rattle.stack_diff.specs.Stacks.{stacks_of}
use Rattle.stack_diff.specs.names.NamedSet.{named_set_of}
use Rattle.stack_diff.specs.names.Pairs.{pair_of}
use Rattle.resource_tool.specs.Diff.{OpenDiffOf}
use Rattle.resource_tool.specs.Values.{opened_values}
use Rattle.resource_tool.specs.ValuesOutput.{IsValuesOutput}
use Rattle.resource_tool.proofs.Asked.{asked-stops, asked-with}
use Rattle.resource_tool.proofs.Stopped.{answered}
use Rattle.resource_tool.proofs.values.OpenedValues.values_of.Goals as goal

pub returns-in_err-pairs : goal.returns-in_err-pairs
returns-in_err-pairs g c =
    let opened = opened_values c.args.self.now in
    let p = err_from_is_err_and c.from_residual.result c.from_residual.ensures.1 in
    let stopped = asked-stops (map named_set_of c.args.sets.now) opened opened (stacks_of c.args.stacks) c.in_err-pairs.field-0.0 refl c.requires c.in_err-pairs.ensures.asked in
    rw (p.1, p.2) (λ told. inl (stopped told), λ told. refl)

pub returns : goal.returns
returns g c =
    let asked = c.args.asked.now in
    let opened = opened_values c.args.self.now in
    let pairs = map pair_of c.deref.result.now in
    answered (λ (of : OpenDiffOf). IsValuesOutput asked.form of.pairs asked.max_nodes) (λ of. of.opened) g.W.Write.contents c.args.out.now c.values.new.out
    _ (record { opened = opened; pairs = pairs }) c.values.result c.status_or_stop.result
    (asked-with (map named_set_of c.args.sets.now) opened opened (stacks_of c.args.stacks) pairs refl c.requires
    (c.in_ok-pairs.ensures.asked ∙ ap (λ items. Ok (map pair_of items)) (sym c.deref.ensures.value)))
    c.values.ensures c.status_or_stop.ensures
