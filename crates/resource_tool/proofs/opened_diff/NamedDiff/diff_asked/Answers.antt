use Rattle.std.proofs.Common.{Ok, map, ap, inl, refl, sym, ◌∙◌}
use Rattle.std.proofs.lemmas.Result.{err_from_is_err_and}
use Rattle.stack_diff.specs.Stacks.{stacks_of}
use Rattle.stack_diff.specs.names.NamedSet.{named_set_of}
use Rattle.stack_diff.specs.names.Pairs.{pair_of}
use Rattle.resource_tool.specs.Diff.{OpenDiffOf}
use Rattle.resource_tool.specs.DiffOutput.{IsDiffOutput}
use Rattle.resource_tool.specs.OpenedDiffSeen.{named_diff}
use Rattle.resource_tool.proofs.Asked.{asked-stops, asked-with}
use Rattle.resource_tool.proofs.Stopped.{answered}
use Rattle.resource_tool.proofs.opened_diff.NamedDiff.diff_asked.Goals as goal

pub returns-in_err-pairs : goal.returns-in_err-pairs
returns-in_err-pairs g c =
    let named = named_diff c.args.self.now in
    let p = err_from_is_err_and c.from_residual.result c.from_residual.ensures.1 in
    let stopped = asked-stops (map named_set_of c.args.sets.now) named named (stacks_of c.stacks.result) c.in_err-pairs.field-0.0 refl c.stacks.ensures c.in_err-pairs.ensures.asked in
    rw (p.1, p.2) (λ told. inl (stopped told), λ told. refl)

pub returns : goal.returns
returns g c =
    let asked = c.args.asked.now in
    let named = named_diff c.args.self.now in
    let pairs = map pair_of c.deref.result.now in
    answered (λ (diff : OpenDiffOf). IsDiffOutput asked.form diff.pairs asked.max_nodes) (λ diff. diff.opened) g.W.Write.contents c.args.out.now c.diff.new.out
    _ (record { opened = named; pairs = pairs }) c.diff.result c.status_or_stop.result
    (asked-with (map named_set_of c.args.sets.now) named named (stacks_of c.stacks.result) pairs refl c.stacks.ensures
    (c.in_ok-pairs.ensures.asked ∙ ap (λ items. Ok (map pair_of items)) (sym c.deref.ensures.value)))
    c.diff.ensures c.status_or_stop.ensures
