use Rattle.std.proofs.lemmas.List.{drop_more}
use Rattle.names.specs.declared.named_set.NamedSet.{NamedSet}
use Rattle.names.specs.NamedSet.{named_set_of}
use Rattle.names.specs.AskedNames.{names_in_set}
use Rattle.names.proofs.AskedSteps.{JoinsBut-next, JoinsBut-end}
use Rattle.names.proofs.asked_names.names_in_sets.Goals as goal

pub loop-set-preserved : goal.loop-set-preserved
loop-set-preserved c =
    JoinsBut-next (λ (set : NamedSet). names_in_set (named_set_of set)) _ _ _ _ _ _ c.loop-set.invariant
    (drop_more c.args.sets.now c.loop-set.set-index _ c.loop-set-test.true) c.in_ok-push_name_of_set.ensures

pub returns : goal.returns
returns c = JoinsBut-end (λ (set : NamedSet). names_in_set (named_set_of set)) _ c.args.sets.now _ _ c.loop-set.invariant c.loop-set-test.false
