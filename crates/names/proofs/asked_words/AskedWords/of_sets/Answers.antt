use Rattle.std.proofs.Common.{List, map, sym, subst}
use Rattle.std.proofs.lemmas.List.{map_more, take_all}
use Rattle.names.specs.NamedSet.{NamedSetOf, named_set_of}
use Rattle.names.specs.declared.named_set.NamedSet.{NamedSet}
use Rattle.names.proofs.AskedWordsSteps.{asked-none, nothing-more, AreNothing}
use Rattle.names.proofs.asked_words.AskedWords.of_sets.Goals as goal

pub loop-set-preserved : goal.loop-set-preserved
loop-set-preserved c =
    subst (λ (sets : List NamedSetOf). AreNothing sets (record { words = c.insert.new.self })) (sym (map_more named_set_of c.args.sets.now c.loop-set.set-index _ c.loop-set-test.true))
    (nothing-more _ _ (record { words = c.loop-set.words }) (record { words = c.insert.new.self }) c.loop-set.invariant c.in_ok-insert.ensures.updates.0)

pub returns : goal.returns
returns c = λ packages.
    asked-none packages _ _
    (subst (λ (sets : List NamedSet). AreNothing (map named_set_of sets) (record { words = c.loop-set.words })) (take_all c.loop-set.set-index c.args.sets.now c.loop-set-test.false) c.loop-set.invariant)
