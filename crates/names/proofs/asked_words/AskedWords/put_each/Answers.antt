use Rattle.std.proofs.Common.{◌||◌, List, map, sym, subst}
use Rattle.std.proofs.lemmas.List.{map_more, take_all}
use Rattle.names.specs.AskedWords.{PutsFor}
use Rattle.names.specs.NamedSet.{NamedSetOf, named_set_of}
use Rattle.names.specs.declared.named_set.NamedSet.{NamedSet}
use Rattle.names.proofs.AskedWordsSteps.{put-more, put-none}
use Rattle.names.proofs.asked_words.AskedWords.put_each.Goals as goal

pub loop-word-init : goal.loop-word-init
loop-word-init c = put-none c.args.id c.args.self.now

pub loop-word-preserved : goal.loop-word-preserved
loop-word-preserved c =
    subst (λ (words : List NamedSetOf). PutsFor words c.args.id c.args.self.now c.put.new.self (c.loop-word.asked || c.in_ok-own.own)) (sym (map_more named_set_of c.args.words.now c.loop-word.word-index _ c.loop-word-test.true))
    (put-more _ _ c.args.id _ _ _ _ _ c.loop-word.invariant c.in_ok-own.ensures)

pub returns : goal.returns
returns c =
    subst (λ (words : List NamedSet). PutsFor (map named_set_of words) c.args.id c.args.self.now c.loop-word.self c.loop-word.asked) (take_all c.loop-word.word-index c.args.words.now c.loop-word-test.false) c.loop-word.invariant
