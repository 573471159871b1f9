use Rattle.std.proofs.lemmas.List.{drop_all}
use Rattle.config_record.proofs.SeparatorSteps.{Continues-joined, ContinuesAllBut-none, ContinuesAllBut-next, ContinuesAllBut-end}
use Rattle.notation.specs.NumberWord.{number_word}
use Rattle.notation.specs.DevicesNotation.{word_unless}
use Rattle.notation.proofs.lists.write_numbers_but.Goals as goal

pub loop-number-init : goal.loop-number-init
loop-number-init g c = ContinuesAllBut-none (word_unless (number_word c.args.coord) c.args.others.now) _ _ _

pub loop-number-preserved : goal.loop-number-preserved
loop-number-preserved g c =
    ContinuesAllBut-next (word_unless (number_word c.args.coord) c.args.others.now) _ _ _ _ _ _ c.args.numbers.now c.loop-number.number-index _ c.loop-number.invariant c.loop-number-test.true c.in_ok-write_number_unless.ensures

pub returns : goal.returns
returns g c =
    Continues-joined _ _ _ _ _ (ContinuesAllBut-end _ _ _ _ _ _ _ c.loop-number.invariant (drop_all c.loop-number.number-index c.args.numbers.now c.loop-number-test.false))
