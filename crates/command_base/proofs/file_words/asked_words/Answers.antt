use Rattle.std.proofs.Common.{arith}
use Rattle.std.proofs.lemmas.Result.{err_from_is_err_and}
use Rattle.command_base.proofs.FileWordsSteps.{WordsLeft-none, WordsLeft-next, WordsLeft-stops, WordsLeft-end}
use Rattle.command_base.proofs.file_words.asked_words.Goals as goal

pub loop-word-init : goal.loop-word-init
loop-word-init g c = WordsLeft-none (g.I.Inputs.places c.args.inputs.now) c.new-asked.result c.args.words.now c.new-asked.ensures.items

pub loop-word-preserved : goal.loop-word-preserved
loop-word-preserved g c =
    WordsLeft-next (g.I.Inputs.places c.args.inputs.now) c.loop-word.asked c.push_words.new.asked c.loop-word.word-index c.args.words.now _
    c.loop-word.invariant c.loop-word-test.true c.in_ok-push_words.ensures

pub returns-in_err-push_words : goal.returns-in_err-push_words
returns-in_err-push_words g c =
    let p = err_from_is_err_and c.from_residual.result c.from_residual.ensures.1 in
    rw (p.1, p.2) (WordsLeft-stops (g.I.Inputs.places c.args.inputs.now) c.loop-word.asked c.loop-word.word-index c.args.words.now _ c.in_err-push_words.field-0.0
    c.loop-word.invariant c.loop-word-test.true c.in_err-push_words.ensures)

pub returns : goal.returns
returns g c =
    WordsLeft-end (g.I.Inputs.places c.args.inputs.now) c.loop-word.asked c.loop-word.word-index c.args.words.now c.loop-word.invariant (omega arith)
