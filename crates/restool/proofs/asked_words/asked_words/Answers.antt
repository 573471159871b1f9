use Rattle.std.proofs.Common.{arith}
use Rattle.std.proofs.lemmas.Result.{err_from_is_err_and}
use Rattle.restool.specs.AskedWords.{asked_word}
use Rattle.restool.proofs.WordSteps.{words_stop}
use Rattle.restool.proofs.asked_words.asked_words.Goals as goal

pub returns-in_err-asked_word : goal.returns-in_err-asked_word
returns-in_err-asked_word c =
    let p = err_from_is_err_and c.from_residual.result c.from_residual.ensures.1 in
    rw (p.1, p.2) (words_stop (asked_word c.args.asks) _ _ _ _ _ c.loop-word.invariant (omega arith) c.in_err-asked_word.ensures)
