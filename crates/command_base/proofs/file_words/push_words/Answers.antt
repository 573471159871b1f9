use Rattle.std.proofs.Common.{ℕ, List, Result, ap, sym, subst, ◌∙◌}
use Rattle.std.proofs.lemmas.Option.{IfSome_then}
use Rattle.std.proofs.lemmas.Result.{err_from_is_err_and}
use Rattle.contract_words.specs.Sequences.{with_front}
use Rattle.command_base.specs.FileWords.{strings_held, words_of_file}
use Rattle.command_base.specs.Stop.{GivesOrStops, StopOf}
use Rattle.command_base.proofs.ReadSteps.{of-word_file}
use Rattle.command_base.proofs.file_words.push_words.Goals as goal

pub returns-in_err-bytes-in-Some : goal.returns-in_err-bytes-in-Some
returns-in_err-bytes-in-Some g c =
    let p = err_from_is_err_and c.from_residual.result c.from_residual.ensures.1 in
    rw (p.1, p.2)
    (IfSome_then (g.I.Inputs.places c.args.inputs.now) c.in_err-bytes-in-Some.ensures
    (λ places is other. ap (with_front (strings_held c.args.asked.now)) (of-word_file places c.args.word.now _ _ c.in-Some.ensures (is other))))

pub returns-in_ok-bytes-in-Some : goal.returns-in_ok-bytes-in-Some
returns-in_ok-bytes-in-Some g c =
    let old = strings_held c.args.asked.now in
    let pushed = c.push_words_of_file in
    IfSome_then (g.I.Inputs.places c.args.inputs.now) c.in_ok-bytes-in-Some.ensures
    (λ places is.
    subst (λ (words : Result (List (List ℕ)) StopOf). GivesOrStops (λ _. strings_held pushed.new.asked) pushed.result words)
    (ap (λ bytes. with_front old (words_of_file c.in-Some.path.now bytes)) c.deref.ensures.value ∙ sym (ap (with_front old) (of-word_file places c.args.word.now _ _ c.in-Some.ensures is)))
    pushed.ensures)
