use Rattle.std.proofs.Common.{◌++◌, ◌∙◌, ℕ, List, map, Ok, Result, ap, subst, sym}
use Rattle.contract_words.specs.Sequences.{with_front}
use Rattle.names.specs.WordFile.{words_in_text}
use Rattle.command_base.specs.FileWords.{strings_held}
use Rattle.command_base.specs.Stop.{GivesOrStops, StopOf}
use Rattle.command_base.proofs.FileWordsSteps.{word_of, words_of_text, words_of_blank_text, words_of_no_text}
use Rattle.command_base.proofs.file_words.push_words_of_file.Goals as goal

pub returns-then-is_empty : goal.returns-then-is_empty
returns-then-is_empty c = λ told.
    let read = c.in_ok-words-in-Ok.ensures ∙ ap words_in_text c.in-Ok.ensures.cases.0 in
    ap (with_front (strings_held c.args.asked.now))
    (words_of_blank_text c.args.path.now c.args.bytes.now c.in_ok-words-in-Ok.words c.in-Ok.ensures.cases.1 read (sym c.is_empty.ensures ∙ c.if-is_empty.true))

pub returns-else-is_empty : goal.returns-else-is_empty
returns-else-is_empty c =
    let old = strings_held c.args.asked.now in
    let read = c.in_ok-words-in-Ok.ensures ∙ ap words_in_text c.in-Ok.ensures.cases.0 in
    let all : List (List ℕ) → Result (List (List ℕ)) StopOf = λ words. Ok words in
    let meant = ap (with_front old) (words_of_text c.args.path.now c.args.bytes.now c.in_ok-words-in-Ok.words c.in-Ok.ensures.cases.1 read (sym c.is_empty.ensures ∙ c.if-is_empty.false))
    ∙ ap (λ words. all (old ++ map word_of words)) (sym c.deref.ensures.value) in
    subst (λ (words : Result (List (List ℕ)) StopOf). GivesOrStops (λ _. strings_held c.push_each.new.asked) c.push_each.result words) (sym meant) c.push_each.ensures

pub returns-in-Err : goal.returns-in-Err
returns-in-Err c = λ told. ap (with_front (strings_held c.args.asked.now)) (words_of_no_text c.args.path.now c.args.bytes.now c.in-Err.ensures.cases.0)
