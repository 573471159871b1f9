use Rattle.std.proofs.Common.{arith, ◌∙◌, ◌++◌, ◌+◌, ◌∷◌, [], List, ℕ, map, ap, sym, subst}
use Rattle.std.proofs.lemmas.List.{map-append}
use Rattle.std.specs.List.{slice_split}
use Rattle.names.specs.WordFile.{is_line_feed, is_word}
use Rattle.names.proofs.WordFileSteps.{WordsAllBut, WordsAllBut-word, WordsAllBut-pass, WordsAllBut-end, line_of}
use Rattle.names.proofs.word_file.words_in_text.Goals as goal
use Rattle.names.proofs.word_file.words_in_text.Goals.{then-is_word+in_ok-push, else-is_word}

pub loop-line-preserved : goal.loop-line-preserved
loop-line-preserved c =
    let found = map line_of c.loop-line.words.items in
    let place = c.loop-line.line-index in
    let lines = c.deref-line-items.result.now in
    elim c.if-is_word.branch [
      | then-is_word+in_ok-push w ↦
          let more =
          ap (λ v. map line_of v.items) w.words-is ∙ ap (map line_of) w.in_ok-push.ensures.items
          ∙ map-append line_of c.loop-line.words.items (c.trim-word.result ∷ [])
          ∙ ap (λ (t : List ℕ). found ++ t ∷ []) c.trim-word.ensures.trim in
          subst (λ (t : List (List ℕ)). WordsAllBut t (place + 1) (map line_of lines)) (sym more)
          (WordsAllBut-word found place lines _ c.loop-line.invariant c.loop-line-test.true (sym (ap is_word c.trim-word.ensures.trim) ∙ sym c.is_word.ensures ∙ w.if-is_word.true))
      | else-is_word w ↦
          subst (λ (t : List (List ℕ)). WordsAllBut t (place + 1) (map line_of lines)) (sym (ap (λ v. map line_of v.items) w.words-is))
          (WordsAllBut-pass found place lines _ c.loop-line.invariant c.loop-line-test.true (sym (ap is_word c.trim-word.ensures.trim) ∙ sym c.is_word.ensures ∙ w.if-is_word.false))
    ]

pub returns : goal.returns
returns c = WordsAllBut-end _ _ _ c.args.text.now c.loop-line.invariant (omega arith) (rw c.deref-line-items.ensures.value (c.in_ok-lines.ensures ∙ ap (slice_split is_line_feed) c.without_mark.ensures))
