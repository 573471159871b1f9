use Rattle.std.proofs.Common.{List, Vec, Global, ◌∷◌, ◌++◌, [], append-nil, map, sym, ap, ◌∙◌}
use Rattle.std.proofs.lemmas.List.{drop_all, map_push}
use Rattle.resource_text.specs.Columns.{LineOf}
use Rattle.resource_text.specs.ColumnsSeen.{line_of}
use Rattle.resource_text.specs.ExplainNotation.{is_shown, shown_lines, traced_line}
use Rattle.resource_text.specs.TracedSeen.{traced_of}
use Rattle.resource_text.specs.declared.columns.Line.{Line}
use Rattle.resource_text.specs.declared.explanation.Traced.{Traced}
use Rattle.resource_text.proofs.LineSteps.{shown-next, hidden-next}
use Rattle.resource_text.proofs.explanation.shown_lines.Goals as goal
use Rattle.resource_text.proofs.explanation.shown_lines.Goals.{then-is_shown+in_ok-line+in_ok-push, else-is_shown}

pub loop-traced-preserved : goal.loop-traced-preserved
loop-traced-preserved c =
    let naming = c.args.naming.now in
    let all = c.args.all in
    let l = c.loop-traced in
    let item = c.traced-item in
    let old = map line_of l.lines.items in
    let told = λ (lines : Vec Line Global). map line_of lines.items in
    elim c.if-is_shown.branch [
      | then-is_shown+in_ok-line+in_ok-push w ↦ shown-next (traced_line naming) (is_shown all) traced_of c.args.candidates.now l.traced-index item.result old _ _ c.loop-traced-test.true item.is l.invariant (sym c.is_shown.ensures ∙ w.if-is_shown.true)
          (ap told w.lines-is ∙ ap (map line_of) w.in_ok-push.ensures.items ∙ map_push line_of l.lines.items _ ∙ ap (λ (line : LineOf). old ++ line ∷ []) w.in_ok-line.ensures)
      | else-is_shown w ↦ hidden-next (traced_line naming) (is_shown all) traced_of c.args.candidates.now l.traced-index item.result old _ _ c.loop-traced-test.true item.is l.invariant (sym c.is_shown.ensures ∙ w.if-is_shown.false) (ap told w.lines-is)
    ]

pub returns : goal.returns
returns c =
    let l = c.loop-traced in
    let left = λ (candidates : List Traced). shown_lines c.args.naming.now c.args.all (map traced_of candidates) in
    let lines = map line_of l.lines.items in
    sym (append-nil lines) ∙ ap (λ (candidates : List Traced). lines ++ left candidates) (sym (drop_all l.traced-index c.args.candidates.now c.loop-traced-test.false)) ∙ l.invariant
