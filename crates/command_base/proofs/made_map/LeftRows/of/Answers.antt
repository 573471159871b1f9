use Rattle.std.proofs.Common.{◌≡◌, ℕ, Bool, List, length, vec_len, ap, sym, ◌∙◌, arith}
use Rattle.std.specs.Prelude.{◌==◌, ◌&&◌}
use Rattle.std.proofs.lemmas.List.{length-map}
use Rattle.command_base.specs.overlay_map.IdMap.{pairs_of}
use Rattle.command_base.specs.answer_text.type_chunks.Row.{RowOf, row_of}
use Rattle.command_base.specs.MadeMap.{AstrayOf, astray, unmapped}
use Rattle.command_base.specs.AstraySeen.{astray_of}
use Rattle.command_base.proofs.made_map.LeftRows.of.Goals.{then-is_empty, else-is_empty}
use Rattle.command_base.proofs.made_map.LeftRows.of.Goals as goal

pub returns : goal.returns
returns c =
    let pairs = pairs_of c.args.pairs.now in
    let overlay = c.args.first.now.table.now in
    let rows = c.in_ok-unmapped.unmapped in
    let found = c.in_ok-astray.astray in
    let rows_are = rw c.in_ok-mapped.ensures at c.in_ok-unmapped.ensures in
    let found_are = rw c.in_ok-mapped.ensures at c.in_ok-astray.ensures in
    let left : vec_len rows ≡ length (unmapped overlay pairs) = omega (arith, ap (λ (t : List RowOf). length t) rows_are, length-map rows.items row_of, rows.ok) in
    let gone : vec_len found ≡ length (astray overlay pairs) = omega (arith, ap (λ (t : List AstrayOf). length t) found_are, length-map found.items astray_of, found.ok) in
    let none = c.is_empty.ensures ∙ ap (λ (count : ℕ). count == 0) left in (
      rows_are,
      found_are,
      elim c.if-is_empty.branch [
        | then-is_empty w ↦
            w.result-is
            ∙ w.is_empty-then-is_empty.ensures
            ∙ ap (λ (count : ℕ). count == 0) gone
            ∙ ap (λ (none : Bool). none && length (astray overlay pairs) == 0) (sym w.if-is_empty.true ∙ none)
        | else-is_empty w ↦ w.result-is ∙ w.if-is_empty.false ∙ ap (λ (none : Bool). none && length (astray overlay pairs) == 0) (sym w.if-is_empty.false ∙ none)
      ],
    )
