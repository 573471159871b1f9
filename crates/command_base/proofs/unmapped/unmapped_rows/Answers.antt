use Rattle.std.proofs.Common.{List, drop, map, ◌+◌, ◌∷◌, ap, sym, ◌∙◌, Bool, Option, Some, None}
use Rattle.std.specs.List.{filter_map}
use Rattle.std.specs.Prelude.{if◌then◌else◌}
use Rattle.std.proofs.lemmas.List.{drop_more, drop_all}
use Rattle.command_base.specs.MadeMap.{if_unmapped}
use Rattle.command_base.specs.answer_text.type_chunks.type_entries.declared.row.Row.{Row}
use Rattle.command_base.specs.answer_text.type_chunks.Row.{RowOf, row_of}
use Rattle.command_base.specs.overlay_map.IdMap.{pairs_of}
use Rattle.command_base.proofs.LoopSteps.{GivesAllBut-push, GivesAllBut-skip, GivesAllBut-end}
use Rattle.command_base.proofs.unmapped.unmapped_rows.Goals.{then-not-carries+in_ok-push, else-not-carries}
use Rattle.command_base.proofs.unmapped.unmapped_rows.Goals as goal

pub loop-row-preserved : goal.loop-row-preserved
loop-row-preserved c =
    let map_of = pairs_of c.args.mapped.now.pairs.now in
    let rows = c.deref-row-items.result.now in
    let place = c.loop-row.row-index in
    let row = c.row-item.result in
    let split = drop_more rows place row c.loop-row-test.true ∙ ap (λ (row : Row). row ∷ drop (place + 1) rows) (sym c.row-item.is) in
    let seen = ap (λ (rows : List Row). map row_of rows) split in
    let by : Bool → Option RowOf = λ carried. if carried then None else Some (row_of row) in
    elim c.if-not-carries.branch [
      | then-not-carries+in_ok-push w ↦
          rw w.left-is
          (GivesAllBut-push row_of (if_unmapped map_of) c.loop-row.left.items w.push.new.self.items _ _ _ (row_of row) row c.loop-row.invariant seen
          (ap by (sym w.if-not-carries.true ∙ c.carries.ensures)) w.in_ok-push.ensures.items)
      | else-not-carries w ↦
          rw w.left-is (GivesAllBut-skip (if_unmapped map_of) _ _ _ _ (row_of row) c.loop-row.invariant seen (ap by (sym w.if-not-carries.false ∙ c.carries.ensures)))
    ]

pub returns : goal.returns
returns c =
    let map_of = pairs_of c.args.mapped.now.pairs.now in
    let rows = c.deref-row-items.result.now in
    GivesAllBut-end (if_unmapped map_of) _ _ _ c.loop-row.invariant (ap (λ (rows : List Row). map row_of rows) (drop_all c.loop-row.row-index rows c.loop-row-test.false))
    ∙ ap (λ (rows : List Row). filter_map (if_unmapped map_of) (map row_of rows)) c.deref-row-items.ensures.value
    ∙ ap (filter_map (if_unmapped map_of)) c.in_ok-rows.ensures
