-- How rows that are set aside are counted, one type after the other.
use Rattle.std.proofs.Common.{◌≡◌, ℕ, ◌+◌, ◌<◌, ◌≤◌, List, length, drop, get_or, ap, ◌∙◌}
use Rattle.std.specs.Prelude.{cond}
use Rattle.std.proofs.lemmas.List.{drop_more, drop_all}
use Rattle.std.proofs.lemmas.List.Sums.{sum_by-append}
use Rattle.type_chunks.specs.config_record.Record.{is_set_aside}
use Rattle.type_chunks.specs.type_entries.declared.checked_type.CheckedType.{CheckedType}
use Rattle.type_chunks.specs.Row.{set_aside_count}
use Rattle.type_chunks.specs.TypeRows.{rows_of_type, rows_of_types}
use Rattle.type_chunks.proofs.type_entries.TypeRowsSteps.{rows_of_types-next, rows_of_types-none}

-- those of a type, and of the types behind it
pub set_aside-next : (types : List CheckedType) (index : ℕ) (d : CheckedType) → index < length types
    → set_aside_count (rows_of_types (drop index types)) ≡ set_aside_count (rows_of_type (get_or types index d)) + set_aside_count (rows_of_types (drop (index + 1) types))
set_aside-next types index d within =
    ap (λ left. set_aside_count (rows_of_types left)) (drop_more types index d within)
    ∙ ap set_aside_count (rows_of_types-next (get_or types index d) (drop (index + 1) types))
    ∙ sum_by-append (λ row. cond (is_set_aside row.config) 1 0) (rows_of_type (get_or types index d)) (rows_of_types (drop (index + 1) types))

-- none are left behind the last type
pub set_aside-none : (types : List CheckedType) (index : ℕ) → length types ≤ index → set_aside_count (rows_of_types (drop index types)) ≡ 0
set_aside-none types index past =
    ap (λ left. set_aside_count (rows_of_types left)) (drop_all index types past) ∙ ap set_aside_count rows_of_types-none

pub ruleset set_aside_steps = (set_aside-next, set_aside-none)
