-- What the notes of a layer say.
use Rattle.std.proofs.Common.{◌≡◌, ℕ, List, [], ◌∷◌, ◌++◌, refl, sym, ap, subst, ◌∙◌}
use Rattle.std.specs.List.{flat_map}
use Rattle.command_base.specs.overlay_map.string_pool.Pool.{PoolOf}
use Rattle.command_base.specs.overlay_map.type_chunks.Row.{RowOf}
use Rattle.command_base.specs.overlay_map.Layer.{LayerOf}
use Rattle.command_base.specs.cert_tree.config_box.config_record.Record.{is_set_aside}
use Rattle.command_base.specs.cert_tree.config_box.config_record.locales.declared.locale_rule.LocaleRule.{LocaleRule}
use Rattle.command_base.specs.cert_tree.config_box.config_record.locales.declared.locale_rule.LocaleRule.TheVariants.{LanguageAndRegion, Android}
use Rattle.command_base.specs.StackBytes.{LayerBytes}
use Rattle.resource_tool.specs.declared.survey.finding.Finding.{Finding}
use Rattle.resource_tool.specs.declared.survey.finding.Finding.TheVariants.{DynamicReference, DynamicAttribute, BrokenString, SetAside, Locale, BoxLocale}
use Rattle.resource_tool.specs.declared.survey.findings.Findings.{Findings}
use Rattle.resource_tool.specs.declared.survey.findings.Tally.{Tally}
use Rattle.resource_tool.specs.Finding.{differs}
use Rattle.resource_tool.specs.Findings.{Note, nothing_found, noted, tally_in}
use Rattle.resource_tool.specs.Counted.{notes_with, tally_of, some_differs, Counts}
use Rattle.resource_tool.specs.Chunks.{notes_of_chunks}
use Rattle.resource_tool.proofs.FindingsSteps.{noted-append}
use Rattle.resource_tool.proofs.CountedSteps.{noted-counts}
use Rattle.resource_tool.proofs.DiffersSteps.{some-both, some-flat_map, some-if, none-if, differs-of_chunks}
use Rattle.resource_tool.specs.RowNotes.{has_broken, has_kind, values_differ, dynamic_reference, dynamic_attribute, is_for_other_locales, is_for_one_of, note_row_if, notes_of_values, notes_of_locale, notes_of_row, locale_differs, row_differs}
use Rattle.resource_tool.specs.LayerNotes.{notes_of_rows, rows_at, strings_at, notes_of_layer, layer_differs}

differs-of_values : (strings : PoolOf) (row : RowOf) → some_differs (notes_of_values strings row) ≡ values_differ strings row.cell
unfolding notes_of_values differs
differs-of_values strings row =
    some-both (note_row_if (has_kind dynamic_reference row.cell) DynamicReference row) (note_row_if (has_kind dynamic_attribute row.cell) DynamicAttribute row ++ note_row_if (has_broken strings row.cell) BrokenString row) _ _
    (some-if (has_kind dynamic_reference row.cell) DynamicReference _ refl)
    (some-both (note_row_if (has_kind dynamic_attribute row.cell) DynamicAttribute row) (note_row_if (has_broken strings row.cell) BrokenString row) _ _
    (some-if (has_kind dynamic_attribute row.cell) DynamicAttribute _ refl) (some-if (has_broken strings row.cell) BrokenString _ refl))

differs-of_locale : (rule : LocaleRule) (locales : List ℕ) (row : RowOf) → some_differs (notes_of_locale rule locales row) ≡ locale_differs rule locales row
unfolding notes_of_locale differs
differs-of_locale LanguageAndRegion locales row =
    some-both (note_row_if (is_set_aside row.config) SetAside row) (note_row_if (is_for_other_locales row) Locale row ++ note_row_if (is_for_one_of locales row) BoxLocale row) _ _
    (none-if (is_set_aside row.config) SetAside _ refl)
    (some-both (note_row_if (is_for_other_locales row) Locale row) (note_row_if (is_for_one_of locales row) BoxLocale row) _ _
    (none-if (is_for_other_locales row) Locale _ refl) (some-if (is_for_one_of locales row) BoxLocale _ refl))
differs-of_locale Android locales row = refl

differs-of_row : (rule : LocaleRule) (locales : List ℕ) (strings : PoolOf) (row : RowOf) → some_differs (notes_of_row rule locales strings row) ≡ row_differs rule locales strings row
unfolding notes_of_row row_differs
differs-of_row rule locales strings row =
    some-both (notes_of_values strings row) (notes_of_locale rule locales row) _ _ (differs-of_values strings row) (differs-of_locale rule locales row)

pub differs-of_layer : (rule : LocaleRule) (stack : List LayerOf) (locales : List ℕ) (numbered : ℕ × LayerBytes)
    → some_differs (notes_of_layer rule stack locales numbered) ≡ layer_differs rule stack locales numbered
unfolding notes_of_layer layer_differs
differs-of_layer rule stack locales numbered =
    let strings = strings_at stack numbered.0 in
    some-both (notes_of_chunks numbered.1.table) (notes_of_rows rule stack locales numbered.0) _ _
    (differs-of_chunks numbered.1.table)
    (some-flat_map (notes_of_row rule locales strings) (row_differs rule locales strings) (rows_at stack numbered.0) (differs-of_row rule locales strings))

-- what is found in chunks, and then in rows, has the notes of the layer
pub layer-counts : (rule : LocaleRule) (stack : List LayerOf) (locales : List ℕ) (numbered : ℕ × LayerBytes) (start mid new : Findings) → start ≡ nothing_found
    → mid ≡ noted start (notes_of_chunks numbered.1.table) → new ≡ noted mid (notes_of_rows rule stack locales numbered.0) → Counts new (notes_of_layer rule stack locales numbered)
unfolding notes_of_layer
layer-counts rule stack locales numbered start mid new nothing chunks rows =
    let whole : new ≡ noted nothing_found (notes_of_chunks numbered.1.table ++ notes_of_rows rule stack locales numbered.0) =
    rows ∙ ap (λ (s : Findings). noted s (notes_of_rows rule stack locales numbered.0)) (chunks ∙ ap (λ (s : Findings). noted s (notes_of_chunks numbered.1.table)) nothing)
    ∙ sym (noted-append nothing_found (notes_of_chunks numbered.1.table) (notes_of_rows rule stack locales numbered.0)) in
    subst (λ (s : Findings). Counts s (notes_of_chunks numbered.1.table ++ notes_of_rows rule stack locales numbered.0)) (sym whole)
    (noted-counts (notes_of_chunks numbered.1.table ++ notes_of_rows rule stack locales numbered.0))

pub layer-tells : (rule : LocaleRule) (stack : List LayerOf) (locales : List ℕ) (numbered : ℕ × LayerBytes) (findings : Findings)
    → Counts findings (notes_of_layer rule stack locales numbered) → findings.differs ≡ layer_differs rule stack locales numbered
layer-tells rule stack locales numbered findings counts = counts.differs ∙ differs-of_layer rule stack locales numbered

-- the lines of findings are those of their notes
pub lines-of_notes : (line : Finding → Tally → List ℕ) (findings : Findings) (notes : List Note) (kinds : List Finding) → Counts findings notes
    → flat_map (λ finding. line finding (tally_in findings finding)) kinds ≡ flat_map (λ finding. line finding (tally_of (notes_with finding notes))) kinds
lines-of_notes line findings notes [] counts = refl
lines-of_notes line findings notes (finding ∷ kinds) counts =
    ap (λ t. line finding t ++ flat_map (λ f. line f (tally_in findings f)) kinds) (counts.tallies finding)
    ∙ ap (λ (text : List ℕ). line finding (tally_of (notes_with finding notes)) ++ text) (lines-of_notes line findings notes kinds counts)
