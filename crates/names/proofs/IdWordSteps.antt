-- The words of all ids of a stack, put into a map one by one.
use Rattle.std.proofs.Common.{◌≡◌, ℕ, ◌+◌, ◌<◌, ◌==◌, Bool, true, false, ◌||◌, cond, List, [], ◌∷◌, ◌++◌, length, map, filter, take, get_or, Option, Some, None, refl, sym, ap, ◌∙◌, arith}
use Rattle.std.proofs.Math.Bool.{or-false}
use Rattle.std.proofs.lemmas.Bool.Decides.{nat_tests}
use Rattle.std.proofs.lemmas.Cmp.{nat_cmp_total}
use Rattle.std.proofs.lemmas.List.{take_more}
use Rattle.std.proofs.lemmas.List.Folds.{list_any-append}
use Rattle.std.specs.BTreeMap.{BTreeMap, IsEmpty, get, is_at}
use Rattle.std.specs.List.{list_any}
use Rattle.std.specs.Map.{lookup}
use Rattle.std.specs.Option.{option_and_then, option_map, option_or}
use Rattle.std.specs.Ordering.{is_eq, nat_cmp}
use Rattle.std.specs.Prelude.{Vec, slice_get}
use Rattle.std.specs.declared.alloc.Global.{Global}
use Rattle.overlay_map.specs.BaseRow.{BaseRowOf, first_base_row}
use Rattle.overlay_map.specs.Layer.{LayerOf, base_tables, is_base}
use Rattle.overlay_map.specs.res_value.declared.res_id.ResId.{ResId}
use Rattle.overlay_map.specs.Table.{TableOf, rows_of}
use Rattle.overlay_map.specs.type_chunks.Row.{RowOf, with_id}
use Rattle.names.specs.IdWord.{AreWords, word_among}
use Rattle.names.specs.IdsOfType.{id_of_number, ids_of_type, numbers_in, numbers_of_type, put_each}
use Rattle.names.specs.LabelText.{label_text}
use Rattle.names.specs.NamedIds.{packages_of}
use Rattle.names.specs.Packages.{PackageNameOf}
use Rattle.names.specs.StackLabels.{name_of_row}
use Rattle.names.proofs.Cuts.{neither}
use Rattle.names.proofs.Rising.{has, has-put}
use Rattle.names.proofs.SideBySide.{is_eq-nat_cmp}

abbrev pub Words : Type 0
Words = BTreeMap ℕ (Vec ℕ Global)

abbrev pub word_at : Words → ℕ → Option (List ℕ)
word_at words id = option_map (λ word. word.items) (get nat_cmp words id)

-- ---- the words of some ids

pub record HasWordsFor (meant : ℕ → Option (List ℕ)) (ids : List ResId) (words : Words) : Type 0 where
  pub each : (id : ℕ) → word_at words id ≡ cond (list_any (λ other. other.0 == id) ids) (meant id) None

pub words-none : (meant : ℕ → Option (List ℕ)) (words : Words) → IsEmpty words → HasWordsFor meant [] words
words-none meant words empty = record { each = λ id. ap (λ (es : List (ℕ × Vec ℕ Global)). option_map (λ (word : Vec ℕ Global). word.items) (lookup (is_at (nat_cmp id)) es)) empty }

or-itself : (o : Option (List ℕ)) → option_or o o ≡ o
or-itself None = refl
or-itself (Some word) = refl

or-none : (o : Option (List ℕ)) → option_or o None ≡ o
or-none None = refl
or-none (Some word) = refl

same-number : (a b : ℕ) → (a == b) ≡ true → a ≡ b
same-number a b e = grind (arith, nat_tests, e)

-- a word that is there for an id once more
either : (meant : ℕ → Option (List ℕ)) (n id : ℕ) (among here : Bool) → (n == id) ≡ here
    → option_or (cond here (meant n) None) (cond among (meant id) None) ≡ cond (among || here) (meant id) None
either meant n id true true is = ap (λ (m : ℕ). option_or (meant m) (meant id)) (same-number n id is) ∙ or-itself (meant id)
either meant n id false true is = or-none (meant n) ∙ ap meant (same-number n id is)
either meant n id true false is = refl
either meant n id false false is = refl

pub words-more : (meant : ℕ → Option (List ℕ)) (ids : List ResId) (place : ℕ) (d : ResId) (old new : Words) → HasWordsFor meant (take place ids) old → place < length ids
    → ((id : ℕ) → word_at new id ≡ option_or (cond ((get_or ids place d).0 == id) (meant (get_or ids place d).0) None) (word_at old id))
    → HasWordsFor meant (take (place + 1) ids) new
words-more meant ids place d old new before on puts = record {
  each = λ id.
      let is : ResId → Bool = λ other. other.0 == id in
      let n = (get_or ids place d).0 in
      let among = list_any is (take place ids) in
      puts id
      ∙ ap (option_or (cond (n == id) (meant n) None)) (before.each id)
      ∙ either meant n id among (n == id) refl
      ∙ sym (ap (λ (b : Bool). cond b (meant id) None)
      (ap (list_any is) (take_more ids place d on) ∙ list_any-append is (take place ids) (get_or ids place d ∷ []) ∙ ap (λ (b : Bool). among || b) (or-false (n == id))));
}

-- ---- one id more

pub is_at-same : (a b : ℕ) → is_at (nat_cmp a) b ≡ (a == b)
is_at-same a b = grind (arith, nat_tests)

-- ---- an id of no row has no name

any-ids : (id : ℕ) (ks : List ℕ) → list_any (λ other. other.0 == id) (map id_of_number ks) ≡ has nat_cmp_total ks id
any-ids id [] = refl
any-ids id (k ∷ ks) =
    ap (λ (b : Bool). b || list_any (λ other. other.0 == id) (map id_of_number ks)) (sym (is_eq-nat_cmp id k)) ∙ ap (λ (b : Bool). is_eq (nat_cmp id k) || b) (any-ids id ks)

none-with : (table : TableOf) (id : ℕ) (rows : List RowOf) → has nat_cmp_total (numbers_of_type None table rows) id ≡ false → with_id id rows ≡ []
none-with table id [] lacks = refl
none-with table id (row ∷ rows) lacks =
    let parts = neither (is_eq (nat_cmp id row.id)) (has nat_cmp_total (numbers_of_type None table rows) id) lacks in
    ap (λ (b : Bool). cond b (row ∷ with_id id rows) (with_id id rows)) (sym (is_eq-nat_cmp id row.id) ∙ parts.0) ∙ none-with table id rows parts.1

none-based : (layers : List LayerOf) (id : ℕ) → has nat_cmp_total (numbers_in None (base_tables layers)) id ≡ false → first_base_row layers id ≡ None
none-based [] id lacks = refl
none-based (layer ∷ layers) id lacks = by (is_base layer) refl (none-based layers id)
  where
    tables : List LayerOf → List TableOf
    tables bases = map (λ (base : LayerOf). base.table) bases

    by : (b : Bool) → is_base layer ≡ b
        → (has nat_cmp_total (numbers_in None (base_tables layers)) id ≡ false → first_base_row layers id ≡ None) → first_base_row (layer ∷ layers) id ≡ None
    by true base others =
        let numbers = numbers_of_type None layer.table (rows_of layer.table) in
        let behind = numbers_in None (base_tables layers) in
        let lacking : has nat_cmp_total (numbers ++ behind) id ≡ false =
        sym (ap (λ (b : Bool). has nat_cmp_total (numbers_in None (tables (cond b (layer ∷ filter is_base layers) (filter is_base layers)))) id) base) ∙ lacks in
        let parts =
        neither (has nat_cmp_total numbers id) (has nat_cmp_total behind id) (sym (list_any-append (λ other. is_eq (nat_cmp id other)) numbers behind) ∙ lacking) in
        ap (λ (b : Bool). option_or (cond b (option_map (λ row. record { table = layer.table; row = row }) (slice_get (with_id id (rows_of layer.table)) 0)) None) (first_base_row layers id)) base
        ∙ ap (λ (rows : List RowOf). option_or (option_map (λ row. record { table = layer.table; row = row }) (slice_get rows 0)) (first_base_row layers id)) (none-with layer.table id (rows_of layer.table) parts.0)
        ∙ others parts.1
    by false over others =
        ap (λ (b : Bool). option_or (cond b (option_map (λ row. record { table = layer.table; row = row }) (slice_get (with_id id (rows_of layer.table)) 0)) None) (first_base_row layers id)) over
        ∙ others (sym (ap (λ (b : Bool). has nat_cmp_total (numbers_in None (tables (cond b (layer ∷ filter is_base layers) (filter is_base layers)))) id) over) ∙ lacks)

no-word : (packages : List PackageNameOf) (layers : List LayerOf) (id : ℕ) → list_any (λ other. other.0 == id) (ids_of_type None (base_tables layers)) ≡ false → word_among packages layers id ≡ None
unfolding word_among ids_of_type put_each
no-word packages layers id none =
    let numbers = numbers_in None (base_tables layers) in
    ap (λ (found : Option BaseRowOf). option_map (label_text packages) (option_and_then (λ (found : BaseRowOf). name_of_row found.table found.row) found))
    (none-based layers id (sym (has-put nat_cmp_total numbers id) ∙ sym (any-ids id (put_each [] numbers)) ∙ none))

-- ---- all ids

pub all-words : (layers : List LayerOf) (packages : List PackageNameOf) (ids : List ResId) (words : Words) → packages ≡ packages_of layers → ids ≡ ids_of_type None (base_tables layers)
    → ((id : ℕ) → word_at words id ≡ cond (list_any (λ other. other.0 == id) ids) (word_among packages layers id) None) → AreWords layers words
all-words layers packages ids words of_layers all found = λ id.
    found id ∙ by id (list_any (λ other. other.0 == id) ids) refl ∙ ap (λ (ps : List PackageNameOf). word_among ps layers id) of_layers
  where
    by : (id : ℕ) (b : Bool) → list_any (λ other. other.0 == id) ids ≡ b → cond b (word_among packages layers id) None ≡ word_among packages layers id
    by id true among = refl
    by id false among = sym (no-word packages layers id (sym (ap (list_any (λ other. other.0 == id)) all) ∙ among))
