-- The labels of two stacks are side by side, and no resource is lost.
use Rattle.std.proofs.Common.{◌≡◌, ℕ, ◌==◌, ◌||◌, not, Bool, true, false, cond, List, [], ◌∷◌, ◌++◌, map, Option, Some, None, refl, sym, ap, subst, ◌∙◌, arith}
use Rattle.std.proofs.lemmas.Bool.{eqb-true}
use Rattle.std.proofs.lemmas.Bool.Decides.{nat_tests}
use Rattle.std.proofs.lemmas.List.Elements.{All-cons, All-nil}
use Rattle.std.proofs.lemmas.List.Folds.{list_any-append}
use Rattle.std.proofs.lemmas.List.Kept.{IsStrictlySortedBy-filter}
use Rattle.std.specs.List.{All, cons_option, filter, filter_map, find, flat_map, list_any}
use Rattle.std.specs.List.Sorted.{IsStrictlySortedBy}
use Rattle.std.specs.Option.{IsSome, is_some, option_map, option_or}
use Rattle.std.specs.Ordering.{is_eq, nat_cmp}
use Rattle.names.specs.IdsOfType.{id_of_number, ids_of_type}
use Rattle.names.specs.NameText.{name_text}
use Rattle.overlay_map.specs.Layer.{LayerOf, base_tables}
use Rattle.overlay_map.specs.res_value.ResId.{package_of}
use Rattle.overlay_map.specs.res_value.declared.res_id.ResId.{ResId}
use Rattle.overlay_map.specs.Names.{type_name_in, key_name_in}
use Rattle.overlay_map.specs.Table.{rows_of}
use Rattle.overlay_map.specs.type_chunks.Row.{RowOf}
use Rattle.names.specs.declared.pair.Sides.{Sides}
use Rattle.names.specs.Label.{LabelOf, ById, label_cmp, is_same}
use Rattle.names.specs.StackLabels.{Labelled, first_with, labels_of, labelled, is_id, stands_for, name_of_parts, name_of_row, named, named_rows, names_in, nameless, by_id}
use Rattle.names.specs.Pairs.{PairOf, sides_of, paired, rising, pairs_of, name_pairs}
use Rattle.names.specs.Laws.{AreSideBySide, EachHasLabel, id_of}
use Rattle.names.proofs.LabelSteps.{equal_from_is_eq, label_cmp_exact, label_cmp_total}
use Rattle.names.proofs.NotesSteps.{first-append}
use Rattle.names.proofs.Rising.{has-put, sorted-put}

-- ---- which labels have a pair

abbrev pub sides_in : List Labelled → List Labelled → LabelOf → Option Sides
sides_in old new label = sides_of (first_with old label) (first_with new label)

labels-paired : (old new : List Labelled) (labels : List LabelOf)
    → map (λ (pair : PairOf). pair.label) (filter_map (paired old new) labels) ≡ filter (λ label. is_some (sides_in old new label)) labels
labels-paired old new [] = refl
labels-paired old new (label ∷ labels) = by (sides_in old new label) (labels-paired old new labels)
  where
    pair_with : Sides → PairOf
    pair_with sides = record { label = label; sides = sides }

    has : LabelOf → Bool
    has other = is_some (sides_in old new other)

    by : (sides : Option Sides) → map (λ (pair : PairOf). pair.label) (filter_map (paired old new) labels) ≡ filter has labels
        → map (λ (pair : PairOf). pair.label) (cons_option (option_map pair_with sides) (filter_map (paired old new) labels)) ≡ cond (is_some sides) (label ∷ filter has labels) (filter has labels)
    by None others = others
    by (Some sides) others = ap (λ (ls : List LabelOf). label ∷ ls) others

abbrev IsRight : List Labelled → List Labelled → PairOf → Type 0
IsRight old new pair = sides_in old new pair.label ≡ Some pair.sides

all-right : (old new : List Labelled) (labels : List LabelOf) → All (IsRight old new) (filter_map (paired old new) labels)
all-right old new [] = All-nil (IsRight old new)
all-right old new (label ∷ labels) = by (sides_in old new label) refl (all-right old new labels)
  where
    pair_with : Sides → PairOf
    pair_with sides = record { label = label; sides = sides }

    by : (sides : Option Sides) → sides_in old new label ≡ sides → All (IsRight old new) (filter_map (paired old new) labels)
        → All (IsRight old new) (cons_option (option_map pair_with sides) (filter_map (paired old new) labels))
    by None e others = others
    by (Some sides) e others = All-cons (IsRight old new) (pair_with sides) (filter_map (paired old new) labels) e others

-- ---- no label is left out

any_kept : {A : Type 0} (test has : A → Bool) → ((x : A) → test x ≡ true → has x ≡ true) → (xs : List A) → list_any test xs ≡ true → list_any test (filter has xs) ≡ true
any_kept test has implied [] found = found
any_kept {A} test has implied (x ∷ xs) found = by (test x) refl (has x) refl found (any_kept test has implied xs)
  where
    by : (b : Bool) → test x ≡ b → (c : Bool) → has x ≡ c → (b || list_any test xs) ≡ true → (list_any test xs ≡ true → list_any test (filter has xs) ≡ true)
        → list_any test (cond c (x ∷ filter has xs) (filter has xs)) ≡ true
    by true e true f found later = ap (λ (b : Bool). b || list_any test (filter has xs)) e
    by true e false f found later = absurd (let not_so : true ≡ false = sym (implied x e) ∙ f in cc)
    by false e true f found later = ap (λ (b : Bool). b || list_any test (filter has xs)) e ∙ later found
    by false e false f found later = later found

any-of_pairs : (test : LabelOf → Bool) (pairs : List PairOf) → list_any (λ pair. test pair.label) pairs ≡ list_any test (map (λ (pair : PairOf). pair.label) pairs)
any-of_pairs test [] = refl
any-of_pairs test (pair ∷ pairs) = ap (λ (b : Bool). test pair.label || b) (any-of_pairs test pairs)

any_label : (all : List Labelled) (label : LabelOf) → list_any (is_same label) (labels_of all) ≡ is_some (first_with all label)
any_label [] label = refl
any_label (one ∷ all) label = by (is_same label one.label) (any_label all label)
  where
    by : (b : Bool) → list_any (is_same label) (labels_of all) ≡ is_some (first_with all label)
        → (b || list_any (is_same label) (labels_of all)) ≡ is_some (option_map (λ (other : Labelled). other.id) (cond b (Some one) (find (λ (other : Labelled). is_same label other.label) all)))
    by true others = refl
    by false others = others

in_either : (old new : Option ResId) → (is_some old || is_some new) ≡ is_some (sides_of old new)
in_either (Some old) (Some new) = refl
in_either (Some old) None = refl
in_either None (Some new) = refl
in_either None None = refl

-- a label is among those of two stacks where it stands for something in one of them
pub any_side : (old new : List Labelled) (label : LabelOf) → list_any (is_same label) (labels_of old ++ labels_of new) ≡ is_some (sides_in old new label)
any_side old new label =
    list_any-append (is_same label) (labels_of old) (labels_of new)
    ∙ ap (λ (b : Bool). b || list_any (is_same label) (labels_of new)) (any_label old label)
    ∙ ap (λ (b : Bool). is_some (first_with old label) || b) (any_label new label)
    ∙ in_either (first_with old label) (first_with new label)

none_left_out : (old new : List Labelled) (label : LabelOf) → IsSome (sides_in old new label) → list_any (λ pair. is_same label pair.label) (pairs_of old new) ≡ true
none_left_out old new label found =
    any-of_pairs (is_same label) (pairs_of old new)
    ∙ ap (λ (labels : List LabelOf). list_any (is_same label) labels) (labels-paired old new (rising (labels_of old ++ labels_of new)))
    ∙ any_kept (is_same label) (λ other. is_some (sides_in old new other))
    (λ other same. ap (λ (l : LabelOf). is_some (sides_in old new l)) (sym (label_cmp_exact label other (equal_from_is_eq (label_cmp label other) same))) ∙ found)
    (rising (labels_of old ++ labels_of new))
    (has-put label_cmp_total (labels_of old ++ labels_of new) label ∙ any_side old new label ∙ found)

-- ---- no resource is lost

-- a label of which one of these is the first
found_label : (test : LabelOf → Bool) (all : List Labelled) → list_any (λ one. test one.label) all ≡ true → (label : LabelOf) × (test label ≡ true)
found_label test [] found = absurd cc
found_label test (one ∷ all) found = by (test one.label) refl found (found_label test all)
  where
    by : (b : Bool) → test one.label ≡ b → (b || list_any (λ other. test other.label) all) ≡ true
        → (list_any (λ other. test other.label) all ≡ true → (label : LabelOf) × (test label ≡ true)) → (label : LabelOf) × (test label ≡ true)
    by true e found later = (one.label, e)
    by false e found later = later found

same_id : (id other : ResId) → (other.0 == id.0) ≡ true → other ≡ id
same_id id other same = let made : ℕ → ResId = λ n. record { 0 = n } in ap made (eqb-true other.0 id.0 same)

pub is-found : (id : ResId) (found : Option ResId) → is_id id found ≡ true → found ≡ Some id
is-found id None same = absurd cc
is-found id (Some other) same = let one : ResId → Option ResId = λ x. Some x in ap one (same_id id other same)

no_id_named : (row : RowOf) (package_id : ℕ) (type_name entry_name : Option (List ℕ)) (id : ResId) → first_with (named row (name_of_parts package_id type_name entry_name)) (ById id) ≡ None
no_id_named row package_id (Some type_name) (Some entry_name) id = refl
no_id_named row package_id (Some type_name) None id = refl
no_id_named row package_id None entry_name id = refl

none-joined : {A : Type 0} (f : A → List Labelled) (label : LabelOf) → ((x : A) → first_with (f x) label ≡ None) → (xs : List A) → first_with (flat_map f xs) label ≡ None
none-joined f label none [] = refl
none-joined f label none (x ∷ xs) =
    first-append (f x) (flat_map f xs) label ∙ ap (λ (o : Option ResId). option_or o (first_with (flat_map f xs) label)) (none x) ∙ none-joined f label none xs

pub none-named : (layers : List LayerOf) (id : ResId) → first_with (names_in layers) (ById id) ≡ None
unfolding names_in name_of_row
none-named layers id =
    none-joined named_rows (ById id)
    (λ table. none-joined (λ row. named row (name_of_row table row)) (ById id)
    (λ row. no_id_named row (package_of (id_of_number row.id)) (name_text (type_name_in table row)) (name_text (key_name_in table row)) id) (rows_of table))
    (base_tables layers)

pub is_eq-nat_cmp : (a b : ℕ) → is_eq (nat_cmp a b) ≡ (b == a)
is_eq-nat_cmp a b = grind (arith, nat_tests)

first-by_id : (ids : List ResId) (id : ResId) → list_any (λ other. other.0 == id.0) ids ≡ true → first_with (map by_id ids) (ById id) ≡ Some id
first-by_id [] id found = absurd cc
first-by_id (x ∷ ids) id found = by (x.0 == id.0) refl found (first-by_id ids id)
  where
    id_of_one : Labelled → ResId
    id_of_one one = one.id

    others : Option Labelled
    others = find (λ one. is_same (ById id) one.label) (map by_id ids)

    by : (b : Bool) → (x.0 == id.0) ≡ b → (b || list_any (λ other. other.0 == id.0) ids) ≡ true
        → (list_any (λ other. other.0 == id.0) ids ≡ true → first_with (map by_id ids) (ById id) ≡ Some id) → first_with (map by_id (x ∷ ids)) (ById id) ≡ Some id
    by true e found later =
        let one : ResId → Option ResId = λ y. Some y in
        ap (λ (b : Bool). option_map id_of_one (cond b (Some (by_id x)) others)) (is_eq-nat_cmp id.0 x.0 ∙ e) ∙ ap one (same_id id x e)
    by false e found later = ap (λ (b : Bool). option_map id_of_one (cond b (Some (by_id x)) others)) (is_eq-nat_cmp id.0 x.0 ∙ e) ∙ later found

each_has_label : (layers : List LayerOf) → EachHasLabel layers
unfolding labelled
each_has_label layers id found = by (stands_for names id) refl
  where
    names : List Labelled
    names = names_in layers

    by : (b : Bool) → stands_for names id ≡ b → (label : LabelOf) × (id_of layers label ≡ Some id)
    by true e =
        let label = found_label (λ l. is_id id (first_with names l)) names e in (
          label.0,
          first-append names (map by_id (nameless layers)) label.0
              ∙ ap (λ (o : Option ResId). option_or o (first_with (map by_id (nameless layers)) label.0)) (is-found id (first_with names label.0) label.1),
        )
    by false e = (
      ById id,
      first-append names (map by_id (nameless layers)) (ById id)
          ∙ ap (λ (o : Option ResId). option_or o (first_with (map by_id (nameless layers)) (ById id))) (none-named layers id)
          ∙ first-by_id (nameless layers) id
          (any_kept (λ other. other.0 == id.0) (λ other. not (stands_for names other))
          (λ other same. ap (λ (o : ResId). not (stands_for names o)) (same_id id other same) ∙ ap not e) (ids_of_type None (base_tables layers)) found),
    )

-- ---- all together

pub side_by_side : (old new : List LayerOf) → AreSideBySide old new (name_pairs old new)
unfolding name_pairs
side_by_side old new = record {
  rising =
      subst (λ (labels : List LabelOf). IsStrictlySortedBy label_cmp labels) (sym (labels-paired (labelled old) (labelled new) (rising (labels_of (labelled old) ++ labels_of (labelled new)))))
      (IsStrictlySortedBy-filter label_cmp (λ label. is_some (sides_in (labelled old) (labelled new) label)) (rising (labels_of (labelled old) ++ labels_of (labelled new)))
      (sorted-put label_cmp_total (labels_of (labelled old) ++ labels_of (labelled new))));
  right = all-right (labelled old) (labelled new) (rising (labels_of (labelled old) ++ labels_of (labelled new)));
  whole = none_left_out (labelled old) (labelled new);
  old_ids = each_has_label old;
  new_ids = each_has_label new;
}
