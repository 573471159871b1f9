-- What the labels of a stack stand for, once its rows are noted.
use Rattle.std.proofs.Common.{◌≡◌, ℕ, ◌||◌, not, Bool, true, false, cond, List, [], ◌∷◌, ◌++◌, map, Option, Some, None, refl, sym, ap, subst, ◌∙◌}
use Rattle.std.proofs.Math.Bool.{or-false}
use Rattle.std.proofs.Math.Path.{fun_ext}
use Rattle.std.proofs.lemmas.Cmp.{nat_cmp_total}
use Rattle.std.proofs.lemmas.List.{append-nil}
use Rattle.std.proofs.lemmas.List.Folds.{list_any-append}
use Rattle.std.proofs.lemmas.Map.Lookups.{exact_unsigned}
use Rattle.std.specs.BTreeMap.{BTreeMap, IsOrdered}
use Rattle.std.specs.BTreeSet as sets
use Rattle.std.specs.List.{AllByRecursion, filter, find, flat_map, list_any}
use Rattle.std.specs.List.Sorted.{IsStrictlySortedBy}
use Rattle.std.specs.Map.{keys_of, lookup}
use Rattle.std.specs.Option.{option_map, option_or}
use Rattle.std.specs.Ordering.{is_eq, nat_cmp}
use Rattle.std.specs.Global.{Global}
use Rattle.std.specs.declared.borrow.CowStr.{CowStr}
use Rattle.std.specs.declared.cmp.Ordering.TheVariants.{Less}
use Rattle.overlay_map.specs.Layer.{LayerOf, base_tables}
use Rattle.overlay_map.specs.res_value.declared.res_id.ResId.{ResId}
use Rattle.overlay_map.specs.Table.{TableOf}
use Rattle.names.specs.IdsOfType.{id_of_number, ids_of_type, numbers_in, put_each}
use Rattle.names.specs.Label.{FullNameOf, LabelOf, ByName, label_of, label_cmp, is_same}
use Rattle.names.specs.Merged.{AreLabels}
use Rattle.names.specs.Noted.{by_number, id_at, if_named, is_in, number_of, AddsLabels, HasLabels, IsNothing, Notes}
use Rattle.names.specs.Shared.{if_shared, shared_ids}
use Rattle.names.specs.StackLabels.{Labelled, by_id, called, first_with, is_id, labelled, labels_of, nameless, names_in, named_rows, stands_for}
use Rattle.names.specs.declared.label.Label.{Label}
use Rattle.names.specs.declared.label.Label.TheVariants.{Name}
use Rattle.names.specs.declared.noted.Noted.{Noted}
use Rattle.names.proofs.NotedSteps.{or-none, order, same_order}
use Rattle.names.proofs.NotesSteps.{first-append}
use Rattle.names.proofs.Rising.{put_is}
use Rattle.names.proofs.SideBySide.{is_eq-nat_cmp}

-- ---- the names

names-noted : (numbers : List ℕ) (all : List Labelled) (none noted : Noted) → IsNothing none → Notes numbers all none noted → (label : LabelOf) → id_at noted.labels label ≡ first_with all label
names-noted numbers all none noted nothing notes label =
    notes.labels label
    ∙ ap (λ (es : List (Label × ResId)). option_or (lookup (λ key. is_eq (label_cmp label (label_of key))) es) (first_with all label)) nothing.labels

-- ---- the ids

-- numbers that were put into an empty set are the set, each once
pub keys-noted : (numbers : List ℕ) (none set : sets.BTreeSet ℕ) → none.keys ≡ [] → IsStrictlySortedBy nat_cmp set.keys
    → ((number : ℕ) → sets.contains nat_cmp set number ≡ (sets.contains nat_cmp none number || is_in numbers number)) → set.keys ≡ put_each [] numbers
unfolding put_each
keys-noted numbers none set nothing sorted puts =
    put_is nat_cmp_total exact_unsigned set.keys numbers sorted
    (λ number. puts number ∙ ap (λ (ks : List ℕ). is_in ks number || is_in numbers number) nothing)

is_in-number : (number : ℕ) (found : Option ResId) → is_in (number_of found) number ≡ is_id (id_of_number number) found
is_in-number number None = refl
is_in-number number (Some other) = or-false (is_eq (nat_cmp number other.0)) ∙ is_eq-nat_cmp number other.0

is_in-named : (stands : LabelOf → Option ResId) (all : List Labelled) (number : ℕ) → is_in (flat_map (if_named stands) all) number ≡ list_any (λ one. is_id (id_of_number number) (stands one.label)) all
is_in-named stands [] number = refl
is_in-named stands (one ∷ all) number =
    list_any-append (λ other. is_eq (nat_cmp number other)) (number_of (stands one.label)) (flat_map (if_named stands) all)
    ∙ ap (λ (b : Bool). b || is_in (flat_map (if_named stands) all) number) (is_in-number number (stands one.label))
    ∙ ap (λ (b : Bool). is_id (id_of_number number) (stands one.label) || b) (is_in-named stands all number)

-- the ids that were put as named are those for which a name stands
stands-noted : (numbers : List ℕ) (all : List Labelled) (none noted : Noted) → IsNothing none → Notes numbers all none noted
    → (number : ℕ) → sets.contains nat_cmp noted.named number ≡ stands_for all (id_of_number number)
stands-noted numbers all none noted nothing notes number =
    notes.named number
    ∙ ap (λ (ks : List ℕ). is_in ks number || is_in (flat_map (if_named (id_at noted.labels)) all) number) nothing.named
    ∙ ap (λ (stands : LabelOf → Option ResId). is_in (flat_map (if_named stands) all) number) (fun_ext (names-noted numbers all none noted nothing notes))
    ∙ is_in-named (first_with all) all number

others-kept : (p : ℕ → Bool) (q : ResId → Bool) → ((number : ℕ) → p number ≡ q (id_of_number number)) → (ks : List ℕ)
    → map by_number (filter (λ number. not (p number)) ks) ≡ map by_id (filter (λ id. not (q id)) (map id_of_number ks))
others-kept p q same [] = refl
others-kept p q same (k ∷ ks) =
    ap (λ (b : Bool). map by_number (cond (not b) (k ∷ filter (λ number. not (p number)) ks) (filter (λ number. not (p number)) ks))) (same k)
    ∙ by (q (id_of_number k)) (others-kept p q same ks)
  where
    by : (b : Bool) → map by_number (filter (λ number. not (p number)) ks) ≡ map by_id (filter (λ id. not (q id)) (map id_of_number ks))
        → map by_number (cond (not b) (k ∷ filter (λ number. not (p number)) ks) (filter (λ number. not (p number)) ks))
        ≡ map by_id (cond (not b) (id_of_number k ∷ filter (λ id. not (q id)) (map id_of_number ks)) (filter (λ id. not (q id)) (map id_of_number ks)))
    by true behind = behind
    by false behind = ap (λ (all : List Labelled). by_number k ∷ all) behind

-- ---- all labels of a stack

pub has_labels : (layers : List LayerOf) (tables : List TableOf) (none noted : Noted) (labels : BTreeMap Label ResId) → tables ≡ base_tables layers → IsNothing none
    → Notes (numbers_in None tables) (flat_map named_rows tables) none noted → IsStrictlySortedBy nat_cmp noted.ids.keys
    → AddsLabels (map by_number (sets.difference nat_cmp noted.ids noted.named)) noted.labels labels → HasLabels layers labels
unfolding labelled names_in ids_of_type
has_labels layers tables none noted labels bases nothing notes sorted adds = λ label.
    let numbers = numbers_in None tables in
    let names = flat_map named_rows tables in
    let others : map by_number (sets.difference nat_cmp noted.ids noted.named) ≡ map by_id (filter (λ id. not (stands_for names id)) (map id_of_number (put_each [] numbers))) =
    others-kept (sets.contains nat_cmp noted.named) (stands_for names) (stands-noted numbers names none noted nothing notes) noted.ids.keys
    ∙ ap (λ (ks : List ℕ). map by_id (filter (λ id. not (stands_for names id)) (map id_of_number ks))) (keys-noted numbers none.ids noted.ids nothing.ids sorted notes.ids) in
    adds label
    ∙ ap (λ (found : Option ResId). option_or found (first_with (map by_number (sets.difference nat_cmp noted.ids noted.named)) label)) (names-noted numbers names none noted nothing notes label)
    ∙ ap (λ (all : List Labelled). option_or (first_with names label) (first_with all label)) others
    ∙ sym (first-append names (map by_id (filter (λ id. not (stands_for names id)) (map id_of_number (put_each [] numbers)))) label)
    ∙ ap (λ (ts : List TableOf). first_with (flat_map named_rows ts ++ map by_id (filter (λ id. not (stands_for (flat_map named_rows ts) id)) (map id_of_number (put_each [] (numbers_in None ts))))) label) bases

pub shared-noted : (layers : List LayerOf) (tables : List TableOf) (none noted : Noted) → tables ≡ base_tables layers → IsNothing none
    → Notes (numbers_in None tables) (flat_map named_rows tables) none noted → IsStrictlySortedBy nat_cmp noted.shared.keys → noted.shared.keys ≡ shared_ids layers
unfolding shared_ids names_in
shared-noted layers tables none noted bases nothing notes sorted =
    let names = flat_map named_rows tables in
    keys-noted (flat_map (if_shared (id_at noted.labels)) names) none.shared noted.shared nothing.shared sorted notes.shared
    ∙ ap (λ (stands : LabelOf → Option ResId). put_each [] (flat_map (if_shared stands) names)) (fun_ext (names-noted (numbers_in None tables) names none noted nothing notes))
    ∙ ap (λ (ts : List TableOf). put_each [] (flat_map (if_shared (first_with (flat_map named_rows ts))) (flat_map named_rows ts))) bases

-- ---- a name

none-by_id : (ids : List ResId) (name : FullNameOf) → first_with (map by_id ids) (ByName name) ≡ None
none-by_id [] name = refl
none-by_id (id ∷ ids) name = none-by_id ids name

name-labelled : (layers : List LayerOf) (name : FullNameOf) → first_with (labelled layers) (ByName name) ≡ first_with (names_in layers) (ByName name)
unfolding labelled
name-labelled layers name =
    first-append (names_in layers) (map by_id (nameless layers)) (ByName name)
    ∙ ap (option_or (first_with (names_in layers) (ByName name))) (none-by_id (nameless layers) name) ∙ or-none (first_with (names_in layers) (ByName name))

pub name-found : (layers : List LayerOf) (label : Label) (package_id : ℕ) (type_name entry_name : CowStr Global) → label ≡ Name package_id type_name entry_name
    → first_with (labelled layers) (label_of label) ≡ first_with (names_in layers) (label_of label)
name-found layers label package_id type_name entry_name is =
    ap (λ (l : Label). first_with (labelled layers) (label_of l)) is ∙ name-labelled layers _ ∙ sym (ap (λ (l : Label). first_with (names_in layers) (label_of l)) is)

-- ---- the entries of a map

abbrev pub entry_labelled : (Label × ResId) → Labelled
entry_labelled entry = called entry.1 (label_of entry.0)

found-entry : (es : List (Label × ResId)) (label : LabelOf) → first_with (map entry_labelled es) label ≡ lookup (λ key. is_eq (label_cmp label (label_of key))) es
found-entry [] label = refl
found-entry (e ∷ es) label = by (is_same label (label_of e.0)) (found-entry es label)
  where
    by : (b : Bool) → first_with (map entry_labelled es) label ≡ lookup (λ key. is_eq (label_cmp label (label_of key))) es
        → option_map (λ (one : Labelled). one.id) (cond b (Some (entry_labelled e)) (find (λ (one : Labelled). is_same label one.label) (map entry_labelled es)))
        ≡ cond b (Some e.1) (lookup (λ key. is_eq (label_cmp label (label_of key))) es)
    by true others = refl
    by false others = others

below-entry : (key : Label) (es : List (Label × ResId)) → AllByRecursion (λ other. order key other ≡ Less) (keys_of es)
    → AllByRecursion (λ other. label_cmp (label_of key) other ≡ Less) (labels_of (map entry_labelled es))
below-entry key [] below = tt
below-entry key (e ∷ es) below = (sym (same_order key e.0) ∙ below.0, below-entry key es below.1)

rising-entries : (es : List (Label × ResId)) → IsStrictlySortedBy order (keys_of es) → IsStrictlySortedBy label_cmp (labels_of (map entry_labelled es))
unfolding IsStrictlySortedBy
rising-entries [] sorted = tt
rising-entries (e ∷ es) sorted = (below-entry e.0 es sorted.0, rising-entries es sorted.1)

pub labels-end : (labels : BTreeMap Label ResId) (all : List Labelled) (left : List (Label × ResId)) → IsOrdered order labels
    → all ++ map entry_labelled left ≡ map entry_labelled labels.entries → left ≡ [] → AreLabels (id_at labels) all
labels-end labels all left ordered before nothing =
    subst (AreLabels (id_at labels))
    (sym (sym (append-nil all) ∙ ap (λ (es : List (Label × ResId)). all ++ map entry_labelled es) (sym nothing) ∙ before))
    (record { rising = rising-entries labels.entries ordered; found = found-entry labels.entries })
