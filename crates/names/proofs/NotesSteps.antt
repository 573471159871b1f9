-- How rows are noted, one after the other.
use Rattle.std.proofs.Common.{◌≡◌, ℕ, ◌+◌, ◌<◌, ◌≤◌, ◌||◌, Bool, true, false, cond, List, [], ◌∷◌, ◌++◌, map, length, drop, get_or, Option, Some, None, Result, refl, sym, ap, subst, ◌∙◌, append_assoc, ◌⊎◌, ⊎_elim}
use Rattle.std.proofs.lemmas.Cmp.{tied_itself}
use Rattle.std.proofs.lemmas.Grind.{flat_map-append}
use Rattle.std.proofs.Math.Bool.{or-false, or_assoc}
use Rattle.std.proofs.lemmas.List.{append-nil, drop_all, drop_more}
use Rattle.std.proofs.lemmas.List.Folds.{find-append, list_any-append}
use Rattle.std.specs.BTreeMap.{BTreeMap}
use Rattle.std.specs.BTreeSet.{BTreeSet, contains}
use Rattle.std.specs.List.{AllByRecursion, find, flat_map}
use Rattle.std.specs.Option.{is_some, option_map, option_or}
use Rattle.std.specs.Ordering.{is_eq, nat_cmp}
use Rattle.std.specs.declared.cmp.Ordering.{Ordering}
use Rattle.overlay_map.specs.res_value.declared.res_id.ResId.{ResId}
use Rattle.overlay_map.specs.res_value.ResId.{package_of}
use Rattle.overlay_map.specs.Names.{type_name_in, key_name_in}
use Rattle.overlay_map.specs.Table.{TableOf}
use Rattle.overlay_map.specs.type_chunks.Row.{RowOf}
use Rattle.overlay_map.specs.string_pool.Text.{TextOf}
use Rattle.overlay_map.specs.string_pool.string_bytes.declared.fault.StringFault.{StringFault}
use Rattle.names.specs.declared.label.Label.{Label}
use Rattle.names.specs.declared.noted.Noted.{Noted}
use Rattle.names.specs.declared.passed.Passed.{Passed}
use Rattle.names.specs.IdsOfType.{id_of_number, numbers_of_type}
use Rattle.names.specs.Label.{LabelOf, is_same}
use Rattle.names.specs.Noted.{by_number, id_at, is_in, number_of, shared_number, AddsLabels, AreNoted, Notes, Puts}
use Rattle.names.specs.NameText.{name_text}
use Rattle.names.specs.Passed.{was_passed, HaveSameNames}
use Rattle.names.specs.StackLabels.{Labelled, first_with, name_of_parts, name_of_row, named}
use Rattle.names.proofs.LabelSteps.{label_cmp_total}
use Rattle.names.proofs.NamePlaces.{same_type_name, same_key_name}
use Rattle.names.proofs.NotedSteps.{id_of_one, or-none, put_nothing}

pub first-append : (a b : List Labelled) (label : LabelOf) → first_with (a ++ b) label ≡ option_or (first_with a label) (first_with b label)
first-append a b label = ap (option_map id_of_one) (find-append test a b) ∙ by (find test a)
  where
    test : Labelled → Bool
    test other = is_same label other.label

    by : (found : Option Labelled) → option_map id_of_one (option_or found (find test b)) ≡ option_or (option_map id_of_one found) (first_with b label)
    by None = refl
    by (Some one) = refl

-- ---- what is told of labels that stand for something

-- these labels stand for something
abbrev Stand : (LabelOf → Option ResId) → List Labelled → Type 0
Stand f all = AllByRecursion (λ (one : Labelled). is_some (f one.label) ≡ true) all

stand_more : (f g : LabelOf → Option ResId) → ((label : LabelOf) → is_some (f label) ≡ true → is_some (g label) ≡ true) → (all : List Labelled) → Stand f all → Stand g all
stand_more f g more [] stand = tt
stand_more f g more (one ∷ all) stand = (more one.label stand.0, stand_more f g more all stand.1)

some_first : (one : Labelled) (all : List Labelled) (label : LabelOf) → is_some (first_with all label) ≡ true → is_some (first_with (one ∷ all) label) ≡ true
some_first one all label some = by (is_same label one.label)
  where
    by : (b : Bool) → is_some (option_map (λ (other : Labelled). other.id) (cond b (Some one) (find (λ (other : Labelled). is_same label other.label) all))) ≡ true
    by true = refl
    by false = some

stand : (all : List Labelled) → Stand (first_with all) all
stand [] = tt
stand (one ∷ all) = (
  ap (λ (r : Ordering). is_some (option_map (λ (other : Labelled). other.id) (cond (is_eq r) (Some one) (find (λ (other : Labelled). is_same one.label other.label) all)))) (tied_itself label_cmp_total one.label),
  stand_more (first_with all) (first_with (one ∷ all)) (some_first one all) all (stand all),
)

-- what is told of a label depends on what that stands for
abbrev Tells : Type 0
Tells = ResId → Option ResId → List ℕ

abbrev told : Tells → (LabelOf → Option ResId) → List Labelled → List ℕ
told tells f all = flat_map (λ (one : Labelled). tells one.id (f one.label)) all

told-kept : (tells : Tells) (f g : LabelOf → Option ResId) → ((label : LabelOf) → is_some (f label) ≡ true → f label ≡ g label) → (all : List Labelled) → Stand f all
    → told tells f all ≡ told tells g all
told-kept tells f g kept [] stand = refl
told-kept tells f g kept (one ∷ all) stand =
    ap (λ (found : Option ResId). tells one.id found ++ told tells f all) (kept one.label stand.0)
    ∙ ap (λ (others : List ℕ). tells one.id (g one.label) ++ others) (told-kept tells f g kept all stand.1)

some-or : (found others : Option ResId) → is_some others ≡ true → is_some (option_or found others) ≡ true
some-or (Some id) others some = refl
some-or None others some = some

kept-or : (found others : Option ResId) → is_some found ≡ true → found ≡ option_or found others
kept-or (Some id) others some = refl
kept-or None others some = absurd cc

-- after labels were added, more labels change nothing of what is told of these
told-more : (tells : Tells) (a b : List Labelled) (old mid new : BTreeMap Label ResId) → AddsLabels a old mid → AddsLabels b mid new
    → told tells (id_at mid) a ≡ told tells (id_at new) a
told-more tells a b old mid new first second =
    told-kept tells (id_at mid) (id_at new) (λ label some. kept-or (id_at mid label) (first_with b label) some ∙ sym (second label)) a
    (stand_more (first_with a) (id_at mid) (λ label some. ap is_some (first label) ∙ some-or (id_at old label) (first_with a label) some) a (stand a))

-- ---- rows

or-assoc : (a b c : Option ResId) → option_or (option_or a b) c ≡ option_or a (option_or b c)
or-assoc None b c = refl
or-assoc (Some a) b c = refl

Adds-append : (a b : List Labelled) (old mid new : BTreeMap Label ResId) → AddsLabels a old mid → AddsLabels b mid new → AddsLabels (a ++ b) old new
Adds-append a b old mid new first second = λ label.
    second label ∙ ap (λ (found : Option ResId). option_or found (first_with b label)) (first label) ∙ or-assoc (id_at old label) (first_with a label) (first_with b label)
    ∙ ap (option_or (id_at old label)) (sym (first-append a b label))

Puts-append : (a b : List ℕ) (old mid new : BTreeSet ℕ) → Puts a old mid → Puts b mid new → Puts (a ++ b) old new
Puts-append a b old mid new first second = λ q.
    second q ∙ ap (λ (there : Bool). there || is_in b q) (first q)
    ∙ or_assoc (contains nat_cmp old q) (is_in a q) (is_in b q) ∙ ap (λ (there : Bool). contains nat_cmp old q || there) (sym (list_any-append (λ other. is_eq (nat_cmp q other)) a b))

Told-append : (tells : Tells) (a b : List Labelled) (old mid new : BTreeMap Label ResId) (s t u : BTreeSet ℕ) → AddsLabels a old mid → AddsLabels b mid new
    → Puts (told tells (id_at mid) a) s t → Puts (told tells (id_at new) b) t u → Puts (told tells (id_at new) (a ++ b)) s u
Told-append tells a b old mid new s t u adds more first second =
    subst (λ (numbers : List ℕ). Puts numbers s u)
    (ap (λ (numbers : List ℕ). numbers ++ told tells (id_at new) b) (told-more tells a b old mid new adds more) ∙ sym (flat_map-append (λ (one : Labelled). tells one.id (id_at new one.label)) a b))
    (Puts-append (told tells (id_at mid) a) (told tells (id_at new) b) s t u first second)

tells_named : Tells
tells_named id found = number_of found

pub Notes-none : (old : Noted) → Notes [] [] old old
Notes-none old = record {
  labels = λ label. sym (or-none (id_at old.labels label));
  ids = put_nothing old.ids;
  named = put_nothing old.named;
  shared = put_nothing old.shared;
}

pub Notes-append : (is js : List ℕ) (a b : List Labelled) (old mid new : Noted) → Notes is a old mid → Notes js b mid new → Notes (is ++ js) (a ++ b) old new
unfolding tells_named
Notes-append is js a b old mid new first second = record {
  labels = Adds-append a b old.labels mid.labels new.labels first.labels second.labels;
  ids = Puts-append is js old.ids mid.ids new.ids first.ids second.ids;
  named = Told-append tells_named a b old.labels mid.labels new.labels old.named mid.named new.named first.labels second.labels first.named second.named;
  shared = Told-append shared_number a b old.labels mid.labels new.labels old.shared mid.shared new.shared first.labels second.labels first.shared second.shared;
}

-- ---- rows that are noted again, behind others

Adds-again : (all more : List Labelled) (old mid new : BTreeMap Label ResId) → AddsLabels all old mid → AddsLabels more mid new → AddsLabels all new new
Adds-again all more old mid new first second = λ label. let found = first_with all label in
    is label ∙ again (id_at old label) found (first_with more label) ∙ ap (λ (o : Option ResId). option_or o found) (sym (is label))
  where
    is : (label : LabelOf) → id_at new label ≡ option_or (option_or (id_at old label) (first_with all label)) (first_with more label)
    is label = second label ∙ ap (λ (o : Option ResId). option_or o (first_with more label)) (first label)

    again : (a b c : Option ResId) → option_or (option_or a b) c ≡ option_or (option_or (option_or a b) c) b
    again (Some a) b c = refl
    again None (Some b) c = refl
    again None None c = sym (or-none c)

Puts-again : (numbers more : List ℕ) (old mid new : BTreeSet ℕ) → Puts numbers old mid → Puts more mid new → Puts numbers new new
Puts-again numbers more old mid new first second = λ q. is q ∙ again (contains nat_cmp old q) (is_in numbers q) (is_in more q) ∙ ap (λ (b : Bool). b || is_in numbers q) (sym (is q))
  where
    is : (q : ℕ) → contains nat_cmp new q ≡ ((contains nat_cmp old q || is_in numbers q) || is_in more q)
    is q = second q ∙ ap (λ (b : Bool). b || is_in more q) (first q)

    again : (a b c : Bool) → ((a || b) || c) ≡ (((a || b) || c) || b)
    again true b c = refl
    again false true c = refl
    again false false c = sym (or-false c)

Told-again : (tells : Tells) (all more : List Labelled) (others : List ℕ) (old mid new : BTreeMap Label ResId) (s t u : BTreeSet ℕ) → AddsLabels all old mid → AddsLabels more mid new
    → Puts (told tells (id_at mid) all) s t → Puts others t u → Puts (told tells (id_at new) all) u u
Told-again tells all more others old mid new s t u adds later first second =
    subst (λ (numbers : List ℕ). Puts numbers u u) (told-more tells all more old mid new adds later) (Puts-again (told tells (id_at mid) all) others s t u first second)

Notes-again : (is js : List ℕ) (all more : List Labelled) (old mid new : Noted) → Notes is all old mid → Notes js more mid new → Notes is all new new
unfolding tells_named
Notes-again is js all more old mid new first second = record {
  labels = Adds-again all more old.labels mid.labels new.labels first.labels second.labels;
  ids = Puts-again is js old.ids mid.ids new.ids first.ids second.ids;
  named = Told-again tells_named all more _ old.labels mid.labels new.labels old.named mid.named new.named first.labels second.labels first.named second.named;
  shared = Told-again shared_number all more _ old.labels mid.labels new.labels old.shared mid.shared new.shared first.labels second.labels first.shared second.shared;
}

-- rows that change nothing stay so
pub Notes-kept : (is js : List ℕ) (all more : List Labelled) (old new : Noted) → Notes is all old old → Notes js more old new → Notes is all new new
Notes-kept is js all more old new same notes = Notes-again is js all more old old new same notes

-- ---- a loop

-- of all items those rows were noted that f and g give, but for those of what is left
pub record NotesAllBut {A : Type 0} (f : A → List ℕ) (g : A → List Labelled) (old now : Noted) (all left : List A) : Type 0 where
  pub so_far : List A
  pub noted : Notes (flat_map f so_far) (flat_map g so_far) old now
  pub others : so_far ++ left ≡ all

pub NotesAllBut-none : {A : Type 0} (f : A → List ℕ) (g : A → List Labelled) (old : Noted) (all : List A) → NotesAllBut f g old old all all
NotesAllBut-none f g old all = record { so_far = []; noted = Notes-none old; others = refl }

one_more : {A B : Type 0} (f : A → List B) (so_far : List A) (x : A) → flat_map f so_far ++ f x ≡ flat_map f (so_far ++ x ∷ [])
one_more f so_far x = sym (flat_map-append f so_far (x ∷ []) ∙ ap (λ others. flat_map f so_far ++ others) (append-nil (f x)))

pub NotesAllBut-next : {A : Type 0} (f : A → List ℕ) (g : A → List Labelled) (old mid new : Noted) (all left others : List A) (x : A) → NotesAllBut f g old mid all left
    → left ≡ x ∷ others → Notes (f x) (g x) mid new → NotesAllBut f g old new all others
NotesAllBut-next {A} f g old mid new all left others x before split noted = record {
  so_far = before.so_far ++ x ∷ [];
  noted =
      subst (λ (ids : List ℕ). Notes ids (flat_map g (before.so_far ++ x ∷ [])) old new) (one_more f before.so_far x)
      (subst (λ (names : List Labelled). Notes (flat_map f before.so_far ++ f x) names old new) (one_more g before.so_far x)
      (Notes-append (flat_map f before.so_far) (f x) (flat_map g before.so_far) (g x) old mid new before.noted noted));
  others = append_assoc before.so_far (x ∷ []) others ∙ ap (λ (xs : List A). before.so_far ++ xs) (sym split) ∙ before.others;
}

pub NotesAllBut-end : {A : Type 0} (f : A → List ℕ) (g : A → List Labelled) (old now : Noted) (all left : List A) → NotesAllBut f g old now all left
    → left ≡ [] → Notes (flat_map f all) (flat_map g all) old now
NotesAllBut-end {A} f g old now all left before nothing =
    subst (λ (xs : List A). Notes (flat_map f xs) (flat_map g xs) old now)
    (sym (append-nil before.so_far) ∙ ap (λ (xs : List A). before.so_far ++ xs) (sym nothing) ∙ before.others) before.noted

-- with those that are left, all ids were added as labels of their own
abbrev pub AddsAllBut : BTreeMap Label ResId → BTreeMap Label ResId → List ℕ → List ℕ → Type 0
AddsAllBut old now all left = (label : LabelOf) → option_or (id_at now label) (first_with (map by_number left) label) ≡ option_or (id_at old label) (first_with (map by_number all) label)

pub AddsAllBut-next : (old mid new : BTreeMap Label ResId) (all left others : List ℕ) (number : ℕ) → AddsAllBut old mid all left → left ≡ number ∷ others
    → AddsLabels (by_number number ∷ []) mid new → AddsAllBut old new all others
AddsAllBut-next old mid new all left others number before split adds = λ label.
    let here = first_with (by_number number ∷ []) label in
    let behind = first_with (map by_number others) label in
    ap (λ (found : Option ResId). option_or found behind) (adds label) ∙ or-assoc (id_at mid label) here behind
    ∙ ap (option_or (id_at mid label)) (sym (first-append (by_number number ∷ []) (map by_number others) label))
    ∙ ap (λ (numbers : List ℕ). option_or (id_at mid label) (first_with (map by_number numbers) label)) (sym split) ∙ before label

pub AddsAllBut-end : (old now : BTreeMap Label ResId) (all left : List ℕ) → AddsAllBut old now all left → left ≡ [] → AddsLabels (map by_number all) old now
AddsAllBut-end old now all left before nothing = λ label.
    sym (or-none (id_at now label)) ∙ ap (λ (numbers : List ℕ). option_or (id_at now label) (first_with (map by_number numbers) label)) (sym nothing) ∙ before label

-- ---- the same over a slice, whose items are seen by a view

pub NotesAllBut-next_at : {X A : Type 0} (view : X → A) (f : A → List ℕ) (g : A → List Labelled) (old mid new : Noted) (all : List A) (xs : List X) (i : ℕ) (x : X)
    → NotesAllBut f g old mid all (map view (drop i xs)) → i < length xs → x ≡ get_or xs i x → Notes (f (view x)) (g (view x)) mid new
    → NotesAllBut f g old new all (map view (drop (i + 1) xs))
NotesAllBut-next_at {X} {A} view f g old mid new all xs i x before on here noted =
    let split : drop i xs ≡ x ∷ drop (i + 1) xs = drop_more xs i x on ∙ ap (λ (y : X). y ∷ drop (i + 1) xs) (sym here) in
    NotesAllBut-next f g old mid new all (map view (drop i xs)) (map view (drop (i + 1) xs)) (view x) before
    (ap (λ (t : List X). map view t) split) noted

pub NotesAllBut-end_at : {X A : Type 0} (view : X → A) (f : A → List ℕ) (g : A → List Labelled) (old now : Noted) (all : List A) (xs : List X) (i : ℕ)
    → NotesAllBut f g old now all (map view (drop i xs)) → length xs ≤ i → Notes (flat_map f all) (flat_map g all) old now
NotesAllBut-end_at {X} {A} view f g old now all xs i before past =
    NotesAllBut-end f g old now all (map view (drop i xs)) before (ap (λ (t : List X). map view t) (drop_all i xs past))

pub ruleset notes = (NotesAllBut-none)

pub ids_of_rows : (table : TableOf) (rows : List RowOf) → flat_map (λ (row : RowOf). row.id ∷ []) rows ≡ numbers_of_type None table rows
ids_of_rows table [] = refl
ids_of_rows table (row ∷ rows) = ap (λ (numbers : List ℕ). row.id ∷ numbers) (ids_of_rows table rows)

-- ---- rows that were passed

same_name : (table : TableOf) (row other : RowOf) → HaveSameNames row other → name_of_row table row ≡ name_of_row table other
unfolding name_of_row
same_name table row other same =
    ap (λ (id : ℕ). name_of_parts (package_of (id_of_number id)) (name_text (type_name_in table row)) (name_text (key_name_in table row))) same.id
    ∙ ap (λ (name : Result TextOf StringFault). name_of_parts (package_of (id_of_number other.id)) (name_text name) (name_text (key_name_in table row))) (same_type_name table row other same)
    ∙ ap (λ (name : Result TextOf StringFault). name_of_parts (package_of (id_of_number other.id)) (name_text (type_name_in table other)) (name_text name)) (same_key_name table row other same)

-- what a row says
abbrev pub NotesRow : TableOf → RowOf → Noted → Noted → Type 0
NotesRow table row old new = Notes (row.id ∷ []) (named row (name_of_row table row)) old new

named_alike : (row other : RowOf) (name : Option LabelOf) → row.id ≡ other.id → named row name ≡ named other name
named_alike row other name same = ap (λ (id : ℕ). named (record row { id = id }) name) same

pub AreNoted-next : (table : TableOf) (row : RowOf) (was now : Passed) (old new : Noted) → AreNoted table was old
    → ((other : RowOf) → was_passed now other ≡ true → HaveSameNames row other ⊎ (was_passed was other ≡ true)) → NotesRow table row old new → AreNoted table now new
AreNoted-next table row was now old new before more noted = λ other passed.
    ⊎_elim
    (λ same.
    subst (λ (id : ℕ). Notes (id ∷ []) (named other (name_of_row table other)) new new) same.id
    (subst (λ (names : List Labelled). Notes (row.id ∷ []) names new new) (ap (named row) (same_name table row other same) ∙ named_alike row other (name_of_row table other) same.id)
    (Notes-again (row.id ∷ []) [] (named row (name_of_row table row)) [] old new new noted (Notes-none new))))
    (λ had. Notes-kept (other.id ∷ []) (row.id ∷ []) (named other (name_of_row table other)) (named row (name_of_row table row)) old new (before other had) noted) (more other passed)
