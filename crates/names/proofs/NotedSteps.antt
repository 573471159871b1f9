-- A map of labels, seen label by label, and sets of numbers.
use Rattle.std.proofs.Common.{◌≡◌, ℕ, ◌||◌, Bool, true, false, cond, List, [], ◌∷◌, ◌++◌, Option, Some, None, refl, sym, ap, subst, ◌∙◌}
use Rattle.std.proofs.Math.Bool.{or-false}
use Rattle.std.proofs.Math.Path.{fun_ext}
use Rattle.std.proofs.lemmas.Cmp.{eq_by_cmp_equiv, nat_cmp_total}
use Rattle.std.proofs.lemmas.List.{append-nil}
use Rattle.std.specs.BTreeMap.{BTreeMap, is_at, get}
use Rattle.std.specs.BTreeSet.{BTreeSet, contains}
use Rattle.std.specs.Map.{lookup}
use Rattle.std.specs.Option.{option_map, option_or, unwrap_or}
use Rattle.std.specs.Ordering.{is_eq, nat_cmp}
use Rattle.std.specs.declared.borrow.CowStr.TheVariants.{Borrowed}
use Rattle.std.specs.declared.cmp.Ordering.{Ordering}
use Rattle.overlay_map.specs.res_value.declared.res_id.ResId.{ResId}
use Rattle.names.specs.contracts.label.LabelOrd.TheImpl.{cmp-value}
use Rattle.names.specs.declared.label.Label.{Label}
use Rattle.names.specs.declared.label.Label.TheVariants.{Name, Id}
use Rattle.names.specs.declared.noted.Noted.{Noted}
use Rattle.names.specs.Label.{LabelOf, ByName, ById, label_of, label_cmp, is_same}
use Rattle.names.specs.Noted.{id_at, number_of, shared_number, AddsLabels, Notes, Puts}
use Rattle.names.specs.StackLabels.{Labelled, called}
use Rattle.names.proofs.LabelSteps.{equal_from_is_eq, label_cmp_total}

-- the order that the code's labels have
abbrev pub order : Label → Label → Ordering
order = cmp-value.it

pub same_order : (x y : Label) → order x y ≡ label_cmp (label_of x) (label_of y)
same_order (Name p a b) (Name q c d) = refl
same_order (Name p a b) (Id d) = refl
same_order (Id a) (Name q c d) = refl
same_order (Id a) (Id d) = refl

-- a label of the code for a label
at_label : LabelOf → Label
at_label (ByName name) = Name name.package_id (Borrowed (record { ref_ptr = (0, 0); now = name.type_name })) (Borrowed (record { ref_ptr = (0, 0); now = name.entry_name }))
at_label (ById id) = Id id

label_of-at : (label : LabelOf) → label_of (at_label label) ≡ label
unfolding at_label
label_of-at (ByName name) = refl
label_of-at (ById id) = refl

-- looking up a label of the code is looking up what it is
pub found_as : (m : BTreeMap Label ResId) (key : Label) → get order m key ≡ id_at m (label_of key)
found_as m key = ap (λ (test : Label → Bool). lookup test m.entries) (fun_ext (λ (other : Label). ap is_eq (same_order key other)))

found_at : (m : BTreeMap Label ResId) (label : LabelOf) → get order m (at_label label) ≡ id_at m label
found_at m label = found_as m (at_label label) ∙ ap (id_at m) (label_of-at label)

-- the same is at the same labels
same_found : (m : BTreeMap Label ResId) (a b : LabelOf) → is_same a b ≡ true → id_at m a ≡ id_at m b
same_found m a b same =
    ap (λ (test : Label → Bool). lookup test m.entries)
    (fun_ext (λ (other : Label). ap is_eq (label_cmp_total.congr a b (label_of other) (equal_from_is_eq (label_cmp a b) same))))

-- ---- one label more

pub or-none : (found : Option ResId) → option_or found None ≡ found
or-none None = refl
or-none (Some id) = refl

or-some : (found : Option ResId) (id : ResId) → Some (unwrap_or found id) ≡ option_or found (Some id)
or-some None id = refl
or-some (Some first) id = refl

abbrev pub id_of_one : Labelled → ResId
id_of_one one = one.id

at_one : (id : ResId) (there : LabelOf) (before old : Option ResId) (same : Bool) → (same ≡ true → before ≡ old)
    → cond same (Some (unwrap_or before id)) old ≡ option_or old (option_map id_of_one (cond same (Some (called id there)) None))
at_one id there before old true is = ap (λ (found : Option ResId). Some (unwrap_or found id)) (is refl) ∙ or-some old id
at_one id there before old false is = sym (or-none old)

pub added : (id first : ResId) (key : Label) (before : Option ResId) (old new : BTreeMap Label ResId) → before ≡ get order old key → first ≡ unwrap_or before id
    → ((q : Label) → get order new q ≡ cond (is_at (order key) q) (Some first) (get order old q)) → AddsLabels (called id (label_of key) ∷ []) old new
added id first key before old new found is put = λ label.
    let there = label_of key in
    let flipped : is_at (order key) (at_label label) ≡ is_same label there =
    ap is_eq (same_order key (at_label label)) ∙ ap (λ (l : LabelOf). is_same there l) (label_of-at label) ∙ (eq_by_cmp_equiv label_cmp_total).symm there label in
    sym (found_at new label) ∙ put (at_label label)
    ∙ ap (λ (s : ResId). cond (is_at (order key) (at_label label)) (Some s) (get order old (at_label label))) is
    ∙ ap (λ (b : Bool). cond b (Some (unwrap_or before id)) (get order old (at_label label))) flipped
    ∙ ap (λ (s : Option ResId). cond (is_same label there) (Some (unwrap_or before id)) s) (found_at old label)
    ∙ at_one id there before (id_at old label) (is_same label there) (λ same. found ∙ found_as old key ∙ sym (same_found old label there same))

-- ---- one number more

pub put : (number : ℕ) (old new : BTreeSet ℕ) → ((q : ℕ) → contains nat_cmp new q ≡ cond (is_at (nat_cmp number) q) true (contains nat_cmp old q)) → Puts (number ∷ []) old new
put number old new updates = λ q. updates q ∙ ap (λ (b : Bool). cond b true (contains nat_cmp old q)) ((eq_by_cmp_equiv nat_cmp_total).symm number q) ∙ by (is_eq (nat_cmp q number)) (contains nat_cmp old q)
  where
    by : (b c : Bool) → cond b true c ≡ (c || (b || false))
    by true true = refl
    by true false = refl
    by false true = refl
    by false false = refl

pub put_nothing : (old : BTreeSet ℕ) → Puts [] old old
put_nothing old = λ q. sym (or-false (contains nat_cmp old q))

-- ---- one row more

pub noted_one : (first id : ResId) (label : LabelOf) (old new : Noted) → AddsLabels (called id label ∷ []) old.labels new.labels → id_at new.labels label ≡ Some first
    → Puts (id.0 ∷ []) old.ids new.ids → Puts (first.0 ∷ []) old.named new.named → Puts (shared_number id (Some first)) old.shared new.shared
    → Notes (id.0 ∷ []) (called id label ∷ []) old new
noted_one first id label old new adds is ids named shared = record {
  labels = adds;
  ids = ids;
  named = subst (λ (found : Option ResId). Puts (number_of found ++ []) old.named new.named) (sym is) named;
  shared =
      subst (λ (found : Option ResId). Puts (shared_number id found ++ []) old.shared new.shared) (sym is)
      (subst (λ (numbers : List ℕ). Puts numbers old.shared new.shared) (sym (append-nil (shared_number id (Some first)))) shared);
}
