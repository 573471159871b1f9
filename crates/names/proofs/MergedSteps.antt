-- The labels of two stacks that are merged are their pairs.
use Rattle.std.proofs.Common.{◌≡◌, ◌||◌, Bool, false, List, [], ◌∷◌, ◌++◌, cond, map, Option, Some, None, refl, sym, ap, ◌∙◌}
use Rattle.std.proofs.Math.Bool.{or_assoc}
use Rattle.std.proofs.Math.Path.{fun_ext}
use Rattle.std.proofs.lemmas.Cmp.{alike_right, tied_itself}
use Rattle.std.proofs.lemmas.List.Folds.{list_any-append}
use Rattle.std.specs.List.{cons_option, filter_map, find, list_any}
use Rattle.std.specs.List.Sorted.{IsStrictlySortedBy}
use Rattle.std.specs.Option.{is_some, option_map}
use Rattle.std.specs.Ordering.{is_eq, match_ordering, ordering_reverse}
use Rattle.std.specs.declared.cmp.Ordering.{Ordering}
use Rattle.std.specs.declared.cmp.Ordering.TheVariants.{Less, Equal, Greater}
use Rattle.overlay_map.specs.Layer.{LayerOf}
use Rattle.overlay_map.specs.res_value.declared.res_id.ResId.{ResId}
use Rattle.names.specs.declared.pair.Sides.{Sides}
use Rattle.names.specs.Label.{LabelOf, label_cmp, is_same}
use Rattle.names.specs.Merged.{added, in_both, merged, removed, AreLabels}
use Rattle.names.specs.Pairs.{PairOf, sides_of, paired, rising, name_pairs}
use Rattle.names.specs.StackLabels.{Labelled, first_with, labelled, labels_of}
use Rattle.names.proofs.LabelSteps.{label_cmp_exact, label_cmp_total}
use Rattle.names.proofs.Rising.{IsBelow, below_all, or_turned, or_twice, put_is}
use Rattle.names.proofs.SideBySide.{any_side, sides_in}

abbrev labels : List PairOf → List LabelOf
labels pairs = map (λ (pair : PairOf). pair.label) pairs

abbrev Below : LabelOf → List LabelOf → Type 0
Below = IsBelow label_cmp_total

abbrev Rise : List LabelOf → Type 0
Rise = IsStrictlySortedBy label_cmp

turned : (a b : LabelOf) → label_cmp a b ≡ Greater → label_cmp b a ≡ Less
turned a b e = label_cmp_total.antisymm b a ∙ ap ordering_reverse e

tied_back : (a b : LabelOf) → label_cmp a b ≡ Equal → label_cmp b a ≡ Equal
tied_back a b e = label_cmp_total.antisymm b a ∙ ap ordering_reverse e

-- ---- what is merged rises

tied_below : (k l : LabelOf) (ls : List LabelOf) → label_cmp k l ≡ Equal → Below k ls → Below l ls
tied_below k l [] same all = tt
tied_below k l (c ∷ ls) same all = (sym (label_cmp_total.congr k l c same) ∙ all.0, tied_below k l ls same all.1)

below_both : (k : LabelOf) (a b : List Labelled) → Below k (labels_of a) → Below k (labels_of b) → Below k (labels (merged a b))
below_both k [] [] s t = tt
below_both k (x ∷ a) [] s t = (s.0, below_both k a [] s.1 tt)
below_both k [] (y ∷ b) s t = (t.0, below_both k [] b tt t.1)
below_both k (x ∷ a) (y ∷ b) s t = by (label_cmp x.label y.label) (below_both k a (y ∷ b) s.1 t) (below_both k a b s.1 t.1) (below_both k (x ∷ a) b s t.1)
  where
    by : (r : Ordering) → Below k (labels (merged a (y ∷ b))) → Below k (labels (merged a b)) → Below k (labels (merged (x ∷ a) b))
        → Below k (labels (match_ordering r (removed x ∷ merged a (y ∷ b)) (in_both x y ∷ merged a b) (added y ∷ merged (x ∷ a) b)))
    by Less p q r = (s.0, p)
    by Equal p q r = (t.0, q)
    by Greater p q r = (t.0, r)

rises : (a b : List Labelled) → Rise (labels_of a) → Rise (labels_of b) → Rise (labels (merged a b))
unfolding IsStrictlySortedBy
rises [] [] s t = tt
rises (x ∷ a) [] s t = (below_both x.label a [] s.0 tt, rises a [] s.1 tt)
rises [] (y ∷ b) s t = (below_both y.label [] b tt t.0, rises [] b tt t.1)
rises (x ∷ a) (y ∷ b) s t = by (label_cmp x.label y.label) refl (rises a (y ∷ b) s.1 t) (rises a b s.1 t.1) (rises (x ∷ a) b s t.1)
  where
    by : (r : Ordering) → label_cmp x.label y.label ≡ r → Rise (labels (merged a (y ∷ b))) → Rise (labels (merged a b)) → Rise (labels (merged (x ∷ a) b))
        → Rise (labels (match_ordering r (removed x ∷ merged a (y ∷ b)) (in_both x y ∷ merged a b) (added y ∷ merged (x ∷ a) b)))
    by Less e p q r = (below_both x.label a (y ∷ b) s.0 (e, below_all label_cmp_total x.label y.label (labels_of b) e t.0), p)
    by Equal e p q r = (below_both y.label a b (tied_below x.label y.label (labels_of a) e s.0) t.0, q)
    by Greater e p q r =
        let less = turned x.label y.label e in
        (below_both y.label (x ∷ a) b (less, below_all label_cmp_total y.label x.label (labels_of a) less s.0) t.0, r)

-- ---- each has what it stands for

first_past : (x : Labelled) (all : List Labelled) (label : LabelOf) → label_cmp x.label label ≡ Less → first_with (x ∷ all) label ≡ first_with all label
first_past x all label less =
    ap (λ (r : Ordering). option_map (λ (one : Labelled). one.id) (cond (is_eq r) (Some x) (find (λ (one : Labelled). is_same label one.label) all)))
    (label_cmp_total.antisymm label x.label ∙ ap ordering_reverse less)

first_here : (x : Labelled) (all : List Labelled) → first_with (x ∷ all) x.label ≡ Some x.id
first_here x all =
    ap (λ (r : Ordering). option_map (λ (one : Labelled). one.id) (cond (is_eq r) (Some x) (find (λ (one : Labelled). is_same x.label one.label) all)))
    (tied_itself label_cmp_total x.label)

none_here : (all : List Labelled) (label : LabelOf) → Below label (labels_of all) → first_with all label ≡ None
none_here [] label below = refl
none_here (x ∷ all) label below =
    ap (λ (r : Ordering). option_map (λ (one : Labelled). one.id) (cond (is_eq r) (Some x) (find (λ (one : Labelled). is_same label one.label) all))) below.0
    ∙ none_here all label below.1

abbrev with_sides : LabelOf → Option Sides → Option PairOf
with_sides label found = option_map (λ (sides : Sides). record { label = label; sides = sides }) found

past_old : (x : Labelled) (a b : List Labelled) (ls : List LabelOf) → Below x.label ls → filter_map (paired a b) ls ≡ filter_map (paired (x ∷ a) b) ls
past_old x a b [] below = refl
past_old x a b (l ∷ ls) below =
    ap (λ (found : Option ResId). cons_option (with_sides l (sides_of found (first_with b l))) (filter_map (paired a b) ls)) (sym (first_past x a l below.0))
    ∙ ap (λ (pairs : List PairOf). cons_option (paired (x ∷ a) b l) pairs) (past_old x a b ls below.1)

past_new : (y : Labelled) (a b : List Labelled) (ls : List LabelOf) → Below y.label ls → filter_map (paired a b) ls ≡ filter_map (paired a (y ∷ b)) ls
past_new y a b [] below = refl
past_new y a b (l ∷ ls) below =
    ap (λ (found : Option ResId). cons_option (with_sides l (sides_of (first_with a l) found)) (filter_map (paired a b) ls)) (sym (first_past y b l below.0))
    ∙ ap (λ (pairs : List PairOf). cons_option (paired a (y ∷ b) l) pairs) (past_new y a b ls below.1)

-- the first of what is merged, before others
next_pair : (a b : List Labelled) (label : LabelOf) (old new : Option ResId) (sides : Sides) (pairs : List PairOf) (ls : List LabelOf) → first_with a label ≡ old → first_with b label ≡ new
    → sides_of old new ≡ Some sides → pairs ≡ filter_map (paired a b) ls → record { label = label; sides = sides } ∷ pairs ≡ filter_map (paired a b) (label ∷ ls)
next_pair a b label old new sides pairs ls olds news is others =
    ap (λ (ps : List PairOf). record { label = label; sides = sides } ∷ ps) others
    ∙ ap (λ (found : Option Sides). cons_option (with_sides label found) (filter_map (paired a b) ls))
    (sym (ap (λ (found : Option ResId). sides_of found (first_with b label)) olds ∙ ap (λ (found : Option ResId). sides_of old found) news ∙ is))

right : (a b : List Labelled) → Rise (labels_of a) → Rise (labels_of b) → merged a b ≡ filter_map (paired a b) (labels (merged a b))
unfolding IsStrictlySortedBy
right [] [] s t = refl
right (x ∷ a) [] s t =
    next_pair (x ∷ a) [] x.label _ _ _ _ _ (first_here x a) refl refl (right a [] s.1 tt ∙ past_old x a [] (labels (merged a [])) (below_both x.label a [] s.0 tt))
right [] (y ∷ b) s t =
    next_pair [] (y ∷ b) y.label _ _ _ _ _ refl (first_here y b) refl (right [] b tt t.1 ∙ past_new y [] b (labels (merged [] b)) (below_both y.label [] b tt t.0))
right (x ∷ a) (y ∷ b) s t = by (label_cmp x.label y.label) refl (right a (y ∷ b) s.1 t) (right a b s.1 t.1) (right (x ∷ a) b s t.1)
  where
    by : (r : Ordering) → label_cmp x.label y.label ≡ r → merged a (y ∷ b) ≡ filter_map (paired a (y ∷ b)) (labels (merged a (y ∷ b))) → merged a b ≡ filter_map (paired a b) (labels (merged a b))
        → merged (x ∷ a) b ≡ filter_map (paired (x ∷ a) b) (labels (merged (x ∷ a) b))
        → match_ordering r (removed x ∷ merged a (y ∷ b)) (in_both x y ∷ merged a b) (added y ∷ merged (x ∷ a) b)
        ≡ filter_map (paired (x ∷ a) (y ∷ b)) (labels (match_ordering r (removed x ∷ merged a (y ∷ b)) (in_both x y ∷ merged a b) (added y ∷ merged (x ∷ a) b)))
    by Less e p q r =
        let below : Below x.label (labels_of (y ∷ b)) = (e, below_all label_cmp_total x.label y.label (labels_of b) e t.0) in
        next_pair (x ∷ a) (y ∷ b) x.label _ _ _ _ _ (first_here x a) (none_here (y ∷ b) x.label below) refl
        (p ∙ past_old x a (y ∷ b) (labels (merged a (y ∷ b))) (below_both x.label a (y ∷ b) s.0 below))
    by Equal e p q r =
        let below : Below y.label (labels_of a) = tied_below x.label y.label (labels_of a) e s.0 in
        next_pair (x ∷ a) (y ∷ b) y.label _ _ _ _ _ (ap (first_with (x ∷ a)) (sym (label_cmp_exact x.label y.label e)) ∙ first_here x a) (first_here y b) refl
        (q ∙ past_old x a b (labels (merged a b)) (below_both x.label a b s.0 (tied_below y.label x.label (labels_of b) (tied_back x.label y.label e) t.0))
        ∙ past_new y (x ∷ a) b (labels (merged a b)) (below_both y.label a b below t.0))
    by Greater e p q r =
        let less = turned x.label y.label e in
        let below : Below y.label (labels_of (x ∷ a)) = (less, below_all label_cmp_total y.label x.label (labels_of a) less s.0) in
        next_pair (x ∷ a) (y ∷ b) y.label _ _ _ _ _ (none_here (x ∷ a) y.label below) (first_here y b) refl
        (r ∙ past_new y (x ∷ a) b (labels (merged (x ∷ a) b)) (below_both y.label (x ∷ a) b below t.0))

-- ---- no label is left out

or_both : (x y a b : Bool) → x ≡ y → (y || (a || b)) ≡ ((x || a) || (y || b))
or_both x y a b same = ap (λ (e : Bool). e || (a || b)) (sym same) ∙ sym (or_assoc x a b) ∙ or_next y x a b (sym same) ∙ or_turned y (x || a) b
  where
    or_next : (y x a b : Bool) → y ≡ x → ((x || a) || b) ≡ (y || ((x || a) || b))
    or_next y x a b same = or_assoc x a b ∙ or_twice y x (a || b) same ∙ ap (λ (e : Bool). y || e) (sym (or_assoc x a b))

abbrev any : LabelOf → List LabelOf → Bool
any label ls = list_any (is_same label) ls

any_merged : (label : LabelOf) (a b : List Labelled) → any label (labels (merged a b)) ≡ (any label (labels_of a) || any label (labels_of b))
any_merged label [] [] = refl
any_merged label (x ∷ a) [] = ap (λ (found : Bool). is_same label x.label || found) (any_merged label a []) ∙ sym (or_assoc (is_same label x.label) (any label (labels_of a)) false)
any_merged label [] (y ∷ b) = ap (λ (found : Bool). is_same label y.label || found) (any_merged label [] b)
any_merged label (x ∷ a) (y ∷ b) = by (label_cmp x.label y.label) refl (any_merged label a (y ∷ b)) (any_merged label a b) (any_merged label (x ∷ a) b)
  where
    by : (r : Ordering) → label_cmp x.label y.label ≡ r → any label (labels (merged a (y ∷ b))) ≡ (any label (labels_of a) || any label (labels_of (y ∷ b)))
        → any label (labels (merged a b)) ≡ (any label (labels_of a) || any label (labels_of b))
        → any label (labels (merged (x ∷ a) b)) ≡ (any label (labels_of (x ∷ a)) || any label (labels_of b))
        → any label (labels (match_ordering r (removed x ∷ merged a (y ∷ b)) (in_both x y ∷ merged a b) (added y ∷ merged (x ∷ a) b)))
        ≡ (any label (labels_of (x ∷ a)) || any label (labels_of (y ∷ b)))
    by Less e p q r = ap (λ (found : Bool). is_same label x.label || found) p ∙ sym (or_assoc (is_same label x.label) (any label (labels_of a)) (any label (labels_of (y ∷ b))))
    by Equal e p q r =
        ap (λ (found : Bool). is_same label y.label || found) q
        ∙ or_both (is_same label x.label) (is_same label y.label) (any label (labels_of a)) (any label (labels_of b)) (ap is_eq (alike_right label_cmp_total x.label y.label label e))
    by Greater e p q r = ap (λ (found : Bool). is_same label y.label || found) r ∙ or_turned (is_same label y.label) (any label (labels_of (x ∷ a))) (any label (labels_of b))

-- ---- the pairs of two stacks

same_sides : (a b c d : List Labelled) → ((label : LabelOf) → first_with a label ≡ first_with c label) → ((label : LabelOf) → first_with b label ≡ first_with d label)
    → (label : LabelOf) → sides_in a b label ≡ sides_in c d label
same_sides a b c d olds news label =
    ap (λ (found : Option ResId). sides_of found (first_with b label)) (olds label) ∙ ap (λ (found : Option ResId). sides_of (first_with c label) found) (news label)

pub pairs-merged : (old new : List LayerOf) (a b : List Labelled) → AreLabels (first_with (labelled old)) a → AreLabels (first_with (labelled new)) b → merged a b ≡ name_pairs old new
unfolding name_pairs
pairs-merged old new a b olds news =
    let same = same_sides a b (labelled old) (labelled new) olds.found news.found in
    let all = labels_of (labelled old) ++ labels_of (labelled new) in
    let these : labels (merged a b) ≡ rising all =
    put_is label_cmp_total label_cmp_exact (labels (merged a b)) all (rises a b olds.rising news.rising)
    (λ label.
    any_merged label a b ∙ sym (list_any-append (is_same label) (labels_of a) (labels_of b))
    ∙ any_side a b label ∙ ap is_some (same label) ∙ sym (any_side (labelled old) (labelled new) label)) in
    right a b olds.rising news.rising
    ∙ ap (λ (sides_at : LabelOf → Option Sides). filter_map (λ (label : LabelOf). with_sides label (sides_at label)) (labels (merged a b))) (fun_ext same)
    ∙ ap (λ (ls : List LabelOf). filter_map (paired (labelled old) (labelled new)) ls) these
