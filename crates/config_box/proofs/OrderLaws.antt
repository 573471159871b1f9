-- The order of boxes is one, and of ranges it is that of their low ends.
use Rattle.std.proofs.Common.{◌≡◌, ◌≢◌, ℕ, ◌+◌, ◌<◌, ◌≤◌, arith, List, length, get_or, take, drop, Bool, true, false, nat_lt, true≢false, refl, sym, ap, subst, ◌∙◌}
use Rattle.std.specs.declared.cmp.Ordering.{Ordering}
use Rattle.std.specs.declared.cmp.Ordering.TheVariants.{Less, Equal}
use Rattle.std.specs.Ordering.{ordering_then, is_lt, nat_cmp}
use Rattle.std.specs.Cmp.{IsTotalOrder, IsStrictWeakOrder}
use Rattle.std.specs.Cmp.Lexicographic.{slice_cmp}
use Rattle.std.proofs.lemmas.Bool.Decides.{nat_tests}
use Rattle.std.proofs.lemmas.Cmp.{nat_cmp_total, nat_list_cmp_total, lists_total, on_total, then_total, tied_itself}
use Rattle.std.proofs.lemmas.List.{ext_get_or, get_or-take, get_or-drop, length-take, length-drop}
use Rattle.std.proofs.lemmas.List.Sorted.{ranks_by}
use Rattle.config_box.specs.config_record.declared.coord.Coord.{Coord}
use Rattle.config_box.specs.config_record.Coord.{place_of}
use Rattle.config_box.proofs.box_answers.Coords.{place_of-below}
use Rattle.config_box.specs.box_answers.NumberSet.{SetOf, RangeOf, NumbersOf, LocalesOf, named_numbers}
use Rattle.config_box.specs.box_answers.Members.{set_at}
use Rattle.config_box.specs.Order.{kind_place, set_order, order_but}
use Rattle.config_box.proofs.JoinSteps.{at_place, coord-at}
use Rattle.config_box.specs.Least.{IsRange}

-- ---- it is an order

set_total : IsTotalOrder set_order
set_total = then_total (on_total kind_place nat_cmp_total) (on_total named_numbers nat_list_cmp_total)

box_total : (c : Coord) → IsTotalOrder (order_but c)
box_total c =
    then_total (on_total (take (place_of c)) (lists_total set_total))
    (then_total (on_total (drop (place_of c + 1)) (lists_total set_total)) (on_total (λ b. set_at b c) set_total))

pub boxes_ranked : (c : Coord) → IsStrictWeakOrder (λ a b. is_lt (order_but c a b))
boxes_ranked c = ranks_by (box_total c) (λ b. b)

-- ---- boxes that are alike but at a coordinate are ordered by their sets there

alike-place : (a b : List SetOf) (c : Coord) (p : ℕ) → ((k : Coord) → k ≢ c → set_at a k ≡ set_at b k) → p < 25 → place_of c ≢ p → at_place a p ≡ at_place b p
alike-place a b c p alike q other =
    let there = coord-at p q in
    subst (λ (i : ℕ). at_place a i ≡ at_place b i) there.1 (alike there.0 (λ e. other (ap place_of (sym e) ∙ there.1)))

alike-before : (a b : List SetOf) (c : Coord) → length a ≡ 25 → length b ≡ 25 → ((k : Coord) → k ≢ c → set_at a k ≡ set_at b k) → take (place_of c) a ≡ take (place_of c) b
alike-before a b c first second alike =
    let below = place_of-below c in
    let long = length-take (place_of c) a in
    let other_long = length-take (place_of c) b in
    ext_get_or (RangeOf 0 0) (take (place_of c) a) (take (place_of c) b) (omega arith)
    (λ i q.
    let on : i < place_of c = omega arith in
    get_or-take (place_of c) a i (RangeOf 0 0) on ∙ alike-place a b c i alike (omega arith) (λ e. absurd (omega arith)) ∙ sym (get_or-take (place_of c) b i (RangeOf 0 0) on))

alike-behind : (a b : List SetOf) (c : Coord) → length a ≡ 25 → length b ≡ 25 → ((k : Coord) → k ≢ c → set_at a k ≡ set_at b k) → drop (place_of c + 1) a ≡ drop (place_of c + 1) b
alike-behind a b c first second alike =
    let below = place_of-below c in
    let long = length-drop (place_of c + 1) a in
    let other_long = length-drop (place_of c + 1) b in
    ext_get_or (RangeOf 0 0) (drop (place_of c + 1) a) (drop (place_of c + 1) b) (omega arith)
    (λ i q.
    get_or-drop (place_of c + 1) a i (RangeOf 0 0)
    ∙ alike-place a b c (place_of c + 1 + i) alike (omega arith) (λ e. absurd (omega arith))
    ∙ sym (get_or-drop (place_of c + 1) b i (RangeOf 0 0)))

pub alike-order : (a b : List SetOf) (c : Coord) → length a ≡ 25 → length b ≡ 25 → ((k : Coord) → k ≢ c → set_at a k ≡ set_at b k) → order_but c a b ≡ set_order (set_at a c) (set_at b c)
alike-order a b c first second alike =
    let here = set_order (set_at a c) (set_at b c) in
    let rest = slice_cmp set_order (drop (place_of c + 1) a) (drop (place_of c + 1) b) in
    let before : slice_cmp set_order (take (place_of c) a) (take (place_of c) b) ≡ Equal =
    ap (λ (l : List SetOf). slice_cmp set_order (take (place_of c) a) l) (sym (alike-before a b c first second alike)) ∙ tied_itself (lists_total set_total) (take (place_of c) a) in
    let behind : rest ≡ Equal =
    ap (λ (l : List SetOf). slice_cmp set_order (drop (place_of c + 1) a) l) (sym (alike-behind a b c first second alike)) ∙ tied_itself (lists_total set_total) (drop (place_of c + 1) a) in
    ap (λ (o : Ordering). ordering_then o (ordering_then rest here)) before ∙ ap (λ (o : Ordering). ordering_then o here) behind

-- ---- ranges

by_less : {P : Type 0} (m n : ℕ) → (nat_lt m n ≡ true → P) → (n ≤ m → P) → P
by_less {P} m n less not_less = cases (nat_lt m n) refl
  where
    cases : (t : Bool) → nat_lt m n ≡ t → P
    cases true e = less e
    cases false e = not_less (grind (arith, nat_tests))

is-less : (m n : ℕ) → nat_lt m n ≡ true → nat_cmp m n ≡ Less
is-less m n e = rw e refl

less-first : (o p : Ordering) → o ≡ Less → ordering_then o p ≡ Less
less-first o p e = ap (λ (q : Ordering). ordering_then q p) e

-- where the second does not stand before the first, its low end is no smaller
pub low-order : (s t : SetOf) → IsRange s → IsRange t → is_lt (set_order t s) ≡ false → get_or (named_numbers s) 0 0 ≤ get_or (named_numbers t) 0 0
low-order (RangeOf low high) (RangeOf from to) up other_up not_less =
    by_less from low
    (λ less. absurd (true≢false (
    sym (ap is_lt (less-first (nat_cmp from low) (ordering_then (nat_cmp to high) Equal) (is-less from low less))) ∙ not_less
    )))
    (λ le. le)
low-order (RangeOf low high) (NumbersOf numbers) up other_up not_less = absurd other_up
low-order (RangeOf low high) (LocalesOf numbers) up other_up not_less = absurd other_up
low-order (NumbersOf numbers) t up other_up not_less = absurd up
low-order (LocalesOf numbers) t up other_up not_less = absurd up
