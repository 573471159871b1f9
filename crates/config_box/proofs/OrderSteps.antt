-- Orders of lists, item by item.
use Rattle.std.proofs.Common.{◌≡◌, ◌≢◌, ℕ, ◌+◌, ◌-◌, ◌<◌, ◌≤◌, List, [], ◌∷◌, length, get_or, take, drop, arith, refl, sym, ap, ◌∙◌}
use Rattle.std.specs.declared.cmp.Ordering.{Ordering}
use Rattle.std.specs.declared.cmp.Ordering.TheVariants.{Less, Equal, Greater}
use Rattle.std.specs.Ordering.{ordering_then}
use Rattle.std.specs.Cmp.Lexicographic.{slice_cmp}
use Rattle.std.proofs.lemmas.List.{drop_more, drop_all, take-map, drop-map, take_rest, length-map}
use Rattle.box_answers.specs.config_record.declared.coord.Coord.{Coord}
use Rattle.box_answers.specs.config_record.Coord.{place_of}
use Rattle.box_answers.specs.declared.number_set.NumberSet.{NumberSet}
use Rattle.box_answers.specs.NumberSet.{SetOf, RangeOf, set_of}
use Rattle.box_answers.specs.Members.{sets_of, set_at}
use Rattle.config_box.specs.Order.{set_order, order_but}
use Rattle.config_box.proofs.JoinSteps.{at_place, set-read}

pub then-decided : (o p : Ordering) → o ≢ Equal → ordering_then o p ≡ o
then-decided Less p ne = refl
then-decided Equal p ne = absurd (ne refl)
then-decided Greater p ne = refl

pub then-alike : (o p : Ordering) → o ≡ Equal → ordering_then o p ≡ p
then-alike o p e = ap (λ (q : Ordering). ordering_then q p) e

-- the items at a place, and then those behind it
cmp-more : {A : Type 0} (R : A → A → Ordering) (xs ys : List A) (i : ℕ) (d : A) → i < length xs → i < length ys
    → slice_cmp R (drop i xs) (drop i ys) ≡ ordering_then (R (get_or xs i d) (get_or ys i d)) (slice_cmp R (drop (i + 1) xs) (drop (i + 1) ys))
cmp-more {A} R xs ys i d on in_ys =
    ap (λ (l : List A). slice_cmp R l (drop i ys)) (drop_more xs i d on)
    ∙ ap (λ (l : List A). slice_cmp R (get_or xs i d ∷ drop (i + 1) xs) l) (drop_more ys i d in_ys)

pub cmp-decided : {A : Type 0} (R : A → A → Ordering) (xs ys : List A) (i : ℕ) (d : A) (r : Ordering) → i < length xs → i < length ys
    → r ≡ R (get_or xs i d) (get_or ys i d) → r ≢ Equal → r ≡ slice_cmp R (drop i xs) (drop i ys)
cmp-decided R xs ys i d r on in_ys is ne =
    let rest = slice_cmp R (drop (i + 1) xs) (drop (i + 1) ys) in
    sym (cmp-more R xs ys i d on in_ys ∙ ap (λ (o : Ordering). ordering_then o rest) (sym is) ∙ then-decided r rest ne)

pub cmp-alike : {A : Type 0} (R : A → A → Ordering) (xs ys : List A) (i : ℕ) (d : A) → i < length xs → i < length ys → R (get_or xs i d) (get_or ys i d) ≡ Equal
    → slice_cmp R (drop (i + 1) xs) (drop (i + 1) ys) ≡ slice_cmp R (drop i xs) (drop i ys)
cmp-alike R xs ys i d on in_ys e =
    sym (cmp-more R xs ys i d on in_ys ∙ then-alike (R (get_or xs i d) (get_or ys i d)) (slice_cmp R (drop (i + 1) xs) (drop (i + 1) ys)) e)

-- where one list ends
pub cmp-longer : {A : Type 0} (R : A → A → Ordering) (xs ys : List A) (i : ℕ) (d : A) → i < length xs → length ys ≤ i → slice_cmp R (drop i xs) (drop i ys) ≡ Greater
cmp-longer {A} R xs ys i d on past =
    ap (λ (l : List A). slice_cmp R l (drop i ys)) (drop_more xs i d on) ∙ ap (λ (l : List A). slice_cmp R (get_or xs i d ∷ drop (i + 1) xs) l) (drop_all i ys past)

pub cmp-shorter : {A : Type 0} (R : A → A → Ordering) (xs ys : List A) (i : ℕ) (d : A) → length xs ≤ i → i < length ys → slice_cmp R (drop i xs) (drop i ys) ≡ Less
cmp-shorter {A} R xs ys i d past on =
    ap (λ (l : List A). slice_cmp R l (drop i ys)) (drop_all i xs past) ∙ ap (λ (l : List A). slice_cmp R [] l) (drop_more ys i d on)

pub cmp-ends : {A : Type 0} (R : A → A → Ordering) (xs ys : List A) (i : ℕ) → length xs ≤ i → length ys ≤ i → slice_cmp R (drop i xs) (drop i ys) ≡ Equal
cmp-ends {A} R xs ys i past both = ap (λ (l : List A). slice_cmp R l (drop i ys)) (drop_all i xs past) ∙ ap (λ (l : List A). slice_cmp R [] l) (drop_all i ys both)

-- ---- of boxes

-- the sets at a place
sets-order : (sets others : List NumberSet) (i : ℕ) (s t : NumberSet) (r : Ordering) → i < length sets → i < length others → s ≡ get_or sets i s → t ≡ get_or others i t → r ≡ set_order (set_of s) (set_of t)
    → r ≡ set_order (at_place (sets_of sets) i) (at_place (sets_of others) i)
sets-order sets others i s t r on in_others first second is =
    is
    ∙ ap (λ (u : SetOf). set_order u (set_of t)) (set-read sets i s on first)
    ∙ ap (λ (u : SetOf). set_order (at_place (sets_of sets) i) u) (set-read others i t in_others second)

pub sets-decided : (sets others : List NumberSet) (i : ℕ) (s t : NumberSet) (r : Ordering) → i < length sets → i < length others → s ≡ get_or sets i s → t ≡ get_or others i t → r ≡ set_order (set_of s) (set_of t)
    → r ≢ Equal → r ≡ slice_cmp set_order (drop i (sets_of sets)) (drop i (sets_of others))
sets-decided sets others i s t r on in_others first second is ne =
    let long = length-map sets set_of in
    let other_long = length-map others set_of in
    cmp-decided set_order (sets_of sets) (sets_of others) i (RangeOf 0 0) r (omega arith) (omega arith) (sets-order sets others i s t r on in_others first second is) ne

pub sets-alike : (sets others : List NumberSet) (i : ℕ) (s t : NumberSet) (r : Ordering) → i < length sets → i < length others → s ≡ get_or sets i s → t ≡ get_or others i t → r ≡ set_order (set_of s) (set_of t)
    → r ≡ Equal → slice_cmp set_order (drop (i + 1) (sets_of sets)) (drop (i + 1) (sets_of others)) ≡ slice_cmp set_order (drop i (sets_of sets)) (drop i (sets_of others))
sets-alike sets others i s t r on in_others first second is alike =
    let long = length-map sets set_of in
    let other_long = length-map others set_of in
    cmp-alike set_order (sets_of sets) (sets_of others) i (RangeOf 0 0) (omega arith) (omega arith) (sym (sets-order sets others i s t r on in_others first second is) ∙ alike)

pub before-order : (sets others : List NumberSet) (p q : ℕ) (r : Ordering) → r ≡ slice_cmp set_order (sets_of (take p sets)) (sets_of (take p others)) → p ≡ q
    → r ≡ slice_cmp set_order (take q (sets_of sets)) (take q (sets_of others))
before-order sets others p q r is e =
    is
    ∙ ap (λ (l : List SetOf). slice_cmp set_order l (sets_of (take p others))) (sym (take-map set_of p sets))
    ∙ ap (λ (l : List SetOf). slice_cmp set_order (take p (sets_of sets)) l) (sym (take-map set_of p others))
    ∙ ap (λ (i : ℕ). slice_cmp set_order (take i (sets_of sets)) (take i (sets_of others))) e

behind : (sets : List NumberSet) (n : ℕ) → sets_of (take (length sets - n) (drop n sets)) ≡ drop n (sets_of sets)
behind sets n = ap sets_of (take_rest sets n) ∙ sym (drop-map set_of n sets)

pub behind-order : (sets others : List NumberSet) (p q : ℕ) (r : Ordering)
    → r ≡ slice_cmp set_order (sets_of (take (length sets - (p + 1)) (drop (p + 1) sets))) (sets_of (take (length others - (p + 1)) (drop (p + 1) others))) → p ≡ q
    → r ≡ slice_cmp set_order (drop (q + 1) (sets_of sets)) (drop (q + 1) (sets_of others))
behind-order sets others p q r is e =
    is
    ∙ ap (λ (l : List SetOf). slice_cmp set_order l (sets_of (take (length others - (p + 1)) (drop (p + 1) others)))) (behind sets (p + 1))
    ∙ ap (λ (l : List SetOf). slice_cmp set_order (drop (p + 1) (sets_of sets)) l) (behind others (p + 1))
    ∙ ap (λ (i : ℕ). slice_cmp set_order (drop (i + 1) (sets_of sets)) (drop (i + 1) (sets_of others))) e

pub but-before : (c : Coord) (a b : List SetOf) (r : Ordering) → r ≡ slice_cmp set_order (take (place_of c) a) (take (place_of c) b) → r ≢ Equal → r ≡ order_but c a b
but-before c a b r is ne =
    let rest = ordering_then (slice_cmp set_order (drop (place_of c + 1) a) (drop (place_of c + 1) b)) (set_order (set_at a c) (set_at b c)) in
    sym (ap (λ (o : Ordering). ordering_then o rest) (sym is) ∙ then-decided r rest ne)

pub but-behind : (c : Coord) (a b : List SetOf) (o r : Ordering) → o ≡ slice_cmp set_order (take (place_of c) a) (take (place_of c) b) → o ≡ Equal
    → r ≡ ordering_then (slice_cmp set_order (drop (place_of c + 1) a) (drop (place_of c + 1) b)) (set_order (set_at a c) (set_at b c)) → r ≡ order_but c a b
but-behind c a b o r first alike is =
    let rest = ordering_then (slice_cmp set_order (drop (place_of c + 1) a) (drop (place_of c + 1) b)) (set_order (set_at a c) (set_at b c)) in
    is ∙ sym (then-alike (slice_cmp set_order (take (place_of c) a) (take (place_of c) b)) rest (sym first ∙ alike))
