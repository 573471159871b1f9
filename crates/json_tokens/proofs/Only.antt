-- Which of the names that are looked for an object has, and no others.
use Rattle.std.proofs.Common.{◌≡◌, ℕ, List, [], ◌∷◌, Bool, true, false, ◌&&◌, ◌||◌, not, bytes_eq, Option, Some, is_some, Ordering, Less, Equal, Greater, nat_cmp, is_eq, refl, sym, ap, ◌∙◌}
use Rattle.std.proofs.lemmas.Bool.{false≢true, and_parts}
use Rattle.std.proofs.lemmas.Map.Text.{is_eq-slice_cmp}
use Rattle.std.proofs.lemmas.Slice.Eq.{bytes_eq-Decides}
use Rattle.std.specs.Cmp.Lexicographic.{slice_cmp}
use Rattle.std.specs.List.{list_all}
use Rattle.std.specs.Ordering.{match_ordering}
use Rattle.serde_json.specs.Data.{Data, Members, no_members, member}
use Rattle.serde_json.specs.Find.{get_member}
use Rattle.json_tokens.specs.json_input.Shape.{is_among, are_among}

both : (a b : Bool) → a ≡ true → b ≡ true → (a && b) ≡ true
both true b e f = f
both false b e f = absurd (false≢true e)

iff : (a b : Bool) → (a ≡ true → b ≡ true) → (b ≡ true → a ≡ true) → a ≡ b
iff true b f g = sym (f refl)
iff false true f g = g refl
iff false false f g = refl

one_of : (a b : Bool) → (a || b) ≡ true → (a ≡ false) → b ≡ true
one_of true b e f = absurd (false≢true (sym f))
one_of false b e f = e

pub weaker : (some all : List (List ℕ)) (ms : Members) → ((n : List ℕ) → is_among some n ≡ true → is_among all n ≡ true) → are_among some ms ≡ true → are_among all ms ≡ true
unfolding are_among
weaker some all no_members more e = refl
weaker some all (member l d ms) more e =
    let parts = and_parts (is_among some l) (are_among some ms) e in
    both (is_among all l) (are_among all ms) (more l parts.0) (weaker some all ms more parts.1)

-- a member that is there has one of the names
present : (some : List (List ℕ)) (n : List ℕ) (ms : Members) → are_among some ms ≡ true → is_some (get_member n ms) ≡ true → is_among some n ≡ true
unfolding are_among
present some n no_members e there = absurd (false≢true there)
present some n (member l d ms) e there = at (slice_cmp nat_cmp n l) refl there (λ later. present some n ms (and_parts (is_among some l) (are_among some ms) e).1 later)
  where
    at : (o : Ordering) → slice_cmp nat_cmp n l ≡ o → is_some (match_ordering o (get_member n ms) (Some d) (get_member n ms)) ≡ true → (is_some (get_member n ms) ≡ true → is_among some n ≡ true) → is_among some n ≡ true
    at Less is there later = later there
    at Greater is there later = later there
    at Equal is there later =
        let same : n ≡ l = (bytes_eq-Decides n l).0 (sym (is_eq-slice_cmp n l) ∙ ap is_eq is) in
        ap (is_among some) same ∙ (and_parts (is_among some l) (are_among some ms) e).0

still : (o : Ordering) (d : Data) (r : Option Data) → is_some r ≡ true → is_some (match_ordering o r (Some d) r) ≡ true
still Less d r e = e
still Equal d r e = refl
still Greater d r e = e

here : (l : List ℕ) (d : Data) (ms : Members) → is_some (get_member l (member l d ms)) ≡ true
here l d ms = found (slice_cmp nat_cmp l l) (is_eq-slice_cmp l l ∙ (bytes_eq-Decides l l).1 refl)
  where
    found : (o : Ordering) → is_eq o ≡ true → is_some (match_ordering o (get_member l ms) (Some d) (get_member l ms)) ≡ true
    found Less e = absurd (false≢true e)
    found Equal e = refl
    found Greater e = absurd (false≢true e)

-- of the names that are there each is one of these
narrower : (some all : List (List ℕ)) (ms : Members) → are_among all ms ≡ true → ((n : List ℕ) → is_among all n ≡ true → is_some (get_member n ms) ≡ true → is_among some n ≡ true) → are_among some ms ≡ true
unfolding are_among
narrower some all no_members e less = refl
narrower some all (member l d ms) e less =
    let parts = and_parts (is_among all l) (are_among all ms) e in
    both (is_among some l) (are_among some ms) (less l parts.0 (here l d ms))
    (narrower some all ms parts.1 (λ n named there. less n named (still (slice_cmp nat_cmp n l) d (get_member n ms) there)))

-- a name that is one of these, or that no member has
abbrev pub is_fine : List (List ℕ) → Members → List ℕ → Bool
is_fine some ms n = is_among some n || not (is_some (get_member n ms))

fine : (a b : Bool) → (b ≡ true → a ≡ true) → (a || not b) ≡ true
fine true b f = refl
fine false true f = absurd (false≢true (f refl))
fine false false f = refl

not_fine : (a b : Bool) → (a || not b) ≡ true → b ≡ true → a ≡ true
not_fine true b e f = refl
not_fine false true e f = absurd (false≢true e)
not_fine false false e f = absurd (false≢true f)

all_fine : (some all : List (List ℕ)) (ms : Members) → are_among some ms ≡ true → list_all (is_fine some ms) all ≡ true
all_fine some [] ms e = refl
all_fine some (n ∷ all) ms e = both (is_fine some ms n) (list_all (is_fine some ms) all) (fine (is_among some n) (is_some (get_member n ms)) (present some n ms e)) (all_fine some all ms e)

each_fine : (some all : List (List ℕ)) (ms : Members) → list_all (is_fine some ms) all ≡ true → (n : List ℕ) → is_among all n ≡ true → is_fine some ms n ≡ true
unfolding is_among
each_fine some [] ms e n named = absurd (false≢true named)
each_fine some (known ∷ all) ms e n named =
    let parts = and_parts (is_fine some ms known) (list_all (is_fine some ms) all) e in
    at (bytes_eq known n) refl parts.0 (λ later. each_fine some all ms parts.1 n later)
  where
    at : (b : Bool) → bytes_eq known n ≡ b → is_fine some ms known ≡ true → (is_among all n ≡ true → is_fine some ms n ≡ true) → is_fine some ms n ≡ true
    at true is first later = ap (is_fine some ms) (sym ((bytes_eq-Decides known n).0 is)) ∙ first
    at false is first later = later (one_of (bytes_eq known n) (is_among all n) named is)

-- An object that has none but all these names has only some of them where it has none of the others.
pub only-where : (some all : List (List ℕ)) (ms : Members) → are_among all ms ≡ true → are_among some ms ≡ list_all (is_fine some ms) all
only-where some all ms e =
    iff (are_among some ms) (list_all (is_fine some ms) all) (all_fine some all ms)
    (λ fine. narrower some all ms e (λ n named there. not_fine (is_among some n) (is_some (get_member n ms)) (each_fine some all ms fine n named) there))

-- names that are all among others
pub among-more : (some all : List (List ℕ)) → list_all (is_among all) some ≡ true → (n : List ℕ) → is_among some n ≡ true → is_among all n ≡ true
unfolding is_among
among-more [] all e n named = absurd (false≢true named)
among-more (known ∷ some) all e n named =
    let parts = and_parts (is_among all known) (list_all (is_among all) some) e in
    at (bytes_eq known n) refl parts.0 (λ later. among-more some all parts.1 n later)
  where
    at : (b : Bool) → bytes_eq known n ≡ b → is_among all known ≡ true → (is_among some n ≡ true → is_among all n ≡ true) → is_among all n ≡ true
    at true is first later = ap (is_among all) (sym ((bytes_eq-Decides known n).0 is)) ∙ first
    at false is first later = later (one_of (bytes_eq known n) (is_among some n) named is)

-- an object that has others than all these names has others than some of them
pub only-not : (some all : List (List ℕ)) (ms : Members) → list_all (is_among all) some ≡ true → are_among all ms ≡ false → are_among some ms ≡ false
only-not some all ms e other = at (are_among some ms) refl
  where
    at : (b : Bool) → are_among some ms ≡ b → b ≡ false
    at false is = refl
    at true is = absurd (false≢true (sym other ∙ weaker some all ms (among-more some all e) is))
