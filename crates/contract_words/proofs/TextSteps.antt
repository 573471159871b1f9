-- How a loop writes a text for each item.
use Rattle.std.proofs.Common.{◌≡◌, ℕ, ◌+◌, ◌<◌, List, [], ◌∷◌, ◌++◌, Option, refl, sym, ap, subst, ◌∙◌, append_assoc, length, drop, map, get_or}
use Rattle.std.specs.List.{flat_map}
use Rattle.std.specs.Io.KnownBytes.{Appends}
use Rattle.std.proofs.KnownBytes.{Appends-nil, Appends-trans}
use Rattle.std.proofs.lemmas.List.{append-nil, drop_more}

-- of all items the texts were written, but for those of what is left
pub record PutsAllBut {A : Type 0} (text : A → List ℕ) (old new : Option (List ℕ)) (all left : List A) : Type 0 where
  pub so_far : List ℕ
  pub written : Appends old new so_far
  pub others : so_far ++ flat_map text left ≡ flat_map text all

pub PutsAllBut-none : {A : Type 0} (text : A → List ℕ) (old : Option (List ℕ)) (all : List A) → PutsAllBut text old old all all
PutsAllBut-none text old all = record { so_far = []; written = Appends-nil old; others = refl }

pub PutsAllBut-next : {A : Type 0} (text : A → List ℕ) (old mid new : Option (List ℕ)) (all left others : List A) (x : A) → PutsAllBut text old mid all left
    → left ≡ x ∷ others → Appends mid new (text x) → PutsAllBut text old new all others
PutsAllBut-next {A} text old mid new all left others x before split put = record {
  so_far = before.so_far ++ text x;
  written = Appends-trans old mid new before.so_far (text x) before.written put;
  others = append_assoc before.so_far (text x) (flat_map text others) ∙ ap (λ (xs : List A). before.so_far ++ flat_map text xs) (sym split) ∙ before.others;
}

pub PutsAllBut-done : {A : Type 0} (text : A → List ℕ) (old mid : Option (List ℕ)) (all left : List A) → PutsAllBut text old mid all left
    → left ≡ [] → Appends old mid (flat_map text all)
PutsAllBut-done {A} text old mid all left before nothing =
    let whole : before.so_far ≡ flat_map text all = sym (append-nil before.so_far) ∙ ap (λ (xs : List A). before.so_far ++ flat_map text xs) (sym nothing) ∙ before.others in
    subst (λ (t : List ℕ). Appends old mid t) whole before.written

pub PutsAllBut-end : {A : Type 0} (text : A → List ℕ) (old mid new : Option (List ℕ)) (all left : List A) (tail : List ℕ) → PutsAllBut text old mid all left
    → left ≡ [] → Appends mid new tail → Appends old new (flat_map text all ++ tail)
PutsAllBut-end text old mid new all left tail before nothing put =
    Appends-trans old mid new (flat_map text all) tail (PutsAllBut-done text old mid all left before nothing) put

pub ruleset puts = (PutsAllBut-none, PutsAllBut-next, PutsAllBut-end)

-- ---- the same over a slice, whose items are seen by a view

pub PutsAllBut-next_at : {X A : Type 0} (view : X → A) (text : A → List ℕ) (old mid new : Option (List ℕ)) (all : List A) (xs : List X) (i : ℕ) (x : X)
    → PutsAllBut text old mid all (map view (drop i xs)) → i < length xs → x ≡ get_or xs i x → Appends mid new (text (view x))
    → PutsAllBut text old new all (map view (drop (i + 1) xs))
PutsAllBut-next_at {X} {A} view text old mid new all xs i x before on here put =
    let split : drop i xs ≡ x ∷ drop (i + 1) xs = drop_more xs i x on ∙ ap (λ (y : X). y ∷ drop (i + 1) xs) (sym here) in
    PutsAllBut-next text old mid new all (map view (drop i xs)) (map view (drop (i + 1) xs)) (view x) before
    (ap (λ (t : List X). map view t) split) put

pub ruleset puts_slice = (PutsAllBut-none, PutsAllBut-next_at, PutsAllBut-done)
