-- How a loop writes a text for each pair, of something seen by a view and what is told of it.
use Rattle.std.proofs.Common.{◌≡◌, ◌⊎◌, inl, inr, ℕ, ◌+◌, ◌<◌, ◌≤◌, false, ltb, List, [], ◌∷◌, Option, refl, sym, ap, ◌∙◌, map, drop, length, get_or}
use Rattle.std.specs.List.{flat_map, zip}
use Rattle.std.proofs.lemmas.Bool.{ltb-false}
use Rattle.std.proofs.lemmas.List.{drop_more, drop_all}
use Rattle.std.specs.Io.KnownBytes.{Appends}
use Rattle.contract_words.proofs.TextSteps.{PutsAllBut, PutsAllBut-next, PutsAllBut-done}
use Rattle.resource_tool.specs.declared.told.Told.{Told}
use Rattle.resource_tool.specs.Judged.{told_of}
use Rattle.resource_tool.specs.Telling.{ToldOf}

abbrev pub both_lists : {X A : Type 0} → (X → A) → List X → List Told → List (A × ToldOf)
both_lists seen xs told = zip (map seen xs) (map told_of told)

pair-next : {X A : Type 0} (seen : X → A) (text : A × ToldOf → List ℕ) (old mid new : Option (List ℕ)) (all : List (A × ToldOf)) (xs other_xs : List X) (told other_told : List Told)
    (x : X) (one : Told) → PutsAllBut text old mid all (both_lists seen xs told) → xs ≡ x ∷ other_xs → told ≡ one ∷ other_told
    → Appends mid new (text (seen x, told_of one)) → PutsAllBut text old new all (both_lists seen other_xs other_told)
pair-next seen text old mid new all xs other_xs told other_told x one puts first second put =
    PutsAllBut-next text old mid new all (both_lists seen xs told) (both_lists seen other_xs other_told) (seen x, told_of one) puts (rw (first, second) refl) put

zip-none : {A B : Type 0} (xs : List A) → zip {K = A} {X = B} xs [] ≡ []
zip-none [] = refl
zip-none (x ∷ xs) = refl

none_left : {X A : Type 0} (seen : X → A) (xs : List X) (told : List Told) → (xs ≡ []) ⊎ (told ≡ []) → both_lists seen xs told ≡ []
none_left seen xs told (inl none) = rw none refl
none_left seen xs told (inr none) = rw none (zip-none (map seen xs))

pairs-end : {X A : Type 0} (seen : X → A) (text : A × ToldOf → List ℕ) (old mid : Option (List ℕ)) (xs left_xs : List X) (told left_told : List Told)
    → PutsAllBut text old mid (both_lists seen xs told) (both_lists seen left_xs left_told) → (left_xs ≡ []) ⊎ (left_told ≡ [])
    → Appends old mid (flat_map text (both_lists seen xs told))
pairs-end seen text old mid xs left_xs told left_told puts ended =
    PutsAllBut-done text old mid (both_lists seen xs told) (both_lists seen left_xs left_told) puts (none_left seen left_xs left_told ended)

-- ---- by the place in both lists

split_at : {X : Type 0} (xs : List X) (place : ℕ) (x : X) → place < length xs → x ≡ get_or xs place x → drop place xs ≡ x ∷ drop (place + 1) xs
split_at {X} xs place x on here = drop_more xs place x on ∙ ap (λ (y : X). y ∷ drop (place + 1) xs) (sym here)

abbrev pub both_from : {X A : Type 0} → (X → A) → List X → List Told → ℕ → List (A × ToldOf)
both_from seen xs told place = both_lists seen (drop place xs) (drop place told)

pub pair-next_at : {X A : Type 0} (seen : X → A) (text : A × ToldOf → List ℕ) (old mid new : Option (List ℕ)) (xs : List X) (told : List Told) (place : ℕ) (x : X) (one : Told)
    → PutsAllBut text old mid (both_lists seen xs told) (both_from seen xs told place) → place < length xs → x ≡ get_or xs place x → place < length told → one ≡ get_or told place one
    → Appends mid new (text (seen x, told_of one)) → PutsAllBut text old new (both_lists seen xs told) (both_from seen xs told (place + 1))
pair-next_at seen text old mid new xs told place x one puts on here within there put =
    pair-next seen text old mid new (both_lists seen xs told) (drop place xs) (drop (place + 1) xs) (drop place told) (drop (place + 1) told) x one puts
    (split_at xs place x on here) (split_at told place one within there) put

-- one of them ends
pub pairs-end_at : {X A : Type 0} (seen : X → A) (text : A × ToldOf → List ℕ) (old mid : Option (List ℕ)) (xs : List X) (told : List Told) (place : ℕ)
    → PutsAllBut text old mid (both_lists seen xs told) (both_from seen xs told place) → length xs ≤ place → Appends old mid (flat_map text (both_lists seen xs told))
pairs-end_at seen text old mid xs told place puts past = pairs-end seen text old mid xs (drop place xs) told (drop place told) puts (inl (drop_all place xs past))

pub told-end_at : {X A : Type 0} (seen : X → A) (text : A × ToldOf → List ℕ) (old mid : Option (List ℕ)) (xs : List X) (told : List Told) (place : ℕ)
    → PutsAllBut text old mid (both_lists seen xs told) (both_from seen xs told place) → false ≡ ltb place (length told) → Appends old mid (flat_map text (both_lists seen xs told))
told-end_at seen text old mid xs told place puts past =
    pairs-end seen text old mid xs (drop place xs) told (drop place told) puts (inr (drop_all place told (ltb-false place (length told) (sym past))))
