-- Places of names, one after the other.
use Rattle.std.proofs.Common.{◌≡◌, ℕ, ◌+◌, ◌<◌, Bool, true, false, List, [], ◌∷◌, ◌++◌, ◌-◌, length, take, map, get_or, refl, sym, ap, subst, ◌∙◌, cond, arith, length-append, length-take-le, ⊎_elim}
use Rattle.std.proofs.lemmas.Bool.{cases_lt}
use Rattle.std.proofs.lemmas.List.{get_or_append_left, get_or-append_right, length-map, map_more}
use Rattle.std.proofs.lemmas.List.Elements.{Contains-push, Contains-append_left}
use Rattle.std.proofs.lemmas.Slice.Eq.{bytes_eq-Decides}
use Rattle.std.specs.List.{Contains}
use Rattle.std.specs.Str.{bytes_eq}
use Rattle.names.specs.declared.wanted.Wanted.{Wanted}
use Rattle.names.specs.declared.places.Places.{Places}
use Rattle.names.specs.Places.{places_at}
use Rattle.names.specs.Sought.{ArePlacesOf}

true_not_false : true ≡ false → ⊥
true_not_false same = cc

in-pushed : (same : Bool) (there others : List ℕ) (place : ℕ) → (same ≡ true → Contains there place) → (same ≡ false → Contains others place) → Contains (cond same there others) place
in-pushed true there others place here elsewhere = here refl
in-pushed false there others place here elsewhere = elsewhere refl

-- one place more, behind those of its name
pub ArePlacesOf-next : (old new : Places) (names : List (List ℕ)) (name : List ℕ) (count : ℕ) → length names ≡ count → ArePlacesOf old names
    → ((bytes : List ℕ) → places_at new bytes ≡ cond (bytes_eq name bytes) (places_at old name ++ count ∷ []) (places_at old bytes))
    → ArePlacesOf new (names ++ name ∷ [])
ArePlacesOf-next old new names name count many before pushed = λ place within.
    let total : length (names ++ name ∷ []) ≡ length names + 1 = length-append names (name ∷ []) in
    let step : (text : List ℕ) → get_or (names ++ name ∷ []) place [] ≡ text
    → Contains (cond (bytes_eq name text) (places_at old name ++ count ∷ []) (places_at old text)) place
    → Contains (places_at new (get_or (names ++ name ∷ []) place [])) place = λ text is found.
    subst (λ (t : List ℕ). Contains (places_at new t) place) (sym is) (subst (λ (ps : List ℕ). Contains ps place) (sym (pushed text)) found) in
    ⊎_elim
    (λ earlier.
    let text = get_or names place [] in
    let there = before place earlier in
    step text (get_or_append_left names (name ∷ []) [] place earlier)
    (in-pushed (bytes_eq name text) (places_at old name ++ count ∷ []) (places_at old text) place
    (λ same. Contains-append_left (places_at old name) (count ∷ []) place (subst (λ (t : List ℕ). Contains (places_at old t) place) (sym ((bytes_eq-Decides name text).0 same)) there))
    (λ other. there)))
    (λ last.
    let at_end : place ≡ count = omega (arith, last, within, total, many) in
    step name (get_or-append_right names (name ∷ []) (length names) place [] refl last ∙ ap (λ (k : ℕ). get_or (name ∷ []) k []) (let zero_left : place - length names ≡ 0 = omega (arith, at_end, many) in zero_left))
    (in-pushed (bytes_eq name name) (places_at old name ++ count ∷ []) (places_at old name) place
    (λ same. subst (λ (k : ℕ). Contains (places_at old name ++ k ∷ []) place) at_end (Contains-push (places_at old name) place))
    (λ other. absurd (true_not_false (sym ((bytes_eq-Decides name name).1 refl) ∙ other)))))
    (cases_lt place (length names))

-- the same for the names that a loop has passed
pub ArePlacesOf-pushed : (old new : Places) (names : List Wanted) (count : ℕ) (d : Wanted) (entry : List ℕ) → count < length names → entry ≡ (get_or names count d).name.entry_name.now
    → ArePlacesOf old (map (λ name. name.name.entry_name.now) (take count names))
    → ((bytes : List ℕ) → places_at new bytes ≡ cond (bytes_eq entry bytes) (places_at old entry ++ count ∷ []) (places_at old bytes))
    → ArePlacesOf new (map (λ name. name.name.entry_name.now) (take (count + 1) names))
ArePlacesOf-pushed old new names count d entry within is before pushed =
    let f : Wanted → List ℕ = λ name. name.name.entry_name.now in
    let many : length (map f (take count names)) ≡ count = length-map (take count names) f ∙ length-take-le count names (omega (arith, within)) in
    subst (λ (texts : List (List ℕ)). ArePlacesOf new texts) (ap (λ (t : List ℕ). map f (take count names) ++ t ∷ []) is ∙ sym (map_more f names count d within))
    (ArePlacesOf-next old new (map f (take count names)) entry count many before pushed)
