-- Coordinate after coordinate: boxes that differ at one alone stay as they are until it is looked at, and behind it.
use Rattle.std.proofs.Common.{◌≡◌, ◌≢◌, ◌<◌, arith, List, sym, ap, subst, ◌∙◌}
use Rattle.std.specs.List.{All}
use Rattle.config_box.specs.config_record.declared.coord.Coord.{Coord}
use Rattle.config_box.specs.config_record.Coord.{place_of}
use Rattle.config_box.proofs.config_record.ChangedNumber.{place_of-injective}
use Rattle.config_box.specs.box_answers.NumberSet.{SetOf}
use Rattle.config_box.specs.box_answers.Members.{set_at}
use Rattle.config_box.specs.Least.{HasOneSet, DifferAt}

pub along-before : (c at : Coord) (boxes old new : List (List SetOf)) → DifferAt c boxes → old ≡ boxes → place_of at < place_of c → (HasOneSet at old → new ≡ old) → new ≡ boxes
along-before c at boxes old new differ same lt stay =
    let ne : at ≢ c = λ e. let places = ap place_of e in absurd (omega arith) in
    stay (subst (HasOneSet at) (sym same) (differ.alike at ne)) ∙ same

-- D says how they differ, and R what is joined of them
module _ (D : Coord → List (List SetOf) → Type 0) (R : Coord → List (List SetOf) → List (List SetOf) → Type 0) where
  pub along-there : (c at : Coord) (boxes old new : List (List SetOf)) → D c boxes → old ≡ boxes → place_of c ≡ place_of at → (D at old → R at old new) → R c boxes new
  along-there c at boxes old new differ same places step =
      let e : c ≡ at = place_of-injective c at places in
      subst (λ (l : List (List SetOf)). R c l new) same
      (subst (λ (k : Coord). R k old new) (sym e) (step (subst (λ (k : Coord). D k old) e (subst (D c) (sym same) differ))))

  pub along-after : (c at : Coord) (boxes old new : List (List SetOf)) → DifferAt c boxes → R c boxes old → ((k : Coord) → k ≢ c → (set : SetOf) → All (λ b. set_at b k ≡ set) boxes → All (λ b. set_at b k ≡ set) old)
      → place_of c < place_of at → (HasOneSet at old → new ≡ old) → R c boxes new
  along-after c at boxes old new differ joined alike lt stay =
      let ne : at ≢ c = λ e. let places = ap place_of e in absurd (omega arith) in
      let one = differ.alike at ne in
      subst (R c boxes) (sym (stay (one.0, alike at ne one.0 one.1))) joined
