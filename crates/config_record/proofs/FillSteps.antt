-- How a loop fills a list with a number for each of some coordinates.
use Rattle.std.proofs.Common.{◌≡◌, ℕ, ◌+◌, ◌<◌, ◌≤◌, List, [], ◌∷◌, ◌++◌, length, take, get_or, slice_set, Result, Ok, Err, sym, ap, subst, ◌∙◌, arith}
use Rattle.std.proofs.lemmas.List.{take_all, take_more_set}
use Rattle.json_input.specs.Each.{each}
use Rattle.json_input.proofs.EachSteps.{EachAllBut, EachAllBut-none, EachAllBut-next, EachAllBut-stops, EachAllBut-end}
use Rattle.config_record.specs.declared.coord.Coord.{Coord}
use Rattle.config_record.specs.declared.fields.DeviceFault.{DeviceFault}

-- the numbers so far stand in the list, and those of the coordinates from a place on are still to come
pub record FillsAllBut (f : Coord → Result ℕ DeviceFault) (numbers : List ℕ) (place : ℕ) (coords : List Coord) : Type 0 where
  pub others : EachAllBut f (take place numbers) place coords

pub FillsAllBut-none : (f : Coord → Result ℕ DeviceFault) (numbers : List ℕ) (coords : List Coord) → FillsAllBut f numbers 0 coords
FillsAllBut-none f numbers coords = record { others = EachAllBut-none f coords }

pub FillsAllBut-next : (f : Coord → Result ℕ DeviceFault) (numbers : List ℕ) (i : ℕ) (coords : List Coord) (d : Coord) (n : ℕ)
    → FillsAllBut f numbers i coords → i < length coords → length numbers ≡ length coords → f (get_or coords i d) ≡ Ok n
    → FillsAllBut f (slice_set numbers i n) (i + 1) coords
FillsAllBut-next f numbers i coords d n before on same given =
    let front : take (i + 1) (slice_set numbers i n) ≡ take i numbers ++ n ∷ [] = take_more_set numbers i n (omega arith) in
    record {
      others =
          subst (λ (ns : List ℕ). EachAllBut f ns (i + 1) coords) (sym front)
          (EachAllBut-next f (take i numbers) i coords d n before.others on given);
    }

pub FillsAllBut-stops : (f : Coord → Result ℕ DeviceFault) (numbers : List ℕ) (i : ℕ) (coords : List Coord) (d : Coord) (e : DeviceFault)
    → FillsAllBut f numbers i coords → i < length coords → Err e ≡ f (get_or coords i d) → Err e ≡ each f coords
FillsAllBut-stops f numbers i coords d e before on given =
    sym (EachAllBut-stops f (take i numbers) i coords d e before.others on (sym given))

pub FillsAllBut-end : (f : Coord → Result ℕ DeviceFault) (numbers : List ℕ) (i : ℕ) (coords : List Coord)
    → FillsAllBut f numbers i coords → length coords ≤ i → length numbers ≡ length coords → each f coords ≡ Ok numbers
FillsAllBut-end f numbers i coords before past same =
    let wrapped : List ℕ → Result (List ℕ) DeviceFault = λ ns. Ok ns in
    EachAllBut-end f (take i numbers) i coords before.others past
    ∙ ap wrapped (take_all i numbers (omega arith))

pub ruleset fill_steps = (FillsAllBut-none, FillsAllBut-next, FillsAllBut-stops, FillsAllBut-end)
