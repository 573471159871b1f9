-- Parts that are a number with letters around it, which tell its coordinate.
use Rattle.std.specs.Prelude.{ℕ, ◌==◌, List, [], ◌∷◌, codes, Option, Some, None, if◌then◌else◌}
use Rattle.std.specs.Option.{option_and_then}
use Prim.Native.String.{String}
use Rattle.config_record.specs.declared.coord.Coord.{Coord}
use Rattle.config_record.specs.declared.coord.Coord.TheVariants.{Mcc, Mnc, SmallestWidthDp, WidthDp, HeightDp, Density}
use Rattle.config_record.specs.Coord.{place_of}
use Rattle.notation.specs.declared.forms.NumberForm.{NumberForm}
use Rattle.notation.specs.declared.forms.NumberAt.{NumberAt}
use Rattle.notation.specs.Cut.{behind, before}
use Rattle.notation.specs.Numeral.{number_of}

pub record FormOf : Type 0 where
  pub front : List ℕ
  pub end : List ℕ
  pub coord : Coord

abbrev pub form_of : NumberForm → FormOf
form_of form = record { front = form.front.now; end = form.end.now; coord = form.coord }

abbrev pub form : String → String → Coord → FormOf
form front end coord = record { front = codes front; end = codes end; coord = coord }

unfoldable pub forms : List FormOf
forms =
    form "mcc" "" Mcc
    ∷ form "mnc" "" Mnc
    ∷ form "sw" "dp" SmallestWidthDp
    ∷ form "w" "dp" WidthDp
    ∷ form "h" "dp" HeightDp
    ∷ form "" "dpi" Density
    ∷ []

-- The number that a device has of the one that is written. A network code 0 is 65535 there, since a device's 0 says nothing
-- (AOSP: `ACONFIGURATION_MNC_ZERO`).
abbrev pub stored : Coord → ℕ → ℕ
stored Mnc number = if number == 0 then 65535 else number
stored coord number = number

abbrev pub digits_in : FormOf → List ℕ → Option (List ℕ)
digits_in form text = option_and_then (λ text. before form.end text) (behind form.front text)

unfoldable pub number_by : FormOf → List ℕ → Option ℕ
number_by form text = option_and_then number_of (digits_in form text)

abbrev pub numbered : Coord → ℕ → NumberAt
numbered coord number = record { coord = coord; number = stored coord number }

abbrev pub or_by_others : FormOf → Option ℕ → Option NumberAt → Option NumberAt
or_by_others form None others = others
or_by_others form (Some number) others = Some (numbered form.coord number)

-- the number of the first form that the text has
unfoldable pub numbered_by : List FormOf → List ℕ → Option NumberAt
numbered_by [] text = None
numbered_by (form ∷ others) text = or_by_others form (number_by form text) (numbered_by others text)

-- the form of numbers at a coordinate
unfoldable pub form_for : List FormOf → Coord → Option FormOf
form_for [] coord = None
form_for (form ∷ others) coord = if place_of form.coord == place_of coord then Some form else form_for others coord
