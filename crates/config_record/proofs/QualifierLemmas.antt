-- The qualifier of a coordinate.
use Rattle.std.proofs.Common.{◌≡◌, ◌≢◌, ℕ, refl}
use Rattle.config_record.specs.declared.coord.Coord.{Coord}
use Rattle.config_record.specs.declared.coord.Coord.TheVariants as coords
use Rattle.locales.specs.declared.locale.Locale.{Locale}
use Rattle.config_record.specs.Qualifiers.{number_qualifier, coordinate_qualifier}

-- it is a number everywhere but at the locale
pub coordinate_qualifier-number : (numbers : Coord → ℕ) (l : Locale) (c : Coord) → c ≢ coords.Locale → coordinate_qualifier numbers l c ≡ number_qualifier c (numbers c)
unfolding coordinate_qualifier
coordinate_qualifier-number numbers l coords.Locale other = absurd (other refl)
coordinate_qualifier-number numbers l c other = refl

pub ruleset qualifier_lemmas = (coordinate_qualifier-number)
