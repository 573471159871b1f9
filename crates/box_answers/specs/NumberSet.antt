-- The numbers that a box allows at a coordinate.
use Rattle.std.specs.Prelude.{ℕ, ◌<◌, ◌≤◌, List, [], ◌∷◌, map, length, Contains}
use Rattle.std.specs.List.Sorted.{IsStrictlyIncreasing}
use Rattle.config_precedence.specs.config_record.locales.declared.locale.Locale.{Locale}
use Rattle.config_precedence.specs.config_record.locales.LocaleNumber.{locale_number}
use Rattle.box_answers.specs.declared.number_set.NumberSet.{NumberSet}
use Rattle.box_answers.specs.declared.number_set.NumberSet.TheVariants.{Range, Numbers, Locales}

-- a range, or a choice of numbers or of locales
pub data SetOf : Type 0 where
  -- all from the first to the second
  RangeOf : ℕ → ℕ → SetOf
  NumbersOf : List ℕ → SetOf
  -- locales, by the numbers of their bytes
  LocalesOf : List ℕ → SetOf

-- locales are compared by their numbers
abbrev pub locale_numbers : List Locale → List ℕ
locale_numbers locales = map locale_number locales

-- without where its list lies in memory
abbrev pub set_of : NumberSet → SetOf
set_of (Range low high) = RangeOf low high
set_of (Numbers numbers) = NumbersOf numbers.value.items
set_of (Locales locales) = LocalesOf (locale_numbers locales.value.items)

-- a number is one of the set
abbrev pub IsIn : SetOf → ℕ → Type 0
IsIn (RangeOf low high) n = (low ≤ n) × (n ≤ high)
IsIn (NumbersOf numbers) n = Contains numbers n
IsIn (LocalesOf numbers) n = Contains numbers n

-- the numbers that name it: the two ends of a range, all numbers of a choice
abbrev pub named_numbers : SetOf → List ℕ
named_numbers (RangeOf low high) = low ∷ high ∷ []
named_numbers (NumbersOf numbers) = numbers
named_numbers (LocalesOf numbers) = numbers

abbrev pub Rises : SetOf → Type 0
Rises (RangeOf low high) = low ≤ high
Rises (NumbersOf numbers) = IsStrictlyIncreasing numbers
Rises (LocalesOf numbers) = IsStrictlyIncreasing numbers

-- it is not empty, and a choice stands in rising order, each number once
pub record IsProper (set : SetOf) : Type 0 where
  pub nonempty : 0 < length (named_numbers set)
  pub rises : Rises set

pub record IsLeastIn (set : SetOf) (n : ℕ) : Type 0 where
  pub is_in : IsIn set n
  pub below : (m : ℕ) → IsIn set m → n ≤ m
