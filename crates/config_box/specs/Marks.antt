-- How a box keeps the numbers of a coordinate.
use Rattle.box_answers.specs.NumberSet.{SetOf, RangeOf, NumbersOf, LocalesOf}

-- both are ranges, or choices of numbers, or of locales
abbrev pub AreMarkedAlike : SetOf → SetOf → Type 0
AreMarkedAlike (RangeOf a b) (RangeOf x y) = Unit {0}
AreMarkedAlike (NumbersOf a) (NumbersOf x) = Unit {0}
AreMarkedAlike (LocalesOf a) (LocalesOf x) = Unit {0}
AreMarkedAlike set other = ⊥
