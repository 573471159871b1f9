-- The rules: their numbers, and the names that are printed.
use Rattle.std.specs.Prelude.{ℕ, List, codes}
use Rattle.cert_checker.specs.declared.rule.Rule.{Rule}
use Rattle.cert_checker.specs.declared.rule.Rule.TheVariants.{GoalList, EndsEarly, LeftOver, TestKind, EmptyHalf, MixedTrace, NoValue, OtherValue}

-- at one node the rule of the lowest number comes first
abbrev pub number_of : Rule → ℕ
number_of GoalList = 1
number_of EndsEarly = 2
number_of LeftOver = 3
number_of TestKind = 4
number_of EmptyHalf = 5
number_of MixedTrace = 6
number_of NoValue = 7
number_of OtherValue = 8

unfoldable pub name_of : Rule → List ℕ
name_of GoalList = codes "GoalList"
name_of EndsEarly = codes "EndsEarly"
name_of LeftOver = codes "LeftOver"
name_of TestKind = codes "TestKind"
name_of EmptyHalf = codes "EmptyHalf"
name_of MixedTrace = codes "MixedTrace"
name_of NoValue = codes "NoValue"
name_of OtherValue = codes "OtherValue"
