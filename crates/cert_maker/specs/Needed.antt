-- Trees each of whose tests separates two devices that have different traces. A trace says for each device what the rules of
-- the platform do, of one stack or of two.
use Rattle.std.specs.Prelude.{◌≡◌, ◌≢◌, ℕ, ◌<◌, true, false, List}
use Rattle.cert_checker.specs.config_record.declared.coord.Coord.{Coord}
use Rattle.cert_checker.specs.config_record.ComparedNumber.{device_number}
use Rattle.cert_checker.specs.box_answers.NumberSet.{SetOf}
use Rattle.cert_checker.specs.box_answers.Members.{set_at}
use Rattle.cert_checker.specs.box_answers.MemberAnswers.{IsOneThatAnswers}
use Rattle.cert_checker.specs.config_box.Tests.{TestOf, AtMostOf, AmongOf, coord_of, answers, is_range}
use Rattle.cert_checker.specs.cert_tree.Certificate.{NodeOf, TestAt, ValueAt, BagAt}
use Rattle.cert_checker.specs.declared.rule.Rule.{Rule}
use Rattle.cert_checker.specs.Paths.{Path, IsAt}
use Rattle.cert_checker.specs.Fails.{FailsAtTest}
use Rattle.cert_maker.specs.Walk.{HoldsOfTree}

-- two devices have the same number at each coordinate but this one
abbrev pub AgreeBut : Coord → List ℕ → List ℕ → Type 0
AgreeBut c x y = (k : Coord) → k ≢ c → device_number x k ≡ device_number y k

-- Where a test asks for numbers up to a bound, no member has a number that lies between those of the two, the first of which
-- is the lower.
abbrev pub NoneBetween : (List ℕ → Type 0) → TestOf → List ℕ → List ℕ → Type 0
NoneBetween members (AtMostOf c most) x y =
    (d : List ℕ) → members d → device_number x c < device_number d c → device_number d c < device_number y c → ⊥
NoneBetween members (AmongOf c choice) x y = Unit {0}

-- no trace stands on both sides of a test
abbrev pub PartsTraces : {X : Type 0} → (List ℕ → X) → (List ℕ → Type 0) → TestOf → Type 0
PartsTraces trace members test =
    (x y : List ℕ) → IsOneThatAnswers members (answers test) true x → IsOneThatAnswers members (answers test) false y → trace x ≢ trace y

abbrev pub VariesOnlyAt : Coord → (List ℕ → Type 0) → Type 0
VariesOnlyAt c members = (x y : List ℕ) → members x → members y → AgreeBut c x y

-- No rule fails at the test, and it separates two of the members that come to it: they differ in its coordinate alone, and
-- have different traces. Of a test for numbers up to a bound the two are neighbours: no member's number lies between theirs.
-- Where the coordinate is a choice, and is all in which members differ, no trace stands on both sides.
pub record IsNeededTest {X : Type 0} (trace : List ℕ → X) (sets : List SetOf) (members : List ℕ → Type 0) (test : TestOf) : Type 0 where
  pub passes : (rule : Rule) → FailsAtTest sets members test rule → ⊥
  pub x : List ℕ
  pub y : List ℕ
  pub yes : IsOneThatAnswers members (answers test) true x
  pub no : IsOneThatAnswers members (answers test) false y
  pub others : AgreeBut (coord_of test) x y
  pub differ : trace x ≢ trace y
  pub near : NoneBetween members test x y
  pub parts : is_range (set_at sets (coord_of test)) ≡ false → VariesOnlyAt (coord_of test) members → PartsTraces trace members test

-- nothing is said of leaves
abbrev pub IsNeededAt : {X : Type 0} → (List ℕ → X) → List SetOf → NodeOf → Path → Type 0
IsNeededAt trace sets (TestAt test) path = IsNeededTest trace sets (IsAt sets path) test
IsNeededAt trace sets (ValueAt layer value) path = Unit {0}
IsNeededAt trace sets (BagAt id) path = Unit {0}

-- one whole tree, each of whose tests is needed
abbrev pub IsNeeded : {X : Type 0} → (List ℕ → X) → List SetOf → List NodeOf → Type 0
IsNeeded trace sets nodes = HoldsOfTree (IsNeededAt trace sets) nodes
