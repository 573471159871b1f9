-- What one node does to the boxes of open paths.
use Rattle.std.proofs.Common.{◌≡◌, ◌≢◌, ℕ, ◌<◌, ◌⊎◌, inl, inr, arith, Bool, true, false, List, [], ◌∷◌, ◌++◌, reverse, Option, Some, None, sym, ◌∙◌, ap, refl, subst}
use Rattle.std.specs.Prelude.{IfNone}
use Rattle.box_trace.specs.reference_resolver.declared.end.End.TheVariants as ends
use Rattle.box_trace.specs.reference_resolver.Trace.{Trace}
use Rattle.box_trace.specs.Halving.{OpensHalves}
use Rattle.cert_tree.specs.res_value.declared.res_id.ResId.{ResId}
use Rattle.cert_tree.specs.res_value.declared.value.Value.{Value}
use Rattle.cert_tree.specs.box_answers.NumberSet.{SetOf}
use Rattle.cert_tree.specs.box_answers.Members.{IsMember}
use Rattle.cert_tree.specs.box_answers.MemberAnswers.{AllAnswer}
use Rattle.cert_tree.proofs.box_answers.SomeMember.{some_member}
use Rattle.cert_tree.specs.config_box.Tests.{TestOf, answers, has_wrong_kind}
use Rattle.cert_tree.specs.config_box.Halves.{IsHalf}
use Rattle.cert_tree.specs.Certificate.{NodeOf, TestAt, ValueAt, BagAt}
use Rattle.cert_checker.specs.declared.rule.Rule.{Rule}
use Rattle.cert_checker.specs.declared.rule.Rule.TheVariants.{GoalList, EndsEarly, LeftOver, TestKind, EmptyHalf, MixedTrace, NoValue, OtherValue}
use Rattle.cert_checker.specs.declared.verdict.Shown.TheVariants.{Nothing}
use Rattle.cert_checker.specs.declared.failure.Failure.{Failure}
use Rattle.cert_checker.specs.Rule.{number_of}
use Rattle.cert_checker.specs.Paths.{Path, IsAt}
use Rattle.cert_checker.specs.Fails.{FailsAtTest}
use Rattle.cert_checker.specs.OpenBoxes.{IsBoxAt, Stand, TakesNode, TakesTest, TakesLeaf}
use Rattle.cert_checker.proofs.MarkSteps.{alike-kind}
use Rattle.cert_checker.proofs.BoxSteps.{half, popped, pushed}

-- ---- a test

-- Of rules of which Q holds none fails, where these two do not.
test_rules : (sets : List SetOf) (members : List ℕ → Type 0) (test : TestOf) (Q : Rule → Type 0) → (Q TestKind → FailsAtTest sets members test TestKind → ⊥) → (Q EmptyHalf → FailsAtTest sets members test EmptyHalf → ⊥)
    → (rule : Rule) → Q rule → FailsAtTest sets members test rule → ⊥
test_rules sets members test Q kind empty GoalList q h = h
test_rules sets members test Q kind empty EndsEarly q h = h
test_rules sets members test Q kind empty LeftOver q h = h
test_rules sets members test Q kind empty TestKind q h = kind q h
test_rules sets members test Q kind empty EmptyHalf q h = empty q h
test_rules sets members test Q kind empty MixedTrace q h = h
test_rules sets members test Q kind empty NoValue q h = h
test_rules sets members test Q kind empty OtherValue q h = h

-- of a wrong kind for the whole box where it is so for the part
kind : (sets : List SetOf) (path : Path) (part : List SetOf) (test : TestOf) (wrong : Bool) → IsBoxAt sets path part → has_wrong_kind part test ≡ wrong → has_wrong_kind sets test ≡ wrong
kind sets path part test wrong b e = alike-kind sets part test b.marks ∙ e

pub wrong_kind : (part : List SetOf) (test : TestOf) (before after : List (List SetOf)) → has_wrong_kind part test ≡ true → TakesTest test part before after (Some (record { rule = TestKind; shown = Nothing }))
wrong_kind part test before after wrong trace sets path paths b stand =
    ((kind sets path part test true b wrong, test_rules sets (IsAt sets path) test (λ (rule : Rule). number_of rule < 4) (λ p h. omega arith) (λ p h. omega arith), refl), tt)

-- of a right one
right_kind : (sets : List SetOf) (path : Path) (part : List SetOf) (test : TestOf) → IsBoxAt sets path part → has_wrong_kind part test ≡ false → FailsAtTest sets (IsAt sets path) test TestKind → ⊥
right_kind sets path part test b right h = let no : true ≡ false = sym h ∙ kind sets path part test false b right in cc

all : (sets : List SetOf) (path : Path) (part : List SetOf) (test : TestOf) (answer : Bool) → IsBoxAt sets path part → AllAnswer (IsMember part) (answers test) answer → AllAnswer (IsAt sets path) (answers test) answer
all sets path part test answer b h d a = h d ((b.members d).1 a)

alike : (sets : List SetOf) (path : Path) (part : List SetOf) (test : TestOf) → IsBoxAt sets path part → AllAnswer (IsMember part) (answers test) true ⊎ AllAnswer (IsMember part) (answers test) false → FailsAtTest sets (IsAt sets path) test EmptyHalf
alike sets path part test b (inl h) = inl (all sets path part test true b h)
alike sets path part test b (inr h) = inr (all sets path part test false b h)

pub empty_half : (part : List SetOf) (test : TestOf) (before after : List (List SetOf)) → has_wrong_kind part test ≡ false → AllAnswer (IsMember part) (answers test) true ⊎ AllAnswer (IsMember part) (answers test) false
    → TakesTest test part before after (Some (record { rule = EmptyHalf; shown = Nothing }))
empty_half part test before after right h trace sets path paths b stand =
    ((alike sets path part test b h, test_rules sets (IsAt sets path) test (λ (rule : Rule). number_of rule < 5) (λ p f. right_kind sets path part test b right f) (λ p f. omega arith), refl), tt)

-- a half has a member, so not all answer otherwise
not_all : (sets : List SetOf) (path : Path) (part halved : List SetOf) (test : TestOf) (answer other : Bool) → answer ≢ other → IsBoxAt sets path part → IsHalf part test answer halved
    → AllAnswer (IsAt sets path) (answers test) other → ⊥
not_all sets path part halved test answer other ne b h all =
    let m = some_member halved h.is_box in
    let r = (h.members m.0).0 m.1 in
    ne (sym r.answers ∙ all m.0 ((b.members m.0).0 r.member))

pub halves : (part yes_half no_half : List SetOf) (test : TestOf) (before after : List (List SetOf)) → has_wrong_kind part test ≡ false → IsHalf part test true yes_half → IsHalf part test false no_half
    → reverse after ≡ yes_half ∷ no_half ∷ reverse before → TakesTest test part before after None
halves part yes_half no_half test before after right y n e trace sets path paths b stand = (
  (λ rule. test_rules sets (IsAt sets path) test (λ (r : Rule). Unit {0}) (λ q h. right_kind sets path part test b right h) (λ q h. split h) rule tt),
  subst (λ (parts : List (List SetOf)). Stand sets parts (((test, true) ∷ path) ∷ ((test, false) ∷ path) ∷ paths)) (sym e)
      (half sets part yes_half path test true b y, (half sets part no_half path test false b n, stand)),
)
  where
    split : FailsAtTest sets (IsAt sets path) test EmptyHalf → ⊥
    split (inl h) = not_all sets path part no_half test false true (λ f. cc) b n h
    split (inr h) = not_all sets path part yes_half test true false (λ f. cc) b y h

pub opened : (part : List SetOf) (test : TestOf) (before after : List (List SetOf)) → OpensHalves part test before after → TakesTest test part before after None
opened part test before after opens =
    halves part opens.yes_half opens.no_half test before after opens.right_kind opens.yes opens.no (pushed before (before ++ opens.no_half ∷ []) after opens.yes_half opens.no_half refl opens.opened)

-- ---- a node

-- no path is open
pub left_over : (trace : List ℕ → Trace) (node : NodeOf) (before after : List (List SetOf)) → before ≡ [] → TakesNode trace node before after (Some (record { rule = LeftOver; shown = Nothing }))
left_over trace node before after e sets [] stand = ((refl, (λ other p f. absurd (none_lower other p f)), refl), tt)
  where
    none_lower : (other : Rule) → number_of other < 3 → other ≡ LeftOver → ⊥
    none_lower other p f = let same = ap number_of f in omega arith
left_over trace node before after e sets (path ∷ paths) stand = absurd (subst (λ (parts : List (List SetOf)). Stand sets parts (path ∷ paths)) (ap reverse e) stand)

pub at_test : (trace : List ℕ → Trace) (test : TestOf) (part : List SetOf) (before rest after : List (List SetOf)) (outcome : Option Failure) → before ≡ rest ++ part ∷ [] → TakesTest test part rest after outcome
    → TakesNode trace (TestAt test) before after outcome
at_test trace test part before rest after outcome e takes sets [] stand = absurd (popped sets part before rest [] e stand)
at_test trace test part before rest after outcome e takes sets (path ∷ paths) stand =
    let s = popped sets part before rest (path ∷ paths) e stand in takes trace sets path paths s.0 s.1

-- the boxes of the other paths stay
stay : (sets : List SetOf) (parts : List (List SetOf)) (paths : List Path) (outcome : Option Failure) → Stand sets parts paths → IfNone outcome (Stand sets parts paths)
stay sets parts paths None s = s
stay sets parts paths (Some failure) s = tt

pub at_value : (trace : List ℕ → Trace) (layer : ℕ) (value : Value) (part : List SetOf) (before rest : List (List SetOf)) (outcome : Option Failure) → before ≡ rest ++ part ∷ [] → TakesLeaf trace (ends.Value layer value) part outcome
    → TakesNode trace (ValueAt layer value) before rest outcome
at_value trace layer value part before rest outcome e takes sets [] stand = absurd (popped sets part before rest [] e stand)
at_value trace layer value part before rest outcome e takes sets (path ∷ paths) stand =
    let s = popped sets part before rest (path ∷ paths) e stand in (takes sets path s.0, stay sets (reverse rest) paths outcome s.1)

pub at_bag : (trace : List ℕ → Trace) (id : ResId) (part : List SetOf) (before rest : List (List SetOf)) (outcome : Option Failure) → before ≡ rest ++ part ∷ [] → TakesLeaf trace (ends.Bag id) part outcome
    → TakesNode trace (BagAt id) before rest outcome
at_bag trace id part before rest outcome e takes sets [] stand = absurd (popped sets part before rest [] e stand)
at_bag trace id part before rest outcome e takes sets (path ∷ paths) stand =
    let s = popped sets part before rest (path ∷ paths) e stand in (takes sets path s.0, stay sets (reverse rest) paths outcome s.1)
