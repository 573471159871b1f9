-- Which rules fail at the nodes of a tree. A trace says for each device what the rules of the platform do: the trace of an
-- id (`trace_of`), or that of an attribute under styles (`attribute_trace`).
use Rattle.std.specs.Prelude.{◌≡◌, ◌≢◌, ◌⊎◌, ℕ, ◌<◌, true, false, List, [], ◌∷◌, Option, Some, None, slice_get}
use Rattle.box_trace.specs.reference_resolver.declared.end.End.{End}
use Rattle.box_trace.specs.reference_resolver.declared.end.End.TheVariants as ends
use Rattle.box_trace.specs.reference_resolver.Ends.{is_value}
use Rattle.box_trace.specs.reference_resolver.Trace.{Trace}
use Rattle.cert_tree.specs.box_answers.NumberSet.{SetOf}
use Rattle.cert_tree.specs.box_answers.MemberAnswers.{AllAnswer}
use Rattle.cert_tree.specs.config_box.Tests.{TestOf, answers, has_wrong_kind}
use Rattle.cert_tree.specs.Certificate.{NodeOf, TestAt, ValueAt, BagAt}
use Rattle.cert_checker.specs.declared.rule.Rule.{Rule}
use Rattle.cert_checker.specs.declared.rule.Rule.TheVariants.{EndsEarly, LeftOver, TestKind, EmptyHalf, MixedTrace, NoValue, OtherValue}
use Rattle.cert_checker.specs.Rule.{number_of}
use Rattle.cert_checker.specs.Paths.{Path, IsAt, open_at}

-- ---- at a test, to which these members come

-- The kind of a test is judged by the whole box: halves keep ranges as ranges and choices as choices.
abbrev pub FailsAtTest : List SetOf → (List ℕ → Type 0) → TestOf → Rule → Type 0
FailsAtTest sets members test TestKind = has_wrong_kind sets test ≡ true
FailsAtTest sets members test EmptyHalf = AllAnswer members (answers test) true ⊎ AllAnswer members (answers test) false
FailsAtTest sets members test rule = ⊥

-- ---- at a leaf that says this end, to which these members come

abbrev pub HaveTwoTraces : (List ℕ → Type 0) → (List ℕ → Trace) → Type 0
HaveTwoTraces members trace = (x : List ℕ) × (y : List ℕ) × members x × members y × (trace x ≢ trace y)

-- all members have one trace, which ends at no value, or at another than the leaf says
abbrev pub FailsAtLeaf : (List ℕ → Trace) → (List ℕ → Type 0) → End → Rule → Type 0
FailsAtLeaf trace members leaf MixedTrace = HaveTwoTraces members trace
FailsAtLeaf trace members leaf NoValue = (t : Trace) × AllAnswer members trace t × (is_value t.end ≡ false)
FailsAtLeaf trace members leaf OtherValue = (t : Trace) × AllAnswer members trace t × (is_value t.end ≡ true) × (t.end ≢ leaf)
FailsAtLeaf trace members leaf rule = ⊥

-- ---- at a node

abbrev pub FailsAtNode : (List ℕ → Trace) → List SetOf → (List ℕ → Type 0) → NodeOf → Rule → Type 0
FailsAtNode trace sets members (TestAt test) rule = FailsAtTest sets members test rule
FailsAtNode trace sets members (ValueAt layer value) rule = FailsAtLeaf trace members (ends.Value layer value) rule
FailsAtNode trace sets members (BagAt id) rule = FailsAtLeaf trace members (ends.Bag id) rule

-- Where the next node is this, or none is left, and these paths are open. (After the first place at which a rule fails it
-- means nothing: no device may come there.)
abbrev pub FailsAt : (List ℕ → Trace) → List SetOf → Option NodeOf → List Path → Rule → Type 0
FailsAt trace sets None [] rule = ⊥
FailsAt trace sets None (path ∷ paths) rule = rule ≡ EndsEarly
FailsAt trace sets (Some node) [] rule = rule ≡ LeftOver
FailsAt trace sets (Some node) (path ∷ paths) rule = FailsAtNode trace sets (IsAt sets path) node rule

-- ---- in a tree

-- the rule fails at a place in the list of nodes
unfoldable pub Fails : (List ℕ → Trace) → List SetOf → List NodeOf → ℕ → Rule → Type 0
Fails trace sets nodes k rule = FailsAt trace sets (slice_get nodes k) (open_at nodes k) rule

abbrev pub NoRuleFails : (List ℕ → Trace) → List SetOf → List NodeOf → Type 0
NoRuleFails trace sets nodes = (k : ℕ) (rule : Rule) → Fails trace sets nodes k rule → ⊥

-- it is the first place at which a rule fails, and of the rules that fail there the one of the lowest number
pub record FailsFirst (trace : List ℕ → Trace) (sets : List SetOf) (nodes : List NodeOf) (k : ℕ) (rule : Rule) : Type 0 where
  pub fails : Fails trace sets nodes k rule
  pub places_before : (j : ℕ) (other : Rule) → j < k → Fails trace sets nodes j other → ⊥
  pub rules_before : (other : Rule) → number_of other < number_of rule → Fails trace sets nodes k other → ⊥
