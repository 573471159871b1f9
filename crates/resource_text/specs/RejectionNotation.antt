-- A rejection as people read it, in Android's notation.
use Rattle.std.specs.Prelude.{ℕ, List, [], ◌∷◌, ◌++◌, codes, slice_get, Option, Some, None}
use Rattle.std.specs.Fmt.{decimal}
use Rattle.resource_text.specs.Naming.{NamingOf}
use Rattle.resource_text.specs.GoalNotation.{goal_notation, claimed_end}
use Rattle.resource_text.specs.DeviceNotation.{device_notation, devices_notation}
use Rattle.command_base.specs.answer_text.config_record.DeviceSeen.{device_numbers}
use Rattle.command_base.specs.answer_text.reference_resolver.declared.end.End.{End}
use Rattle.cert_maker.specs.res_value.Goal.{GoalSeen}
use Rattle.cert_maker.specs.cert_checker.declared.rule.Rule.{Rule}
use Rattle.cert_maker.specs.cert_checker.declared.rule.Rule.TheVariants.{GoalList, EndsEarly, LeftOver, TestKind, EmptyHalf, MixedTrace, NoValue, OtherValue}
use Rattle.cert_maker.specs.cert_checker.declared.verdict.Shown.{Shown}
use Rattle.cert_maker.specs.cert_checker.declared.verdict.Shown.TheVariants.{Nothing, Two, One}
use Rattle.cert_maker.specs.cert_checker.declared.verdict.Verdict.{Verdict}
use Rattle.cert_maker.specs.cert_checker.declared.verdict.Verdict.TheVariants.{Accepted, Rejected}
use Rattle.cert_maker.specs.cert_checker.Rule.{number_of, name_of}

-- what is wrong where a rule fails
unfoldable pub rule_words : Rule → List ℕ
rule_words GoalList = codes "the certificate is for other goals"
rule_words EndsEarly = codes "the list of nodes ends before the tree"
rule_words LeftOver = codes "the tree ends before this node"
rule_words TestKind = codes "the box cannot be tested like this"
rule_words EmptyHalf = codes "all devices there answer alike"
rule_words MixedTrace = codes "devices there come to it by different decisions"
rule_words NoValue = codes "it has no value there"
rule_words OtherValue = codes "it has another value there"

-- a goal by its name; where the list that is asked has none, its place
abbrev pub goal_or_place : NamingOf → ℕ → Option GoalSeen → List ℕ
goal_or_place naming place (Some goal) = goal_notation naming goal
goal_or_place naming place None = codes "goal " ++ decimal place

-- ` node K RULE NAME: WORDS`, to the end of the line
unfoldable pub fault_words : ℕ → ℕ → List ℕ → List ℕ → List ℕ
fault_words node rule name words =
    codes " node " ++ decimal node ++ codes " N" ++ decimal rule ++ codes " " ++ name ++ codes ": " ++ words ++ 10 ∷ []

-- the line `rejected GOAL node K RULE NAME: WORDS`
unfoldable pub rejected_notation : NamingOf → Option GoalSeen → ℕ → ℕ → Rule → List ℕ
rejected_notation naming goal place node rule =
    codes "rejected " ++ goal_or_place naming place goal ++ fault_words node (number_of rule) (name_of rule) (rule_words rule)

-- the line `  claimed END`
unfoldable pub claimed_line : NamingOf → Option End → List ℕ
claimed_line naming None = []
claimed_line naming (Some end) = codes "  claimed " ++ claimed_end naming end ++ 10 ∷ []

-- the devices that show it, behind what the leaf says
unfoldable pub shown_notation : NamingOf → Option End → GoalSeen → Shown → List ℕ
shown_notation naming claimed goal Nothing = []
shown_notation naming claimed goal (Two first second) =
    claimed_line naming claimed ++ devices_notation naming goal (device_numbers first) (device_numbers second)
shown_notation naming claimed goal (One device end) = claimed_line naming claimed ++ device_notation naming goal (device_numbers device)

abbrev pub shown_of : NamingOf → Option End → Option GoalSeen → Shown → List ℕ
shown_of naming claimed None shown = []
shown_of naming claimed (Some goal) shown = shown_notation naming claimed goal shown

-- a rejection of these goals, where the node says this end
unfoldable pub rejection_notation : NamingOf → List GoalSeen → Option End → Verdict → List ℕ
rejection_notation naming asked claimed Accepted = []
rejection_notation naming asked claimed (Rejected goal node rule shown) =
    rejected_notation naming (slice_get asked goal) goal node rule ++ shown_of naming claimed (slice_get asked goal) shown
