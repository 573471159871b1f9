-- The verdict on a certificate as text.
use Rattle.std.specs.Prelude.{ℕ, List, [], ◌∷◌, ◌++◌, codes, length}
use Rattle.std.specs.Fmt.{decimal}
use Rattle.command_base.specs.answer_text.config_record.DeviceSeen.{device_numbers}
use Rattle.command_base.specs.answer_text.config_record.Qualifiers.{device_text}
use Rattle.command_base.specs.answer_text.reference_resolver.declared.end.End.{End}
use Rattle.cert_maker.specs.cert_tree.Certificate.{GoalOf, node_count}
use Rattle.cert_maker.specs.cert_checker.declared.verdict.Shown.{Shown}
use Rattle.cert_maker.specs.cert_checker.declared.verdict.Shown.TheVariants.{Nothing, Two, One}
use Rattle.cert_maker.specs.cert_checker.declared.verdict.Verdict.{Verdict}
use Rattle.cert_maker.specs.cert_checker.declared.verdict.Verdict.TheVariants.{Accepted, Rejected}
use Rattle.cert_maker.specs.cert_checker.Rule.{number_of, name_of}
use Rattle.command_base.specs.answer_text.EndText.{end_line}

-- the line `accepted goals G nodes N`
unfoldable pub accepted_line : ℕ → ℕ → List ℕ
accepted_line goals nodes = codes "accepted goals " ++ decimal goals ++ codes " nodes " ++ decimal nodes ++ 10 ∷ []

-- how many goals there are, and how many nodes they have in all
abbrev pub accepted_text : List GoalOf → List ℕ
accepted_text goals = accepted_line (length goals) (node_count goals)

-- the line `rejected goal G node N RULE NAME`; goals and nodes are counted from 0, and RULE is `N` and the rule's number
unfoldable pub rejected_line : ℕ → ℕ → ℕ → List ℕ → List ℕ
rejected_line goal node rule name =
    codes "rejected goal " ++ decimal goal ++ codes " node " ++ decimal node ++ codes " N" ++ decimal rule ++ codes " " ++ name ++ 10 ∷ []

-- the line `NAME DEVICE`
unfoldable pub named_device_line : List ℕ → List ℕ → List ℕ
named_device_line name d = name ++ codes " " ++ device_text d ++ 10 ∷ []

-- a device, and in a line behind it where a goal ends for it
unfoldable pub device_with_end : List ℕ → End → List ℕ
device_with_end d end = named_device_line (codes "device") d ++ end_line end

-- the devices that show why a node fails: two with different traces, or one with its end
unfoldable pub shown_text : Shown → List ℕ
shown_text Nothing = []
shown_text (Two first second) =
    named_device_line (codes "first") (device_numbers first) ++ named_device_line (codes "second") (device_numbers second)
shown_text (One device end) = device_with_end (device_numbers device) end

-- a rejection, with those devices
unfoldable pub rejection_text : Verdict → List ℕ
rejection_text Accepted = []
rejection_text (Rejected goal node rule shown) = rejected_line goal node (number_of rule) (name_of rule) ++ shown_text shown

abbrev pub verdict_text : Verdict → List GoalOf → List ℕ
verdict_text Accepted goals = accepted_text goals
verdict_text (Rejected goal node rule shown) goals = rejection_text (Rejected goal node rule shown)

-- the line `failed N of M goals`
unfoldable pub failed_line : ℕ → ℕ → List ℕ
failed_line failed goals = codes "failed " ++ decimal failed ++ codes " of " ++ decimal goals ++ codes " goals" ++ 10 ∷ []
