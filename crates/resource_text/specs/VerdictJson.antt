-- The verdict on a certificate as lines of JSON. An object is told member by member; they stand in it in the order of their names' bytes.
use Rattle.std.specs.Prelude.{ℕ, List, [], ◌∷◌, ◌++◌, codes, map, slice_get, Option, Some, None}
use Rattle.std.specs.Fmt.{decimal}
use Rattle.serde_json.specs.Data.{Data, object, Members, no_members, put as with_member}
use Rattle.command_base.specs.answer_text.config_record.DeviceSeen.{device_numbers}
use Rattle.command_base.specs.answer_text.reference_resolver.declared.end.End.{End}
use Rattle.cert_maker.specs.res_value.Goal.{GoalSeen, IdGoal, AttrGoal}
use Rattle.cert_maker.specs.res_value.declared.res_id.ResId.{ResId}
use Rattle.cert_maker.specs.cert_checker.declared.rule.Rule.{Rule}
use Rattle.cert_maker.specs.cert_checker.declared.verdict.Shown.{Shown}
use Rattle.cert_maker.specs.cert_checker.declared.verdict.Shown.TheVariants.{Nothing, Two, One}
use Rattle.cert_maker.specs.cert_checker.declared.verdict.Verdict.{Verdict}
use Rattle.cert_maker.specs.cert_checker.declared.verdict.Verdict.TheVariants.{Accepted, Rejected}
use Rattle.cert_maker.specs.cert_checker.Rule.{number_of, name_of}
use Rattle.resource_text.specs.DeviceJson.{device_data}
use Rattle.resource_text.specs.EndJson.{resource_data, with_id}
use Rattle.resource_text.specs.GoalEndJson.{slot_end_data, with_goal_end}
use Rattle.resource_text.specs.LineJson.{line_members, line_json}
use Rattle.resource_text.specs.Naming.{NamingOf}
use Rattle.resource_text.specs.TextJson.{text_data, number_data, list_data}

-- ---- counts

-- how many goals are accepted, and how many nodes they have in all
unfoldable pub accepted_json : ℕ → ℕ → List ℕ
accepted_json goals nodes =
    codes "{\"goals\":" ++ decimal goals ++ codes ",\"line\":\"accepted\",\"nodes\":" ++ decimal nodes ++ codes "}" ++ 10 ∷ []

-- how many of how many goals are rejected
unfoldable pub failed_json : ℕ → ℕ → List ℕ
failed_json failed goals = codes "{\"failed\":" ++ decimal failed ++ codes ",\"goals\":" ++ decimal goals ++ codes ",\"line\":\"failed\"}" ++ 10 ∷ []

-- ---- goals

-- a resource; or an attribute with its styles
unfoldable pub goal_data : NamingOf → GoalSeen → Data
goal_data naming (IdGoal id) = resource_data naming id.0
goal_data naming (AttrGoal attr styles) =
    object (with_member (codes "styles") (list_data (map (λ (style : ResId). resource_data naming style.0) styles)) (with_id naming attr.0 no_members))

-- ---- the devices that show why a node fails

-- a device, and where the goal ends there
unfoldable pub shown_device_data : NamingOf → GoalSeen → List ℕ → Data
shown_device_data naming goal d = object (with_goal_end naming d goal (with_member (codes "device") (device_data d) no_members))

unfoldable pub shown_data : NamingOf → GoalSeen → Shown → List Data
shown_data naming goal Nothing = []
shown_data naming goal (Two first second) =
    shown_device_data naming goal (device_numbers first) ∷ shown_device_data naming goal (device_numbers second) ∷ []
shown_data naming goal (One device end) = shown_device_data naming goal (device_numbers device) ∷ []

-- ---- a rejection

-- the goal by its place in the list, and the node: both are counted from 0
unfoldable pub with_fault : ℕ → ℕ → Rule → Members → Members
with_fault goal node rule others =
    with_member (codes "ruleName") (text_data (name_of rule)) (with_member (codes "rule") (text_data (codes "N" ++ decimal (number_of rule)))
    (with_member (codes "node") (number_data node) (with_member (codes "place") (number_data goal) others)))

-- what the node says, if it is a leaf of which devices show something
abbrev pub claim_shown : Shown → Option End → Option End
claim_shown Nothing claimed = None
claim_shown (Two first second) claimed = claimed
claim_shown (One device end) claimed = claimed

unfoldable pub with_claimed : NamingOf → Option End → Members → Members
with_claimed naming None others = others
with_claimed naming (Some end) others = with_member (codes "claimed") (slot_end_data naming end) others

-- the goal, those devices and that end, where the list that is asked has the goal
unfoldable pub with_goal : NamingOf → Option GoalSeen → Option End → Shown → Members → Members
with_goal naming None claimed shown others = others
with_goal naming (Some goal) claimed shown others =
    with_member (codes "devices") (list_data (shown_data naming goal shown))
    (with_claimed naming (claim_shown shown claimed) (with_member (codes "goal") (goal_data naming goal) others))

unfoldable pub rejected_json : NamingOf → Option GoalSeen → Option End → ℕ → ℕ → Rule → Shown → List ℕ
rejected_json naming asked claimed goal node rule shown =
    line_json (with_goal naming asked claimed shown (with_fault goal node rule (line_members (codes "rejected"))))

-- a rejection of these goals, where the node says this end
unfoldable pub rejection_json : NamingOf → List GoalSeen → Option End → Verdict → List ℕ
rejection_json naming asked claimed Accepted = []
rejection_json naming asked claimed (Rejected goal node rule shown) = rejected_json naming (slice_get asked goal) claimed goal node rule shown
