-- What is written of a part of a certificate is read as the same. The functions that write the parts
-- carry these facts, and contracts within this crate alone cite them.
use Rattle.std.specs.Prelude.{◌≡◌, ◌+◌, ◌≤◌, ◌||◌, ℕ, Bool, true, length, Some, Ok}
use Rattle.std.specs.List.{All}
use Rattle.config_box.specs.config_record.declared.coord.Coord.{Coord}
use Rattle.config_box.specs.config_record.locales.declared.locale_rule.LocaleRule.{LocaleRule}
use Rattle.res_value.specs.declared.res_id.ResId.{ResId}
use Rattle.res_value.specs.ResId.{id_of, id_text}
use Rattle.cert_tree.specs.declared.cert_fault.CertFault.{CertFault}
use Rattle.config_box.specs.Tests.{ChoiceOf}
use Rattle.cert_tree.specs.Certificate.{NodeOf, GoalOf, ChoiceFits, NodeFits, GoalFits, is_id, most_nodes}
use Rattle.res_value.specs.Goal.{GoalSeen}
use Rattle.cert_tree.specs.CertJson.{number_item, choice_in, node_in, goal_in}
use Rattle.cert_tree.specs.WrittenJson.{number_data, choice_items, node_data, goal_data}

abbrev pub NumberReadsBack : ℕ → Type 0
NumberReadsBack n = (shape : CertFault) → number_item shape (number_data n) ≡ Ok n

abbrev pub IdReadsBack : ResId → Type 0
IdReadsBack id = id_of (id_text id.0) ≡ Some id

abbrev pub ChoiceReadsBack : ChoiceOf → Type 0
ChoiceReadsBack choice = (rule : LocaleRule) (c : Coord) → ChoiceFits rule c choice → (shape : CertFault) → choice_in rule shape c (choice_items choice) ≡ Ok choice

abbrev pub NodeReadsBack : NodeOf → Type 0
NodeReadsBack node = (rule : LocaleRule) → NodeFits rule node → (shape : CertFault) → node_in rule shape (node_data node) ≡ Ok node

-- a goal of an attribute is there only where such can be read
abbrev pub CanBeRead : Bool → GoalSeen → Type 0
CanBeRead attributes goal = is_id goal || attributes ≡ true

abbrev pub GoalReadsBack : GoalOf → Type 0
GoalReadsBack g =
    (rule : LocaleRule) → GoalFits g.goal → All (NodeFits rule) g.nodes
    → (attributes : Bool) → CanBeRead attributes g.goal
    → (place nodes_before : ℕ) → nodes_before + length g.nodes ≤ most_nodes
    → goal_in rule attributes place nodes_before (goal_data g) ≡ Ok g
