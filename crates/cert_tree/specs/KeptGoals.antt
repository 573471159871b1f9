-- What is kept of a goal while the members of its object are read.
use Rattle.std.specs.Prelude.{ℕ, ◌&&◌, Bool, bytes_eq, List, [], ◌∷◌, codes, if◌then◌else◌, ok_or, Result, Ok, Err}
use Rattle.std.specs.Global.{Vec}
use Rattle.contract_words.specs.Faults.{◌>>=◌}
use Rattle.serde_json.specs.Data.{Data}
use Rattle.serde_json.specs.Find.{get}
use Rattle.json_input.specs.Shape.{has_only, is_among}
use Rattle.res_value.specs.declared.res_id.ResId.{ResId}
use Rattle.res_value.specs.Goal.{GoalSeen, IdGoal, AttrGoal}
use Rattle.cert_tree.specs.declared.cert.CertGoal.{CertGoal}
use Rattle.cert_tree.specs.declared.cert_fault.CertFault.{CertFault}
use Rattle.cert_tree.specs.declared.cert_fault.CertFault.TheVariants.{Shape}
use Rattle.cert_tree.specs.declared.goal_members.GoalPlace.{GoalPlace}
use Rattle.cert_tree.specs.declared.goal_members.GoalMembers.{GoalMembers}
use Rattle.cert_tree.specs.Certificate.{NodeOf, GoalOf, goal_of}
use Rattle.cert_tree.specs.Kept.{nodes_kept}
use Rattle.cert_tree.specs.CertJson.{id_at, id_item, styles_in, nodes_in}

-- Whether there is no member but of a goal of an id, and none but of a goal of an attribute; and what each member means.
pub record GoalMembersOf : Type 0 where
  pub of_id : Bool
  pub of_attr : Bool
  pub id : Result ResId CertFault
  pub attr : Result ResId CertFault
  pub styles : Result (List ResId) CertFault
  pub nodes : Result (List NodeOf) CertFault

abbrev pub id_names : List (List ℕ)
id_names = codes "id" ∷ codes "nodes" ∷ []

abbrev pub attr_names : List (List ℕ)
attr_names = codes "attr" ∷ codes "styles" ∷ codes "nodes" ∷ []

abbrev pub shape_at : GoalPlace → CertFault
shape_at at = Shape at.goal 0

unfoldable pub goal_members : GoalPlace → Data → GoalMembersOf
goal_members at value = record {
  of_id = has_only id_names value;
  of_attr = has_only attr_names value;
  id = id_at (shape_at at) (codes "id") value;
  attr = id_at (shape_at at) (codes "attr") value;
  styles = ok_or (get (codes "styles") value) (shape_at at) >>= styles_in (shape_at at);
  nodes = ok_or (get (codes "nodes") value) (shape_at at) >>= nodes_in at.rule at.goal at.nodes_before;
}

-- of an object that has none, or of another value
abbrev pub no_goal_members : Bool → CertFault → GoalMembersOf
no_goal_members is_object shape = record {
  of_id = is_object;
  of_attr = is_object;
  id = Err shape;
  attr = Err shape;
  styles = Err shape;
  nodes = Err shape;
}

-- where one member more is read, which counts in place of an earlier one of its name
unfoldable pub with_member : GoalPlace → List ℕ → Data → GoalMembersOf → GoalMembersOf
with_member at name value members = record {
  of_id = members.of_id && is_among id_names name;
  of_attr = members.of_attr && is_among attr_names name;
  id = if bytes_eq name (codes "id") then id_item (shape_at at) value else members.id;
  attr = if bytes_eq name (codes "attr") then id_item (shape_at at) value else members.attr;
  styles = if bytes_eq name (codes "styles") then styles_in (shape_at at) value else members.styles;
  nodes = if bytes_eq name (codes "nodes") then nodes_in at.rule at.goal at.nodes_before value else members.nodes;
}

unfoldable pub asked_of : CertFault → GoalMembersOf → Result GoalSeen CertFault
asked_of shape members =
    if members.of_id then (members.id >>= λ id. Ok (IdGoal id))
    else if members.of_attr then (members.attr >>= λ attr. members.styles >>= λ styles. Ok (AttrGoal attr styles))
    else Err shape

-- the goal of these members, which may be of an attribute
unfoldable pub goal_of_members : CertFault → GoalMembersOf → Result GoalOf CertFault
goal_of_members shape members = do
  asked ← asked_of shape members
  nodes ← members.nodes
  Ok (record { goal = asked; nodes = nodes })

-- ---- how contracts see them

abbrev pub ids_seen : Result (Vec ResId) CertFault → Result (List ResId) CertFault
ids_seen (Ok ids) = Ok ids.items
ids_seen (Err fault) = Err fault

abbrev pub goal_members_seen : GoalMembers → GoalMembersOf
goal_members_seen members = record {
  of_id = members.of_id;
  of_attr = members.of_attr;
  id = members.id;
  attr = members.attr;
  styles = ids_seen members.styles;
  nodes = nodes_kept members.nodes;
}

abbrev pub goal_result_seen : Result CertGoal CertFault → Result GoalOf CertFault
goal_result_seen (Ok goal) = Ok (goal_of goal)
goal_result_seen (Err fault) = Err fault
