-- What is kept of goals, and of a certificate, until the version is known.
use Rattle.std.specs.Prelude.{ℕ, ◌==◌, ◌&&◌, ◌||◌, not, Bool, bytes_eq, true, false, List, [], ◌∷◌, codes, map, if◌then◌else◌, Option, Some, None, option_and_then, ok_or, is_some, unwrap_or, Result, Ok, Err}
use Rattle.std.specs.Option.{option_map}
use Rattle.std.specs.Global.{Vec}
use Rattle.contract_words.specs.Faults.{◌>>=◌, refuse}
use Rattle.serde_json.specs.Data.{Data}
use Rattle.serde_json.specs.Find.{get, as_object}
use Rattle.json_input.specs.Shape.{has_only, is_among, number_of}
use Rattle.config_box.specs.config_record.locales.declared.locale_rule.LocaleRule.{LocaleRule}
use Rattle.cert_tree.specs.declared.cert.CertGoal.{CertGoal}
use Rattle.cert_tree.specs.declared.cert_fault.CertFault.{CertFault}
use Rattle.cert_tree.specs.declared.cert_fault.CertFault.TheVariants.{Shape, Version}
use Rattle.cert_tree.specs.declared.goal_members.GoalPlace.{GoalPlace}
use Rattle.cert_tree.specs.declared.goal_list.GoalRead.{GoalRead}
use Rattle.cert_tree.specs.declared.goal_list.GoalsRead.{GoalsRead}
use Rattle.cert_tree.specs.declared.read.CertMembers.{CertMembers}
use Rattle.cert_tree.specs.Certificate.{GoalOf, goal_of}
use Rattle.cert_tree.specs.CertJson.{goal_in, goals_in}
use Rattle.cert_tree.specs.KeptGoals.{id_names, goal_result_seen}

-- ---- goals

-- whether a goal has no member but of a goal of an id, and what it means where goals of attributes can be there
pub record GoalKept : Type 0 where
  pub of_id : Bool
  pub goal : Result GoalOf CertFault

unfoldable pub goal_kept : GoalPlace → Data → GoalKept
goal_kept at value = record { of_id = has_only id_names value; goal = goal_in at.rule true at.goal at.nodes_before value }

-- a list of goals in both versions
pub record GoalsOf : Type 0 where
  pub in_version_1 : Result (List GoalOf) CertFault
  pub in_version_2 : Result (List GoalOf) CertFault

unfoldable pub goals_in_both : LocaleRule → Data → GoalsOf
goals_in_both rule value = record { in_version_1 = goals_in rule false value; in_version_2 = goals_in rule true value }

-- where there is no list
abbrev pub no_goals : GoalsOf
no_goals = record { in_version_1 = Err (Shape 0 0); in_version_2 = Err (Shape 0 0) }

-- what goals are where there can be none of attributes, by the place of the first that is none of an id
abbrev pub without_attributes : Option ℕ → Result (List GoalOf) CertFault → Result (List GoalOf) CertFault
without_attributes None goals = goals
without_attributes (Some place) goals = Err (Shape place 0)

-- that place, with one goal more
abbrev pub other_after : Option ℕ → Bool → ℕ → Option ℕ
other_after (Some first) of_id place = Some first
other_after None true place = None
other_after None false place = Some place

-- ---- the members of a certificate

abbrev pub cert_names : List (List ℕ)
cert_names = codes "version" ∷ codes "goals" ∷ []

-- Whether it is an object, and has no member but of these names; its version, if that is a number, and what its goals are in both.
pub record CertMembersOf : Type 0 where
  pub is_object : Bool
  pub only : Bool
  pub version : Option ℕ
  pub goals : GoalsOf

unfoldable pub cert_members : LocaleRule → Data → CertMembersOf
cert_members rule value = record {
  is_object = is_some (as_object value);
  only = has_only cert_names value;
  version = option_and_then number_of (get (codes "version") value);
  goals = record {
    in_version_1 = ok_or (get (codes "goals") value) (Shape 0 0) >>= goals_in rule false;
    in_version_2 = ok_or (get (codes "goals") value) (Shape 0 0) >>= goals_in rule true;
  };
}

-- where it has no member, or is no object
abbrev pub no_cert_members : Bool → CertMembersOf
no_cert_members is_object = record {
  is_object = is_object;
  only = is_object;
  version = None;
  goals = no_goals;
}

-- where one member more is read, which counts in place of an earlier one of its name
unfoldable pub with_cert_member : LocaleRule → List ℕ → Data → CertMembersOf → CertMembersOf
with_cert_member rule name value members = record {
  is_object = members.is_object;
  only = members.only && is_among cert_names name;
  version = if bytes_eq name (codes "version") then number_of value else members.version;
  goals = if bytes_eq name (codes "goals") then goals_in_both rule value else members.goals;
}

abbrev pub is_number : ℕ → Option ℕ → Bool
is_number version found = unwrap_or (option_map (λ n. n == version) found) false

-- the goals of these members
unfoldable pub goals_of_members : CertMembersOf → Result (List GoalOf) CertFault
goals_of_members members = do
  _ ← refuse (not members.is_object) (Shape 0 0)
  _ ← refuse (not (is_number 1 members.version || is_number 2 members.version)) Version
  _ ← refuse (not members.only) (Shape 0 0)
  if is_number 2 members.version then members.goals.in_version_2 else members.goals.in_version_1

-- ---- how contracts see them

abbrev pub goal_read_seen : GoalRead → GoalKept
goal_read_seen read = record { of_id = read.of_id; goal = goal_result_seen read.goal }

abbrev pub goals_result_seen : Result (Vec CertGoal) CertFault → Result (List GoalOf) CertFault
goals_result_seen (Ok goals) = Ok (map goal_of goals.items)
goals_result_seen (Err fault) = Err fault

abbrev pub goals_read_seen : GoalsRead → GoalsOf
goals_read_seen read = record {
  in_version_1 = without_attributes read.first_other (goals_result_seen read.goals);
  in_version_2 = goals_result_seen read.goals;
}

abbrev pub cert_members_seen : CertMembers → CertMembersOf
cert_members_seen members = record {
  is_object = members.is_object;
  only = members.only;
  version = members.version;
  goals = goals_read_seen members.goals;
}
