-- The JSON value that a certificate is written as. The members of an object stand in the order of
-- their names' bytes.
use Rattle.std.specs.Prelude.{ℕ, Bool, if◌then◌else◌, List, codes, map}
use Rattle.std.specs.List.{list_all}
use Rattle.serde_json.specs.Data.{Data, number, unsigned, string, array, object, no_members, member}
use Rattle.serde_json.specs.View.{items_of}
use Rattle.config_box.specs.config_record.locales.declared.locale.Locale.{Locale}
use Rattle.config_box.specs.config_record.Coord.{name_of}
use Rattle.config_box.specs.config_record.locales.Text.{locale_text}
use Rattle.res_value.specs.declared.res_id.ResId.{ResId}
use Rattle.res_value.specs.ResId.{id_text}
use Rattle.config_box.specs.Tests.{ChoiceOf, NumbersOf, LocalesOf, TestOf, AtMostOf, AmongOf}
use Rattle.cert_tree.specs.Certificate.{NodeOf, TestAt, ValueAt, BagAt, GoalOf, is_id}
use Rattle.res_value.specs.Goal.{GoalSeen, IdGoal, AttrGoal}

abbrev pub number_data : ℕ → Data
number_data n = number (unsigned n)

abbrev pub id_data : ResId → Data
id_data id = string (id_text id.0)

abbrev pub locale_data : Locale → Data
locale_data locale = string (locale_text locale)

abbrev pub list_data : List Data → Data
list_data items = array (items_of items)

abbrev pub choice_items : ChoiceOf → List Data
choice_items (NumbersOf numbers) = map number_data numbers
choice_items (LocalesOf locales) = map locale_data locales

abbrev pub test_data : TestOf → Data
test_data (AtMostOf c most) =
    object (member (codes "atMost") (number_data most)
    (member (codes "coord") (string (name_of c)) no_members))
test_data (AmongOf c choice) =
    object (member (codes "coord") (string (name_of c))
    (member (codes "in") (list_data (choice_items choice)) no_members))

abbrev pub node_data : NodeOf → Data
node_data (TestAt test) = test_data test
node_data (ValueAt layer value) =
    object (member (codes "kind") (number_data value.kind)
    (member (codes "layer") (number_data layer)
    (member (codes "word") (number_data value.word) no_members)))
node_data (BagAt id) = object (member (codes "bag") (id_data id) no_members)

-- a goal with this list of nodes
abbrev pub asked_data : GoalSeen → Data → Data
asked_data (IdGoal id) nodes =
    object (member (codes "id") (id_data id)
    (member (codes "nodes") nodes no_members))
asked_data (AttrGoal attr styles) nodes =
    object (member (codes "attr") (id_data attr)
    (member (codes "nodes") nodes
    (member (codes "styles") (list_data (map id_data styles)) no_members)))

abbrev pub goal_data : GoalOf → Data
goal_data g = asked_data g.goal (list_data (map node_data g.nodes))

abbrev pub is_id_goal : GoalOf → Bool
is_id_goal g = is_id g.goal

-- 1 where all goals are ids, else 2
abbrev pub version_of : List GoalOf → ℕ
version_of goals = if list_all is_id_goal goals then 1 else 2

abbrev pub cert_data : List GoalOf → Data
cert_data goals =
    object (member (codes "goals") (list_data (map goal_data goals))
    (member (codes "version") (number_data (version_of goals)) no_members))
