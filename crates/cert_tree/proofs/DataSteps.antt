-- The data of goals and tests, from those of their parts.
use Rattle.std.proofs.Common.{◌≡◌, List, [], ◌∷◌, Vec, Global, map, refl, ap, ◌∙◌}
use Rattle.std.specs.Prelude.{codes}
use Rattle.serde_json.specs.Data.{Data, Items, array, item, object, put, no_members}
use Rattle.serde_json.specs.View.{view, items_view, items_of}
use Rattle.serde_json.specs.declared.value.Value.{Value}
use Rattle.serde_json.specs.declared.value.Value.TheVariants.{Array}
use Rattle.serde_json.proofs.Views.{view-Array}
use Rattle.res_value.specs.declared.goal.Goal.{Goal}
use Rattle.res_value.specs.declared.res_id.ResId.{ResId}
use Rattle.res_value.specs.Goal.{IdGoal, AttrGoal, goal_seen}
use Rattle.cert_tree.specs.WrittenJson.{id_data, list_data, asked_data}

-- a list of values is the list of their data
items-data : (values : List Value) → items_view values ≡ items_of (map view values)
items-data [] = refl
items-data (value ∷ values) = ap (λ (others : Items). item (view value) others) (items-data values)

pub array-data : (values : Vec Value Global) (items : List Data) → map view values.items ≡ items → view (Array values) ≡ list_data items
array-data values items is = view-Array values ∙ ap array (items-data values.items) ∙ ap list_data is

pub id_goal-data : (id nodes : Data) (asked : Goal) (of : ResId) (listed : Data) → id ≡ id_data of → nodes ≡ listed → goal_seen asked ≡ IdGoal of
    → object (put (codes "nodes") nodes (put (codes "id") id no_members)) ≡ asked_data (goal_seen asked) listed
id_goal-data id nodes asked of listed is same seen = rw (is, same, seen) refl

pub attr_goal-data : (attr styles nodes : Data) (asked : Goal) (of : ResId) (ids : List ResId) (listed : Data) → attr ≡ id_data of → styles ≡ list_data (map id_data ids) → nodes ≡ listed → goal_seen asked ≡ AttrGoal of ids
    → object (put (codes "styles") styles (put (codes "nodes") nodes (put (codes "attr") attr no_members))) ≡ asked_data (goal_seen asked) listed
attr_goal-data attr styles nodes asked of ids listed is all same seen = rw (is, all, same, seen) refl
