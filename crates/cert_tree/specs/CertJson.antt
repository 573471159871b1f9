-- The certificate that a JSON text means, or its first fault.
use Rattle.std.specs.Prelude.{ℕ, ◌+◌, ◌==◌, ◌&&◌, ◌||◌, nat_le, nat_lt, not, bytes_eq, Bool, false, if◌then◌else◌, List, [], ◌∷◌, codes, find, length, Option, Some, None, option_and_then, ok_or, is_some, unwrap_or, Result, Ok, Err}
use Rattle.std.specs.Option.{option_map}
use Rattle.std.specs.Result.{result_ok}
use Rattle.contract_words.specs.Faults.{◌>>=◌, refuse}
use Rattle.serde_json.specs.Data.{Data}
use Rattle.serde_json.specs.Find.{get, as_object}
use Rattle.json_input.specs.Each.{list_of, each}
use Rattle.json_input.specs.Json.{value_of}
use Rattle.json_input.specs.Shape.{has_only, number_of, text_of}
use Rattle.config_box.specs.config_record.declared.coord.Coord as coord
use Rattle.config_box.specs.config_record.declared.coord.Coord.TheVariants as coords
use Rattle.config_box.specs.config_record.locales.declared.locale.Locale.{Locale}
use Rattle.config_box.specs.config_record.Coord.{all_coords, name_of}
use Rattle.config_box.specs.config_record.locales.declared.locale_rule.LocaleRule.{LocaleRule}
use Rattle.config_box.specs.config_record.locales.declared.locale_rule.LocaleRule.TheVariants.{LanguageAndRegion}
use Rattle.config_box.specs.config_record.locales.Text.{locale_by}
use Rattle.res_value.specs.declared.res_id.ResId.{ResId}
use Rattle.res_value.specs.ResId.{id_of}
use Rattle.cert_tree.specs.declared.cert_fault.CertFault.{CertFault}
use Rattle.cert_tree.specs.declared.cert_fault.CertFault.TheVariants.{Syntax, Version, Shape, TooManyNodes}
use Rattle.config_box.specs.Tests.{ChoiceOf, NumbersOf, LocalesOf, AtMostOf, AmongOf}
use Rattle.cert_tree.specs.Certificate.{NodeOf, TestAt, ValueAt, BagAt, GoalOf, node_count, most_nodes, last_layer, most_listed}
use Rattle.res_value.specs.Goal.{GoalSeen, IdGoal, AttrGoal, most_styles}
use Rattle.cert_tree.specs.ReadOn.{read_on}

-- ---- members, and items of lists; `shape` is the fault of what has none of the shapes

-- the greatest number of 32 bits, and of 8
abbrev pub last_word : ℕ
last_word = 4294967295

abbrev pub last_kind : ℕ
last_kind = 255

-- a number, where it is at most this
abbrev pub at_most : ℕ → ℕ → Option ℕ
at_most most n = if nat_le n most then Some n else None

unfoldable pub number_within : CertFault → ℕ → Data → Result ℕ CertFault
number_within shape most value = ok_or (option_and_then (at_most most) (number_of value)) shape

unfoldable pub number_at : CertFault → List ℕ → ℕ → Data → Result ℕ CertFault
number_at shape name most value = ok_or (get name value) shape >>= number_within shape most

unfoldable pub id_at : CertFault → List ℕ → Data → Result ResId CertFault
id_at shape name value = ok_or (option_and_then id_of (option_and_then text_of (get name value))) shape

unfoldable pub list_at : CertFault → List ℕ → Data → Result (List Data) CertFault
list_at shape name value = ok_or (option_and_then list_of (get name value)) shape

-- the coordinate of a name
unfoldable pub coord_named : List ℕ → Option coord.Coord
coord_named name = find (λ c. bytes_eq (name_of c) name) all_coords

unfoldable pub coord_at : CertFault → Data → Result coord.Coord CertFault
coord_at shape value = ok_or (option_and_then coord_named (option_and_then text_of (get (codes "coord") value))) shape

-- ---- nodes

unfoldable pub at_most_in : CertFault → Data → Result NodeOf CertFault
at_most_in shape value = do
  c ← coord_at shape value
  most ← number_at shape (codes "atMost") last_word value
  Ok (TestAt (AtMostOf c most))

abbrev pub number_item : CertFault → Data → Result ℕ CertFault
number_item shape value = number_within shape last_word value

-- a text that gives a locale, by this rule
unfoldable pub locale_item : LocaleRule → CertFault → Data → Result Locale CertFault
locale_item rule shape value = ok_or (option_and_then (λ text. result_ok (locale_by rule text)) (text_of value)) shape

-- texts at the locale, elsewhere numbers
unfoldable pub choice_in : LocaleRule → CertFault → coord.Coord → List Data → Result ChoiceOf CertFault
choice_in rule shape coords.Locale items = each (locale_item rule shape) items >>= λ locales. Ok (LocalesOf locales)
choice_in rule shape c items = each (number_item shape) items >>= λ numbers. Ok (NumbersOf numbers)

unfoldable pub among_in : LocaleRule → CertFault → Data → Result NodeOf CertFault
among_in rule shape value = do
  c ← coord_at shape value
  items ← list_at shape (codes "in") value
  _ ← refuse (nat_lt most_listed (length items)) shape
  choice ← choice_in rule shape c items
  Ok (TestAt (AmongOf c choice))

unfoldable pub value_in : CertFault → Data → Result NodeOf CertFault
value_in shape value = do
  layer ← number_at shape (codes "layer") last_layer value
  kind ← number_at shape (codes "kind") last_kind value
  word ← number_at shape (codes "word") last_word value
  Ok (ValueAt layer (record { kind = kind; word = word }))

unfoldable pub bag_in : CertFault → Data → Result NodeOf CertFault
bag_in shape value = id_at shape (codes "bag") value >>= λ id. Ok (BagAt id)

-- an object with the members of one kind of node, and no other
unfoldable pub node_in : LocaleRule → CertFault → Data → Result NodeOf CertFault
node_in rule shape value =
    if has_only (codes "coord" ∷ codes "atMost" ∷ []) value then at_most_in shape value
    else if has_only (codes "coord" ∷ codes "in" ∷ []) value then among_in rule shape value
    else if has_only (codes "layer" ∷ codes "kind" ∷ codes "word" ∷ []) value then value_in shape value
    else if has_only (codes "bag" ∷ []) value then bag_in shape value
    else Err shape

-- a node of a goal, after those before it
abbrev pub node_after : LocaleRule → ℕ → List NodeOf → Data → Result NodeOf CertFault
node_after rule goal before value = node_in rule (Shape goal (length before)) value

-- ---- goals

unfoldable pub id_goal_in : CertFault → Data → Result GoalSeen CertFault
id_goal_in shape value = id_at shape (codes "id") value >>= λ id. Ok (IdGoal id)

-- a text that gives an id
unfoldable pub id_item : CertFault → Data → Result ResId CertFault
id_item shape value = ok_or (option_and_then id_of (text_of value)) shape

-- the ids of styles
unfoldable pub styles_in : CertFault → Data → Result (List ResId) CertFault
styles_in shape value = do
  items ← ok_or (list_of value) shape
  _ ← refuse (nat_lt most_styles (length items)) shape
  each (id_item shape) items

unfoldable pub attr_goal_in : CertFault → Data → Result GoalSeen CertFault
attr_goal_in shape value = do
  attr ← id_at shape (codes "attr") value
  styles ← ok_or (get (codes "styles") value) shape >>= styles_in shape
  Ok (AttrGoal attr styles)

-- an object with the members of a goal of an id, or, where there can be such, of a goal of an attribute
unfoldable pub asked_in : Bool → CertFault → Data → Result GoalSeen CertFault
asked_in attributes shape value =
    if has_only (codes "id" ∷ codes "nodes" ∷ []) value then id_goal_in shape value
    else if attributes && has_only (codes "attr" ∷ codes "styles" ∷ codes "nodes" ∷ []) value then attr_goal_in shape value
    else Err shape

-- the list of the nodes of the goal of this number, where so many nodes stand in the goals before it: first how many nodes
-- there are, then the nodes
unfoldable pub nodes_in : LocaleRule → ℕ → ℕ → Data → Result (List NodeOf) CertFault
nodes_in rule goal nodes_before value = do
  items ← ok_or (list_of value) (Shape goal 0)
  _ ← refuse (nat_lt most_nodes (nodes_before + length items)) TooManyNodes
  read_on (node_after rule goal) [] items

-- the goal of this number, where so many nodes stand in those before it: first its shape, then its nodes
unfoldable pub goal_in : LocaleRule → Bool → ℕ → ℕ → Data → Result GoalOf CertFault
goal_in rule attributes goal nodes_before value = do
  asked ← asked_in attributes (Shape goal 0) value
  nodes ← ok_or (get (codes "nodes") value) (Shape goal 0) >>= nodes_in rule goal nodes_before
  Ok (record { goal = asked; nodes = nodes })

abbrev pub goal_after : LocaleRule → Bool → List GoalOf → Data → Result GoalOf CertFault
goal_after rule attributes before value = goal_in rule attributes (length before) (node_count before) value

-- ---- the whole

-- the version is this number
unfoldable pub is_version : ℕ → Data → Bool
is_version version value = unwrap_or (option_map (λ n. n == version) (option_and_then number_of (get (codes "version") value))) false

-- the goals of a list, where goals of attributes can be there or can't
unfoldable pub goals_in : LocaleRule → Bool → Data → Result (List GoalOf) CertFault
goals_in rule attributes value = ok_or (list_of value) (Shape 0 0) >>= read_on (goal_after rule attributes) []

-- an object of version 1 or 2, with a list of goals and no other member; goals of attributes can be there from version 2 on
unfoldable pub goals_in_value : LocaleRule → Data → Result (List GoalOf) CertFault
goals_in_value rule value = do
  _ ← refuse (not (is_some (as_object value))) (Shape 0 0)
  _ ← refuse (not (is_version 1 value || is_version 2 value)) Version
  _ ← refuse (not (has_only (codes "version" ∷ codes "goals" ∷ []) value)) (Shape 0 0)
  ok_or (get (codes "goals") value) (Shape 0 0) >>= goals_in rule (is_version 2 value)

-- the certificate that bytes mean, where locales are read by this rule
abbrev pub cert_in_by : LocaleRule → List ℕ → Result (List GoalOf) CertFault
cert_in_by rule json = ok_or (value_of json) Syntax >>= goals_in_value rule

-- by language and region
abbrev pub cert_in : List ℕ → Result (List GoalOf) CertFault
cert_in = cert_in_by LanguageAndRegion
