-- A certificate as text for people.
use Rattle.std.specs.Prelude.{ℕ, ◌*◌, ◌==◌, nat_lt, if◌then◌else◌, List, [], ◌∷◌, ◌++◌, codes, length, take, Option, Some, None}
use Rattle.std.specs.List.{flat_map, enumerate_from}
use Rattle.std.specs.Fmt.{decimal}
use Rattle.command_base.specs.answer_text.config_record.locales.declared.locale.Locale.{Locale}
use Rattle.command_base.specs.answer_text.config_record.Coord.{name_of}
use Rattle.command_base.specs.answer_text.config_record.locales.Text.{locale_text}
use Rattle.command_base.specs.answer_text.config_record.locales.LocaleNumber.{locale_number}
use Rattle.command_base.specs.answer_text.res_value.declared.res_id.ResId.{ResId}
use Rattle.command_base.specs.answer_text.res_value.declared.value.Value.{Value}
use Rattle.command_base.specs.answer_text.res_value.ResId.{id_text}
use Rattle.command_base.specs.answer_text.res_value.Kind.{string_kind, reference_kind, attribute_kind}
use Rattle.command_base.specs.overlay_map.Layer.{LayerOf}
use Rattle.command_base.specs.answer_text.string_pool.Pool.{PoolOf}
use Rattle.command_base.specs.answer_text.string_pool.Shown.{string_text}
use Rattle.command_base.specs.answer_text.string_pool.Text.{text_in}
use Rattle.command_base.specs.names.IdWord.{word_of_id}
use Rattle.notation.specs.declared.form.Form.{Form}
use Rattle.notation.specs.declared.form.Form.TheVariants.{Android, Raw}
use Rattle.notation.specs.TestText as android
use Rattle.notation.specs.XmlText.{xml_text}
use Rattle.command_base.specs.answer_text.reference_resolver.declared.end.End.TheVariants as of_end
use Rattle.command_base.specs.answer_text.NameText.{its_name}
use Rattle.command_base.specs.answer_text.EndText.{end_text, end_with_string}
use Rattle.command_base.specs.answer_text.LayerText.{layer_text}
use Rattle.command_base.specs.answer_text.QueryText.{strings_of_layer}
use Rattle.command_base.specs.cert_tree.config_box.Tests.{ChoiceOf, NumbersOf, LocalesOf, TestOf, AtMostOf, AmongOf}
use Rattle.command_base.specs.cert_tree.Certificate.{NodeOf, TestAt, ValueAt, BagAt, GoalOf}
use Rattle.command_base.specs.cert_tree.res_value.Goal.{GoalSeen, IdGoal, AttrGoal}
use Rattle.resource_tool.specs.declared.show.path_end.LastAnswer.{LastAnswer}
use Rattle.resource_tool.specs.declared.show.path_end.LastAnswer.TheVariants.{Nothing, Yes, No}
use Rattle.resource_tool.specs.declared.show.path_end.PathEnd.{PathEnd}
use Rattle.resource_tool.specs.Locales.{says_nothing}
use Rattle.resource_tool.specs.TreeLines.{LineOf, NodeAt, Unreached, Missing, most_depth, tree_lines}

-- ---- tests

-- ` NUMBER`
unfoldable pub number_item : ℕ → List ℕ
number_item number = codes " " ++ decimal number

-- ` LOCALE`; ` none` is that of a device without one
unfoldable pub locale_item : Locale → List ℕ
locale_item locale = codes " " ++ (if says_nothing (locale_number locale) then codes "none" else locale_text locale)

-- what is listed, or ` nothing`
unfoldable pub choice_text : ChoiceOf → List ℕ
choice_text (NumbersOf numbers) = if length numbers == 0 then codes " nothing" else flat_map number_item numbers
choice_text (LocalesOf locales) = if length locales == 0 then codes " nothing" else flat_map locale_item locales

-- `COORD at most NUMBER`, or `COORD one of` and what is listed
unfoldable pub test_text : TestOf → List ℕ
test_text (AtMostOf c most) = name_of c ++ codes " at most " ++ decimal most
test_text (AmongOf c choice) = name_of c ++ codes " one of" ++ choice_text choice

-- in either form
unfoldable pub test_in : Form → TestOf → List ℕ
test_in Android test = android.test_text test
test_in Raw test = test_text test

-- ---- nodes

-- where a layer is not there, it has no strings
unfoldable pub no_layer : Option PoolOf → List ℕ
no_layer None = codes " (no such layer)"
no_layer (Some strings) = []

-- an id by its name behind a sign, where it has one
abbrev pub named_by : List ℕ → Value → Option (List ℕ) → List ℕ
named_by sign value None = xml_text value
named_by sign value (Some word) = sign ++ word

abbrev pub string_or_index : Value → Option PoolOf → List ℕ
string_or_index value None = xml_text value
string_or_index value (Some strings) = string_text (text_in strings value.word)

-- a value of a layer with these strings as XML writes it: a string by its text, an id by its name
unfoldable pub leaf_text : List LayerOf → Option PoolOf → Value → List ℕ
leaf_text stack strings value =
    if value.kind == string_kind then string_or_index value strings
    else if value.kind == reference_kind then named_by (codes "@") value (word_of_id stack value.word)
    else if value.kind == attribute_kind then named_by (codes "?") value (word_of_id stack value.word)
    else xml_text value

-- `value layer L VALUE`; in the raw form a string value is followed by its string
unfoldable pub value_text : Form → List LayerOf → Option PoolOf → ℕ → Value → List ℕ
value_text Android stack strings layer value = codes "value " ++ layer_text layer ++ codes " " ++ leaf_text stack strings value ++ no_layer strings
value_text Raw stack strings layer value = end_with_string strings (of_end.Value layer value) ++ no_layer strings

-- a bag, with its name
unfoldable pub bag_text : List LayerOf → ResId → List ℕ
bag_text stack id = end_text (of_end.Bag id) ++ its_name stack id.0

-- a test, or a leaf
unfoldable pub node_label : Form → List LayerOf → NodeOf → List ℕ
node_label form stack (TestAt test) = test_in form test
node_label form stack (ValueAt layer value) = value_text form stack (strings_of_layer stack layer) layer value
node_label form stack (BagAt id) = bag_text stack id

-- before a test
unfoldable pub if_text : NodeOf → List ℕ
if_text (TestAt test) = codes "if "
if_text (ValueAt layer value) = []
if_text (BagAt id) = []

unfoldable pub node_text : Form → List LayerOf → NodeOf → List ℕ
node_text form stack node = if_text node ++ node_label form stack node

-- ---- lines

-- two for each answer yes
abbrev pub spaces : List ℕ
spaces = codes "                                                                "

-- `else ` behind the answer no
unfoldable pub else_text : LastAnswer → List ℕ
else_text (No test) = codes "else "
else_text answer = []

-- `then of TEST: ` behind the answer yes of a test, by the number of its node, and `else of TEST: ` behind the answer no
unfoldable pub behind_text : LastAnswer → List ℕ
behind_text Nothing = []
behind_text (Yes test) = codes "then of " ++ decimal test ++ codes ": "
behind_text (No test) = codes "else of " ++ decimal test ++ codes ": "

-- How a line begins at the end of a path: it is indented by the answers that are yes. Where these are so many that
-- lines are not indented further, it says which test it is behind.
unfoldable pub path_text : PathEnd → List ℕ
path_text path = take (2 * path.depth) spaces ++ (if nat_lt path.depth most_depth then else_text path.last else behind_text path.last)

-- a node, behind its number and a tab
unfoldable pub node_line : Form → List LayerOf → ℕ → PathEnd → NodeOf → List ℕ
node_line form stack number path node = decimal number ++ 9 ∷ [] ++ path_text path ++ node_text form stack node ++ 10 ∷ []

-- a node to which no path leads
unfoldable pub unreached_line : Form → List LayerOf → ℕ → NodeOf → List ℕ
unreached_line form stack number node = decimal number ++ 9 ∷ codes "not reached: " ++ node_text form stack node ++ 10 ∷ []

-- a path without a node
unfoldable pub missing_line : PathEnd → List ℕ
missing_line path = 9 ∷ [] ++ path_text path ++ codes "ends early" ++ 10 ∷ []

unfoldable pub line_text : Form → List LayerOf → LineOf → List ℕ
line_text form stack (NodeAt number path node) = node_line form stack number path node
line_text form stack (Unreached number node) = unreached_line form stack number node
line_text form stack (Missing path) = missing_line path

-- ---- goals

-- ` STYLE`, with its name
unfoldable pub style_text : List LayerOf → ResId → List ℕ
style_text stack style = codes " " ++ id_text style.0 ++ its_name stack style.0

-- `ID`, or `ATTR under STYLE STYLE`; each id is followed by its name
unfoldable pub asked_text : List LayerOf → GoalSeen → List ℕ
asked_text stack (IdGoal id) = id_text id.0 ++ its_name stack id.0
asked_text stack (AttrGoal attr styles) = id_text attr.0 ++ its_name stack attr.0 ++ codes " under" ++ flat_map (style_text stack) styles

-- `goal N GOAL`, by its number from 0
unfoldable pub goal_head : List LayerOf → ℕ → GoalSeen → List ℕ
goal_head stack number goal = codes "goal " ++ decimal number ++ codes " " ++ asked_text stack goal

-- the line `goal N GOAL nodes M`
unfoldable pub goal_line : List LayerOf → ℕ → GoalSeen → ℕ → List ℕ
goal_line stack number goal nodes = goal_head stack number goal ++ codes " nodes " ++ decimal nodes ++ 10 ∷ []

-- the line of a goal by its number from 0, and those of its tree
unfoldable pub goal_text : Form → List LayerOf → (ℕ × GoalOf) → List ℕ
goal_text form stack numbered =
    goal_line stack numbered.0 numbered.1.goal (length numbered.1.nodes) ++ flat_map (line_text form stack) (tree_lines numbered.1.nodes)

-- the line `goals N`
unfoldable pub goals_line : ℕ → List ℕ
goals_line count = codes "goals " ++ decimal count ++ 10 ∷ []

-- the goals in their order, and how many there are
unfoldable pub certificate_text : Form → List LayerOf → List GoalOf → List ℕ
certificate_text form stack goals = flat_map (goal_text form stack) (enumerate_from 0 goals) ++ goals_line (length goals)
