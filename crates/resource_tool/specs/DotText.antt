-- The tree of a goal as a picture, in the language DOT.
use Rattle.std.specs.Prelude.{ℕ, zero, suc, ◌/◌, ◌==◌, ◌||◌, Bool, false, if◌then◌else◌, List, [], ◌∷◌, ◌++◌, take, drop, codes, Option, Some, None, slice_get}
use Rattle.std.specs.List.{flat_map}
use Rattle.std.specs.Fmt.{decimal}
use Rattle.notation.specs.declared.form.Form.{Form}
use Rattle.command_base.specs.answer_text.OnLine.{on_line}
use Rattle.command_base.specs.overlay_map.Layer.{LayerOf}
use Rattle.command_base.specs.cert_tree.Certificate.{NodeOf, GoalOf}
use Rattle.resource_tool.specs.declared.show.path_end.LastAnswer.{LastAnswer}
use Rattle.resource_tool.specs.declared.show.path_end.LastAnswer.TheVariants.{Nothing, Yes, No}
use Rattle.resource_tool.specs.TreeLines.{LineOf, NodeAt, Unreached, Missing, tree_lines}
use Rattle.resource_tool.specs.TreeText.{node_label, goal_head}

-- ---- labels

-- Between quotation marks a `\` stands before each `"` and each `\`. A `&` could begin a name of a character, as `&lt;`, and
-- is written by its own.
unfoldable pub escaped : ℕ → List ℕ
escaped byte =
    if byte == 34 || byte == 92 then 92 ∷ byte ∷ []
    else if byte == 38 then codes "&amp;"
    else byte ∷ []

-- a byte of a character behind its first
abbrev pub is_inside : Option ℕ → Bool
is_inside None = false
is_inside (Some byte) = byte / 64 == 2

-- the last place up to one that is not inside a character
unfoldable pub character_end : List ℕ → ℕ → ℕ
character_end text zero = 0
character_end text (suc n) = if is_inside (slice_get text (suc n)) then character_end text n else suc n

-- two dots where something is cut off
abbrev pub dots_for : List ℕ → List ℕ
dots_for [] = []
dots_for (byte ∷ bytes) = codes ".."

-- A label stands between quotation marks. Graphviz reads no longer texts than 16,384 bytes: of a label at most 2,000 bytes are shown, in whole characters, before some are
-- written by several.
unfoldable pub cut_label : List ℕ → List ℕ
cut_label text = let n = character_end text 2000 in flat_map escaped (take n text) ++ dots_for (drop n text)

unfoldable pub unreached_label : Form → List LayerOf → NodeOf → List ℕ
unreached_label form stack node = codes "not reached: " ++ node_label form stack node

-- what is shown of a line
unfoldable pub line_label : Form → List LayerOf → LineOf → List ℕ
line_label form stack (NodeAt number path node) = node_label form stack node
line_label form stack (Unreached number node) = unreached_label form stack node
line_label form stack (Missing path) = codes "ends early"

-- ---- names

-- `nTEST`, the test's name, and the answer
unfoldable pub missing_name : LastAnswer → List ℕ
missing_name Nothing = codes "n0"
missing_name (Yes test) = codes "n" ++ decimal test ++ codes "yes"
missing_name (No test) = codes "n" ++ decimal test ++ codes "no"

-- `nNUMBER`, by the number of the node; where the list ends early, a name of its own
unfoldable pub line_name : LineOf → List ℕ
line_name (NodeAt number path node) = codes "n" ++ decimal number
line_name (Unreached number node) = codes "n" ++ decimal number
line_name (Missing path) = missing_name path.last

-- ---- statements

-- from a test to what stands behind one of its answers
unfoldable pub labeled_arrow : ℕ → List ℕ → List ℕ → List ℕ
labeled_arrow test answer name = codes "  n" ++ decimal test ++ codes " -> " ++ name ++ codes " [label=" ++ answer ++ codes "];" ++ 10 ∷ []

unfoldable pub arrow_to : LastAnswer → List ℕ → List ℕ
arrow_to Nothing name = []
arrow_to (Yes test) name = labeled_arrow test (codes "yes") name
arrow_to (No test) name = labeled_arrow test (codes "no") name

-- no arrow leads to a node behind the tree's end
unfoldable pub arrow_text : LineOf → List ℕ
arrow_text (NodeAt number path node) = arrow_to path.last (line_name (NodeAt number path node))
arrow_text (Unreached number node) = []
arrow_text (Missing path) = arrow_to path.last (line_name (Missing path))

-- a line of a tree with this label, and the arrow to it
unfoldable pub statements_with : List ℕ → LineOf → List ℕ
statements_with label line = codes "  " ++ line_name line ++ codes " [label=\"" ++ cut_label label ++ (codes "\"];" ++ 10 ∷ []) ++ arrow_text line

abbrev pub statements_text : Form → List LayerOf → LineOf → List ℕ
statements_text form stack line = statements_with (on_line (line_label form stack line)) line

-- what stands before the lines of a tree; the picture's own label is its goal
unfoldable pub head_with : List ℕ → List ℕ
head_with label = (codes "digraph {" ++ 10 ∷ codes "  label=\"") ++ cut_label label ++ (codes "\";" ++ 10 ∷ codes "  node [shape=box];" ++ 10 ∷ [])

unfoldable pub dot_text : Form → List LayerOf → ℕ → GoalOf → List ℕ
dot_text form stack number goal = head_with (on_line (goal_head stack number goal.goal)) ++ flat_map (statements_text form stack) (tree_lines goal.nodes) ++ codes "}" ++ 10 ∷ []

-- the line `no goal N`
unfoldable pub no_goal_line : ℕ → List ℕ
no_goal_line number = codes "no goal " ++ decimal number ++ 10 ∷ []
