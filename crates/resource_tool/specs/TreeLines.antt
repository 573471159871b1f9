-- The lines of a tree. The next node of the list stands at the end of the first path that is open.
use Rattle.std.specs.Prelude.{ℕ, ◌+◌, nat_lt, if◌then◌else◌, List, [], ◌∷◌, map}
use Rattle.command_base.specs.cert_tree.Certificate.{NodeOf, TestAt, ValueAt, BagAt}
use Rattle.resource_tool.specs.declared.show.path_end.PathEnd.{PathEnd}
use Rattle.resource_tool.specs.declared.show.path_end.LastAnswer.TheVariants.{Nothing, Yes, No}

-- so many answers yes indent a line
abbrev pub most_depth : ℕ
most_depth = 32

-- ---- the ends of paths

-- where the first node of a tree stands
abbrev pub start : PathEnd
start = record { last = Nothing; depth = 0 }

-- behind the answers of a test that stands there, at the node of this number
abbrev pub behind_yes : ℕ → PathEnd → PathEnd
behind_yes test path = record { last = Yes test; depth = if nat_lt path.depth most_depth then path.depth + 1 else most_depth }

abbrev pub behind_no : ℕ → PathEnd → PathEnd
behind_no test path = record { last = No test; depth = path.depth }

-- ---- lines

pub data LineOf : Type 0 where
  -- a node, by its number from 0, at the end of a path
  NodeAt : ℕ → PathEnd → NodeOf → LineOf
  -- a node behind the tree's end, where no path is open
  Unreached : ℕ → NodeOf → LineOf
  -- a path without a node, since the list ends early
  Missing : PathEnd → LineOf

-- the line of a node where these paths are open
abbrev pub line_at : ℕ → List PathEnd → NodeOf → LineOf
line_at number [] node = Unreached number node
line_at number (path ∷ paths) node = NodeAt number path node

-- The paths that are open behind it. A test opens two, first the one with yes, before the others.
abbrev pub open_behind : ℕ → List PathEnd → NodeOf → List PathEnd
open_behind number [] node = []
open_behind number (path ∷ paths) (TestAt test) = behind_yes number path ∷ behind_no number path ∷ paths
open_behind number (path ∷ paths) (ValueAt layer value) = paths
open_behind number (path ∷ paths) (BagAt id) = paths

-- the lines of nodes from a number on, where these paths are open
unfoldable pub lines_from : ℕ → List PathEnd → List NodeOf → List LineOf
lines_from number paths [] = map Missing paths
lines_from number paths (node ∷ nodes) = line_at number paths node ∷ lines_from (number + 1) (open_behind number paths node) nodes

abbrev pub tree_lines : List NodeOf → List LineOf
tree_lines nodes = lines_from 0 (start ∷ []) nodes
