-- A walk along the nodes of a tree, each with the path that leads to it.
use Rattle.std.specs.Prelude.{List, [], ◌∷◌}
use Rattle.cert_checker.specs.cert_tree.Certificate.{NodeOf}
use Rattle.cert_checker.specs.Paths.{Path, after, root}

-- The nodes are whole trees for these open paths, one behind the other, and `holds` of each node and its path.
abbrev pub Walk : (NodeOf → Path → Type 0) → List NodeOf → List Path → Type 0
Walk holds [] [] = Unit {0}
Walk holds [] (path ∷ paths) = ⊥
Walk holds (node ∷ nodes) [] = ⊥
Walk holds (node ∷ nodes) (path ∷ paths) = holds node path × Walk holds nodes (after node path paths)

-- The nodes are one whole tree, and it holds of each node and its path.
abbrev pub HoldsOfTree : (NodeOf → Path → Type 0) → List NodeOf → Type 0
HoldsOfTree holds nodes = Walk holds nodes root
