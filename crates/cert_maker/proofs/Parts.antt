-- The first nodes of a tree, and how it is made whole.
use Rattle.std.proofs.Common.{◌≡◌, ℕ, zero, suc, arith, List, [], ◌∷◌, ◌++◌, length, sym, refl, subst}
use Rattle.std.specs.List.{All}
use Rattle.std.proofs.lemmas.List.Elements.{All-nil, All-cons}
use Rattle.cert_checker.specs.box_answers.NumberSet.{SetOf}
use Rattle.cert_checker.specs.cert_tree.Certificate.{NodeOf, BagAt}
use Rattle.cert_checker.specs.Paths.{Path, after}
use Rattle.cert_checker.specs.OpenBoxes.{Stand}
use Rattle.cert_maker.specs.Walk.{Walk}

-- the nodes are the first of trees for open paths, of which these are left, and each is as `holds` says
abbrev pub Part : (NodeOf → Path → Type 0) → List NodeOf → List Path → List Path → Type 0
Part holds [] paths left = paths ≡ left
Part holds (node ∷ nodes) [] left = ⊥
Part holds (node ∷ nodes) (path ∷ paths) left = holds node path × Part holds nodes (after node path paths) left

pub part-more : (holds : NodeOf → Path → Type 0) (nodes : List NodeOf) (paths : List Path) (path : Path) (left : List Path) (node : NodeOf) → Part holds nodes paths (path ∷ left) → holds node path
    → Part holds (nodes ++ node ∷ []) paths (after node path left)
part-more holds [] paths path left node h here = subst (λ (ps : List Path). Part holds (node ∷ []) ps (after node path left)) (sym h) (here, refl)
part-more holds (first ∷ nodes) [] path left node h here = absurd h
part-more holds (first ∷ nodes) (p ∷ paths) path left node h here = (h.0, part-more holds nodes (after first p paths) path left node h.1 here)

pub part-walk : (holds : NodeOf → Path → Type 0) (nodes : List NodeOf) (paths : List Path) → Part holds nodes paths [] → Walk holds nodes paths
part-walk holds [] paths h = subst (λ (ps : List Path). Walk holds [] ps) (sym h) tt
part-walk holds (node ∷ nodes) [] h = absurd h
part-walk holds (node ∷ nodes) (path ∷ paths) h = (h.0, part-walk holds nodes (after node path paths) h.1)

pub walk-map : (holds says : NodeOf → Path → Type 0) → ((node : NodeOf) (path : Path) → holds node path → says node path) → (nodes : List NodeOf) (paths : List Path) → Walk holds nodes paths → Walk says nodes paths
walk-map holds says f [] [] h = tt
walk-map holds says f [] (path ∷ paths) h = absurd h
walk-map holds says f (node ∷ nodes) [] h = absurd h
walk-map holds says f (node ∷ nodes) (path ∷ paths) h = (f node path h.0, walk-map holds says f nodes (after node path paths) h.1)

pub part-map : (holds says : NodeOf → Path → Type 0) → ((node : NodeOf) (path : Path) → holds node path → says node path) → (nodes : List NodeOf) (paths left : List Path) → Part holds nodes paths left → Part says nodes paths left
part-map holds says f [] paths left h = h
part-map holds says f (node ∷ nodes) [] left h = absurd h
part-map holds says f (node ∷ nodes) (path ∷ paths) left h = (f node path h.0, part-map holds says f nodes (after node path paths) left h.1)

-- what holds of each node on its own
pub walk-all : (holds : NodeOf → Path → Type 0) (says : NodeOf → Type 0) → ((node : NodeOf) (path : Path) → holds node path → says node) → (nodes : List NodeOf) (paths : List Path) → Walk holds nodes paths → All says nodes
walk-all holds says f [] paths h = All-nil says
walk-all holds says f (node ∷ nodes) [] h = absurd h
walk-all holds says f (node ∷ nodes) (path ∷ paths) h = All-cons says node nodes (f node path h.0) (walk-all holds says f nodes (after node path paths) h.1)

-- ---- bare leaves

pub leaves : ℕ → List NodeOf
leaves zero = []
leaves (suc n) = BagAt (record { 0 = 0 }) ∷ leaves n

pub length-leaves : (n : ℕ) → length (leaves n) ≡ n
unfolding leaves
length-leaves zero = refl
length-leaves (suc n) = let h = length-leaves n in omega (arith, h)

walk-leaves : (holds : NodeOf → Path → Type 0) → ((path : Path) → holds (BagAt (record { 0 = 0 })) path) → (left : List Path) → Walk holds (leaves (length left)) left
unfolding leaves
walk-leaves holds f [] = tt
walk-leaves holds f (path ∷ left) = (f path, walk-leaves holds f left)

-- a tree that is not whole yet is made whole by a leaf at each open path
pub part-leaves : (holds : NodeOf → Path → Type 0) → ((path : Path) → holds (BagAt (record { 0 = 0 })) path) → (nodes : List NodeOf) (paths left : List Path) → Part holds nodes paths left
    → Walk holds (nodes ++ leaves (length left)) paths
part-leaves holds f [] paths left h = subst (λ (ps : List Path). Walk holds (leaves (length left)) ps) (sym h) (walk-leaves holds f left)
part-leaves holds f (node ∷ nodes) [] left h = absurd h
part-leaves holds f (node ∷ nodes) (path ∷ paths) left h = (h.0, part-leaves holds f nodes (after node path paths) left h.1)

pub stand-length : (sets : List SetOf) (boxes : List (List SetOf)) (paths : List Path) → Stand sets boxes paths → length boxes ≡ length paths
stand-length sets [] [] h = refl
stand-length sets [] (path ∷ paths) h = absurd h
stand-length sets (part ∷ boxes) [] h = absurd h
stand-length sets (part ∷ boxes) (path ∷ paths) h = let r = stand-length sets boxes paths h.1 in omega (arith, r)
