-- The nodes of trees, counted against the runs at their open paths.
use Rattle.std.proofs.Common.{ℕ, ◌+◌, ◌*◌, ◌≤◌, arith, List, [], ◌∷◌, length, true, false}
use Rattle.cert_checker.specs.reference_resolver.Trace.{Trace}
use Rattle.cert_checker.specs.config_box.Tests.{TestOf}
use Rattle.cert_checker.specs.cert_tree.Certificate.{NodeOf, TestAt, ValueAt, BagAt}
use Rattle.cert_checker.specs.Paths.{Path}
use Rattle.cert_maker.specs.Walk.{Walk}
use Rattle.cert_maker.proofs.Lines.{Kept, at_path, spread, half}

-- the runs at all open paths
abbrev pub total : (ℕ → Trace) → Kept → List Path → ℕ
total t k [] = 0
total t k (path ∷ paths) = spread t (at_path k path) + total t k paths

-- each open path is as `stands` says
abbrev pub Each : (Path → Type 0) → List Path → Type 0
Each stands [] = Unit {0}
Each stands (path ∷ paths) = stands path × Each stands paths

abbrev pub IsLeaf : NodeOf → Type 0
IsLeaf (TestAt test) = ⊥
IsLeaf (ValueAt layer value) = Unit {0}
IsLeaf (BagAt id) = Unit {0}

abbrev pub runs_behind : (ℕ → Trace) → Kept → TestOf → Path → ℕ
runs_behind t k test path = spread t (half (at_path k path) test true) + spread t (half (at_path k path) test false)

-- behind a test as `holds` says there are no more runs than before; at a leaf there is one
pub record Shrinks (t : ℕ → Trace) (k : Kept) (stands : Path → Type 0) (holds : NodeOf → Path → Type 0) : Type 0 where
  pub test : (test : TestOf) (path : Path) → stands path → holds (TestAt test) path
      → stands ((test, true) ∷ path) × stands ((test, false) ∷ path) × (runs_behind t k test path ≤ spread t (at_path k path))
  pub leaf : (node : NodeOf) (path : Path) → IsLeaf node → stands path → holds node path → 1 ≤ spread t (at_path k path)

pub at-most : (t : ℕ → Trace) (k : Kept) (stands : Path → Type 0) (holds : NodeOf → Path → Type 0) → Shrinks t k stands holds
    → (nodes : List NodeOf) (paths : List Path) → Each stands paths → Walk holds nodes paths → length nodes + length paths ≤ 2 * total t k paths
at-most t k stands holds f [] [] s w = omega arith
at-most t k stands holds f [] (path ∷ paths) s w = absurd w
at-most t k stands holds f (node ∷ nodes) [] s w = absurd w
at-most t k stands holds f (TestAt test ∷ nodes) (path ∷ paths) s w =
    let h = f.test test path s.0 w.0 in
    let r = at-most t k stands holds f nodes (((test, true) ∷ path) ∷ ((test, false) ∷ path) ∷ paths) (h.0, (h.1, s.1)) w.1 in
    omega (arith, h.2, r)
at-most t k stands holds f (ValueAt layer value ∷ nodes) (path ∷ paths) s w =
    let h = f.leaf (ValueAt layer value) path tt s.0 w.0 in
    let r = at-most t k stands holds f nodes paths s.1 w.1 in
    omega (arith, h, r)
at-most t k stands holds f (BagAt id ∷ nodes) (path ∷ paths) s w =
    let h = f.leaf (BagAt id) path tt s.0 w.0 in
    let r = at-most t k stands holds f nodes paths s.1 w.1 in
    omega (arith, h, r)

-- behind a test as `holds` says there are no fewer runs than before; at a leaf there is none but one
pub record Grows (t : ℕ → Trace) (k : Kept) (stands : Path → Type 0) (holds : NodeOf → Path → Type 0) : Type 0 where
  pub test : (test : TestOf) (path : Path) → stands path → holds (TestAt test) path
      → stands ((test, true) ∷ path) × stands ((test, false) ∷ path) × (spread t (at_path k path) ≤ runs_behind t k test path)
  pub leaf : (node : NodeOf) (path : Path) → IsLeaf node → stands path → holds node path → spread t (at_path k path) ≤ 1

pub at-least : (t : ℕ → Trace) (k : Kept) (stands : Path → Type 0) (holds : NodeOf → Path → Type 0) → Grows t k stands holds
    → (nodes : List NodeOf) (paths : List Path) → Each stands paths → Walk holds nodes paths → 2 * total t k paths ≤ length nodes + length paths
at-least t k stands holds f [] [] s w = omega arith
at-least t k stands holds f [] (path ∷ paths) s w = absurd w
at-least t k stands holds f (node ∷ nodes) [] s w = absurd w
at-least t k stands holds f (TestAt test ∷ nodes) (path ∷ paths) s w =
    let h = f.test test path s.0 w.0 in
    let r = at-least t k stands holds f nodes (((test, true) ∷ path) ∷ ((test, false) ∷ path) ∷ paths) (h.0, (h.1, s.1)) w.1 in
    omega (arith, h.2, r)
at-least t k stands holds f (ValueAt layer value ∷ nodes) (path ∷ paths) s w =
    let h = f.leaf (ValueAt layer value) path tt s.0 w.0 in
    let r = at-least t k stands holds f nodes paths s.1 w.1 in
    omega (arith, h, r)
at-least t k stands holds f (BagAt id ∷ nodes) (path ∷ paths) s w =
    let h = f.leaf (BagAt id) path tt s.0 w.0 in
    let r = at-least t k stands holds f nodes paths s.1 w.1 in
    omega (arith, h, r)
