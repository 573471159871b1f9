-- A tree that grows until no box is open, or it is too large.
use Rattle.std.proofs.Common.{◌≡◌, ℕ, ◌+◌, ◌<◌, inl, inr, arith, true, false, List, [], ◌∷◌, ◌++◌, append_assoc, length, length-append, reverse, sym, ◌∙◌, refl, subst}
use Rattle.config_box.specs.box_answers.NumberSet.{SetOf}
use Rattle.config_box.specs.box_answers.Members.{IsBox}
use Rattle.cert_maker.specs.cert_tree.Certificate.{NodeOf, TestAt, ValueAt, BagAt}
use Rattle.cert_maker.specs.cert_checker.Paths.{Path, after, root}
use Rattle.cert_maker.specs.cert_checker.OpenBoxes.{IsBoxAt, Stand}
use Rattle.cert_maker.specs.Needed.{IsNeeded, IsNeededAt}
use Rattle.cert_maker.proofs.cert_checker.BoxSteps.{whole, half, popped, pushed}
use Rattle.cert_maker.proofs.Parts.{Part, part-more, part-walk, walk-map, part-map, leaves, length-leaves, part-leaves, stand-length}
use Rattle.std.proofs.lemmas.List.{length-reverse}
use Rattle.cert_maker.proofs.Steps.{moved}
use Rattle.stack_diff.specs.Parting.{PartsAt, IsParting}
use Rattle.stack_diff.specs.AddedNode.{AddsNode}

module _ {X : Type 0} (trace : List ℕ → X) (sets : List SetOf) where
  abbrev holds : NodeOf → Path → Type 0
  holds = PartsAt trace sets

  abbrev bare : NodeOf
  bare = BagAt (record { 0 = 0 })

  -- the nodes so far are the first of a tree, and the open boxes stand for what is left
  pub record Going (boxes : List (List SetOf)) (nodes : ℕ) : Type 0 where
    pub tree : List NodeOf
    pub count : length tree ≡ nodes
    pub paths : List Path
    pub part : Part holds tree root paths
    pub stand : Stand sets (reverse boxes) paths

  pub started : (boxes : List (List SetOf)) → IsBox sets → boxes ≡ sets ∷ [] → Going boxes 0
  started boxes b e = record {
    tree = [];
    count = refl;
    paths = root;
    part = refl;
    stand = subst (λ (parts : List (List SetOf)). Stand sets (reverse parts) root) (sym e) (whole sets b, tt);
  }

  added : (new : List (List SetOf)) (n : ℕ) (tree : List NodeOf) (path : Path) (paths : List Path) (node : NodeOf) → length tree ≡ n → Part holds tree root (path ∷ paths) → holds node path
      → Stand sets (reverse new) (after node path paths) → Going new (n + 1)
  added new n tree path paths node count part here stand =
      let long = length-append tree (node ∷ []) in
      record { tree = tree ++ node ∷ []; count = omega (arith, long, count); paths = after node path paths; part = part-more holds tree root path paths node part here; stand = stand }

  step : (rest new : List (List SetOf)) (part : List SetOf) (n : ℕ) (tree : List NodeOf) (paths : List Path) → length tree ≡ n → Part holds tree root paths → Stand sets (part ∷ reverse rest) paths
      → AddsNode trace part rest new → Going new (n + 1)
  step rest new part n tree [] count h stand adds = absurd stand
  step rest new part n tree (path ∷ paths) count h stand (inl test) =
      let yes = half sets part test.yes_half path test.test true stand.0 test.yes_members in
      let no = half sets part test.no_half path test.test false stand.0 test.no_members in
      let turned = pushed rest (rest ++ test.no_half ∷ []) new test.yes_half test.no_half refl (test.opened ∙ sym (append_assoc rest (test.no_half ∷ []) (test.yes_half ∷ []))) in
      added new n tree path paths (TestAt test.test) count h (moved trace sets part path test.test stand.0 test.needed)
      (subst (λ (parts : List (List SetOf)). Stand sets parts (after (TestAt test.test) path paths)) (sym turned) (yes, (no, stand.1)))
  step rest new part n tree (path ∷ paths) count h stand (inr leaf) =
      let at = stand.0 in
      added new n tree path paths bare count h (λ d e m k. leaf.1 d e ((at.members d).1 m) ((at.members e).1 k))
      (subst (λ (parts : List (List SetOf)). Stand sets (reverse parts) paths) (sym leaf.0) stand.1)

  -- the last box is taken, and a node added
  pub goes-on : (before rest new : List (List SetOf)) (part : List SetOf) (n : ℕ) → before ≡ rest ++ part ∷ [] → Going before n → AddsNode trace part rest new → Going new (n + 1)
  goes-on before rest new part n e going adds =
      step rest new part n going.tree going.paths going.count going.part (popped sets part before rest going.paths e going.stand) adds

  first-of : (rest : List (List SetOf)) (part : List SetOf) (paths : List Path) → Stand sets (part ∷ rest) paths → (path : Path) × IsBoxAt sets path part
  first-of rest part [] stand = absurd stand
  first-of rest part (path ∷ paths) stand = (path, stand.0)

  -- the last box is that of a path
  pub last-at : (before rest : List (List SetOf)) (part : List SetOf) (n : ℕ) → before ≡ rest ++ part ∷ [] → Going before n → (path : Path) × IsBoxAt sets path part
  last-at before rest part n e going = first-of (reverse rest) part going.paths (popped sets part before rest going.paths e going.stand)

  no-paths : (paths : List Path) → Stand sets [] paths → paths ≡ []
  no-paths [] stand = refl
  no-paths (path ∷ paths) stand = absurd stand

  -- no box is open
  pub done : (boxes : List (List SetOf)) (n : ℕ) → boxes ≡ [] → Going boxes n → (nodes : List NodeOf) × IsParting trace sets nodes × (length nodes ≡ n)
  done boxes n e going =
      let none = no-paths going.paths (subst (λ (parts : List (List SetOf)). Stand sets (reverse parts) going.paths) e going.stand) in
      (going.tree, part-walk holds going.tree root (subst (λ (ps : List Path). Part holds going.tree root ps) none going.part), going.count)

  needed-at : (node : NodeOf) (path : Path) → holds node path → IsNeededAt trace sets node path
  needed-at (TestAt test) path h = h
  needed-at (ValueAt layer value) path h = tt
  needed-at (BagAt id) path h = tt

  pub parting-needed : (nodes : List NodeOf) → IsParting trace sets nodes → IsNeeded trace sets nodes
  parting-needed nodes tree = walk-map holds (IsNeededAt trace sets) needed-at nodes root tree

  -- with a bare leaf at each open path it is a tree of needed tests
  pub too-large : (boxes : List (List SetOf)) (n most : ℕ) → most < n + length boxes → Going boxes n → (nodes : List NodeOf) × IsNeeded trace sets nodes × (most < length nodes)
  too-large boxes n most more going =
      let left = leaves (length going.paths) in
      let a = length-append going.tree left in
      let b = length-leaves (length going.paths) in
      let c = stand-length sets (reverse boxes) going.paths going.stand in
      let d = length-reverse boxes in
      let count = going.count in
      (going.tree ++ left, part-leaves (IsNeededAt trace sets) (λ path. tt) going.tree root going.paths (part-map holds (IsNeededAt trace sets) needed-at going.tree root going.paths going.part), omega (arith, a, b, c, d, count, more))
