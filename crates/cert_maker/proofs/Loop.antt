-- A tree that grows until no path is open, or it is too large.
use Rattle.std.proofs.Common.{◌≡◌, ℕ, ◌+◌, ◌<◌, arith, List, [], ◌∷◌, ◌++◌, length, length-append, reverse, sym, ap, refl, subst}
use Rattle.std.specs.List.{All}
use Rattle.std.proofs.lemmas.List.{length-reverse}
use Rattle.cert_checker.specs.reference_resolver.Trace.{Trace}
use Rattle.cert_checker.specs.box_answers.NumberSet.{SetOf}
use Rattle.cert_checker.specs.box_answers.Members.{IsMember, IsBox}
use Rattle.cert_checker.specs.cert_tree.Certificate.{NodeOf}
use Rattle.cert_checker.specs.Paths.{Path, after, root}
use Rattle.cert_checker.specs.Fails.{NoRuleFails}
use Rattle.cert_checker.specs.OpenBoxes.{Stand}
use Rattle.cert_checker.proofs.BoxSteps.{whole, popped}
use Rattle.cert_maker.specs.FitsBox.{FitsBox}
use Rattle.cert_maker.specs.Walk.{Walk}
use Rattle.cert_maker.specs.Needed.{IsNeeded, IsNeededAt}
use Rattle.cert_maker.proofs.Passing.{Passes, walk-passes}
use Rattle.cert_maker.specs.Growth.{IsGood, Grows}
use Rattle.cert_maker.proofs.Parts.{Part, part-more, part-walk, walk-map, walk-all, part-map, leaves, length-leaves, part-leaves, stand-length}

-- the nodes so far are the first of a tree, and the open paths have these boxes
pub record Going (trace : List ℕ → Trace) (sets : List SetOf) (nodes : List NodeOf) (boxes : List (List SetOf)) : Type 0 where
  pub paths : List Path
  pub part : Part (IsGood trace sets) nodes root paths
  pub stand : Stand sets boxes paths

pub started : (trace : List ℕ → Trace) (sets : List SetOf) (nodes : List NodeOf) (boxes : List (List SetOf)) → IsBox sets → nodes ≡ [] → boxes ≡ sets ∷ [] → Going trace sets nodes (reverse boxes)
started trace sets nodes boxes b e f =
    record {
      paths = root;
      part = subst (λ (ns : List NodeOf). Part (IsGood trace sets) ns root root) (sym e) refl;
      stand = subst (λ (parts : List (List SetOf)). Stand sets (reverse parts) root) (sym f) (whole sets b, tt);
    }

step : (trace : List ℕ → Trace) (sets part : List SetOf) (old new : List NodeOf) (rest last : List (List SetOf)) (paths : List Path) → Part (IsGood trace sets) old root paths → Stand sets (part ∷ reverse rest) paths
    → Grows trace part old new rest last → Going trace sets new (reverse last)
step trace sets part old new rest last [] h stand grows = absurd stand
step trace sets part old new rest last (path ∷ paths) h stand grows =
    let n = grows sets path paths stand.0 stand.1 in
    record {
      paths = after n.node path paths;
      part = subst (λ (ns : List NodeOf). Part (IsGood trace sets) ns root (after n.node path paths)) (sym n.added) (part-more (IsGood trace sets) old root path paths n.node h n.good);
      stand = n.stand;
    }

-- the last box is taken, and a node added
pub goes-on : (trace : List ℕ → Trace) (sets part : List SetOf) (old new : List NodeOf) (before rest last : List (List SetOf)) → before ≡ rest ++ part ∷ [] → Going trace sets old (reverse before)
    → Grows trace part old new rest last → Going trace sets new (reverse last)
goes-on trace sets part old new before rest last e going grows =
    step trace sets part old new rest last going.paths going.part (popped sets part before rest going.paths e going.stand) grows

-- no path is open
done-walk : (trace : List ℕ → Trace) (sets : List SetOf) (nodes : List NodeOf) (paths : List Path) → Part (IsGood trace sets) nodes root paths → Stand sets [] paths → Walk (IsGood trace sets) nodes root
done-walk trace sets nodes [] part stand = part-walk (IsGood trace sets) nodes root part
done-walk trace sets nodes (path ∷ paths) part stand = absurd stand

done : (trace : List ℕ → Trace) (sets : List SetOf) (nodes : List NodeOf) (boxes : List (List SetOf)) → boxes ≡ [] → Going trace sets nodes (reverse boxes) → Walk (IsGood trace sets) nodes root
done trace sets nodes boxes e going =
    done-walk trace sets nodes going.paths going.part (subst (λ (parts : List (List SetOf)). Stand sets parts going.paths) (ap reverse e) going.stand)

pub done-passes : (trace : List ℕ → Trace) (sets : List SetOf) (nodes : List NodeOf) (boxes : List (List SetOf)) → boxes ≡ [] → Going trace sets nodes (reverse boxes) → NoRuleFails trace sets nodes
done-passes trace sets nodes boxes e going =
    walk-passes trace sets nodes (walk-map (IsGood trace sets) (Passes trace sets) (λ node path g. g.passes) nodes root (done trace sets nodes boxes e going))

pub done-needed : (trace : List ℕ → Trace) (sets : List SetOf) (nodes : List NodeOf) (boxes : List (List SetOf)) → boxes ≡ [] → Going trace sets nodes (reverse boxes) → IsNeeded trace sets nodes
done-needed trace sets nodes boxes e going =
    walk-map (IsGood trace sets) (IsNeededAt trace sets) (λ node path g. g.needed) nodes root (done trace sets nodes boxes e going)

pub done-fits : (trace : List ℕ → Trace) (sets : List SetOf) (nodes : List NodeOf) (boxes : List (List SetOf)) → boxes ≡ [] → Going trace sets nodes (reverse boxes) → All (FitsBox sets) nodes
done-fits trace sets nodes boxes e going = walk-all (IsGood trace sets) (FitsBox sets) (λ node path g. g.fits) nodes root (done trace sets nodes boxes e going)

-- with a bare leaf at each open path it is a tree of needed tests
pub too-large : (trace : List ℕ → Trace) (sets : List SetOf) (nodes : List NodeOf) (boxes : List (List SetOf)) (most : ℕ) → Going trace sets nodes (reverse boxes) → most < length nodes + length boxes
    → (tree : List NodeOf) × IsNeeded trace sets tree × (most < length tree)
too-large trace sets nodes boxes most going more =
    let left = length going.paths in
    let a = length-append nodes (leaves left) in
    let b = length-leaves left in
    let c = stand-length sets (reverse boxes) going.paths going.stand in
    let d = length-reverse boxes in
    let needed : Part (IsNeededAt trace sets) nodes root going.paths = part-map (IsGood trace sets) (IsNeededAt trace sets) (λ node path g. g.needed) nodes root going.paths going.part in
    (nodes ++ leaves left, part-leaves (IsNeededAt trace sets) (λ path. tt) nodes root going.paths needed, omega (arith, a, b, c, d))

in-whole : (sets part : List SetOf) (boxes : List (List SetOf)) (paths : List Path) (d : List ℕ) → Stand sets (part ∷ boxes) paths → IsMember part d → IsMember sets d
in-whole sets part boxes [] d stand m = absurd stand
in-whole sets part boxes (path ∷ paths) d stand m = ((stand.0.members d).0 m).0

-- a member of an open box is one of the whole
pub member-of-whole : (trace : List ℕ → Trace) (sets part : List SetOf) (nodes : List NodeOf) (before rest : List (List SetOf)) (d : List ℕ) → before ≡ rest ++ part ∷ [] → Going trace sets nodes (reverse before)
    → IsMember part d → IsMember sets d
member-of-whole trace sets part nodes before rest d e going m = in-whole sets part (reverse rest) going.paths d (popped sets part before rest going.paths e going.stand) m
