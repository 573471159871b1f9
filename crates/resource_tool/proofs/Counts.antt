-- What is told of labels, label by label.
use Rattle.std.proofs.Common.{◌≡◌, ℕ, Bool, true, false, ◌+◌, ◌-◌, ◌<◌, ◌≤◌, arith, List, [], ◌∷◌, ◌++◌, map, take, drop, length, get_or, sym, ◌∙◌, ap, refl, subst}
use Rattle.std.specs.List.{AllZip, sum}
use Rattle.std.proofs.lemmas.List.{map-append, take_more, drop_more, take-append-drop}
use Rattle.std.proofs.lemmas.List.Sums.{sum_by-append, sum_by-cons}
use Rattle.stack_diff.specs.cert_checker.reference_resolver.Trace.{Trace}
use Rattle.stack_diff.specs.config_box.box_answers.NumberSet.{SetOf}
use Rattle.stack_diff.specs.cert_maker.cert_tree.Certificate.{BagAt}
use Rattle.stack_diff.specs.names.Pairs.{PairOf, pair_of}
use Rattle.stack_diff.specs.names.declared.pair.NamePair.{NamePair}
use Rattle.stack_diff.specs.names.declared.pair.Sides.{Sides}
use Rattle.stack_diff.specs.names.declared.pair.Sides.TheVariants as of_sides
use Rattle.stack_diff.specs.NeededTree.{HasNeededTree, HasTreeFor}
use Rattle.stack_diff.specs.Stacks.{StacksOf, is_itself, traces}
use Rattle.resource_tool.specs.Telling.{HasTreeOf, HaveTrees}

-- ---- lists side by side

pub zip-push : {A B : Type 0} (R : A → B → Type 0) (xs : List A) (ys : List B) (x : A) (y : B) → AllZip R xs ys → R x y → AllZip R (xs ++ x ∷ []) (ys ++ y ∷ [])
zip-push R [] [] x y h r = (r, tt)
zip-push R [] (b ∷ ys) x y h r = absurd h
zip-push R (a ∷ xs) [] x y h r = absurd h
zip-push R (a ∷ xs) (b ∷ ys) x y h r = (h.0, zip-push R xs ys x y h.1 r)

pub zip-append : {A B : Type 0} (R : A → B → Type 0) (xs others : List A) (ys more : List B) → AllZip R xs ys → AllZip R others more → AllZip R (xs ++ others) (ys ++ more)
zip-append R [] others [] more h r = r
zip-append R [] others (b ∷ ys) more h r = absurd h
zip-append R (a ∷ xs) others [] more h r = absurd h
zip-append R (a ∷ xs) others (b ∷ ys) more h r = (h.0, zip-append R xs others ys more h.1 r)

-- ---- trees

-- a leaf alone is a tree that needs no test
pub leaf-alone : (traces : List ℕ → Trace × Trace) (sets : List SetOf) (says : ℕ → Type 0) → says 1 → HasNeededTree traces sets says
leaf-alone traces sets says one = (BagAt (record { 0 = 0 }) ∷ [], (tt, tt), one)

-- a tree of one node is that of a resource beside itself, and of any other
pub one-leaf : (itself : Bool) (traces : List ℕ → Trace × Trace) (sets : List SetOf) (says : ℕ → Type 0) → says 1 → HasTreeFor itself traces sets says
one-leaf true traces sets says one = one
one-leaf false traces sets says one = leaf-alone traces sets says one

pub counted-for : (itself : Bool) (traces : List ℕ → Trace × Trace) (sets : List SetOf) (says : ℕ → Type 0) → HasTreeFor itself traces sets says
    → (count : ℕ) × HasTreeFor itself traces sets (λ nodes. nodes ≡ count) × says count
counted-for true traces sets says h = (1, refl, h)
counted-for false traces sets says h = (length h.0, (h.0, h.1, refl), h.2)

for-turned : (itself : Bool) (traces : List ℕ → Trace × Trace) (sets : List SetOf) (says others : ℕ → Type 0) → ((nodes : ℕ) → says nodes → others nodes) → HasTreeFor itself traces sets says → HasTreeFor itself traces sets others
for-turned true traces sets says others turn h = turn 1 h
for-turned false traces sets says others turn h = (h.0, h.1, turn (length h.0) h.2)

module _ (stacks : StacksOf) (sets : List SetOf) where
  -- what is said of the nodes follows from what was said
  pub tree-turned : (sides : Sides) (says others : ℕ → Type 0) → ((nodes : ℕ) → says nodes → others nodes) → HasTreeOf stacks sets sides says → HasTreeOf stacks sets sides others
  tree-turned (of_sides.Removed id) says others turn h = turn 0 h
  tree-turned (of_sides.Added id) says others turn h = turn 0 h
  tree-turned (of_sides.Both old new) says others turn h = for-turned (is_itself stacks old new) (traces stacks old new) sets says others turn h

  abbrev Counts : PairOf → ℕ → Type 0
  Counts pair count = HasTreeOf stacks sets pair.sides (λ nodes. nodes ≡ count)

  pub some-tree : (sides : Sides) → (count : ℕ) × HasTreeOf stacks sets sides (λ nodes. nodes ≡ count)
  some-tree (of_sides.Removed id) = (0, refl)
  some-tree (of_sides.Added id) = (0, refl)
  some-tree (of_sides.Both before after) = (1, one-leaf (is_itself stacks before after) (traces stacks before after) sets (λ nodes. nodes ≡ 1) refl)

  pub some-trees : (pairs : List PairOf) → (counts : List ℕ) × AllZip Counts pairs counts
  some-trees [] = ([], tt)
  some-trees (pair ∷ pairs) =
      let here = some-tree pair.sides in
      let others = some-trees pairs in
      (here.0 ∷ others.0, (here.1, others.1))

  counted : (sides : Sides) (says : ℕ → Type 0) → HasTreeOf stacks sets sides says → (count : ℕ) × HasTreeOf stacks sets sides (λ nodes. nodes ≡ count) × says count
  counted (of_sides.Removed id) says h = (0, refl, h)
  counted (of_sides.Added id) says h = (0, refl, h)
  counted (of_sides.Both before after) says h = counted-for (is_itself stacks before after) (traces stacks before after) sets says h

  -- where the trees so far and one more are too many, they are so with those of all others
  pub above : (pairs done others : List PairOf) (pair : PairOf) (spare most : ℕ) → pairs ≡ done ++ pair ∷ others → HaveTrees stacks sets done (λ nodes. nodes + spare ≡ most)
      → HasTreeOf stacks sets pair.sides (λ nodes. spare < nodes) → HaveTrees stacks sets pairs (λ nodes. most < nodes)
  above pairs done others pair spare most e have more =
      let here = counted pair.sides (λ nodes. spare < nodes) more in
      let left = some-trees others in
      let all : sum (have.counts ++ here.0 ∷ left.0) ≡ sum have.counts + sum (here.0 ∷ left.0) = sum_by-append (λ (n : ℕ). n) have.counts (here.0 ∷ left.0) in
      let one : sum (here.0 ∷ left.0) ≡ here.0 + sum left.0 = sum_by-cons (λ (n : ℕ). n) here.0 left.0 in
      let in_all : sum have.counts + spare ≡ most = have.in_all in
      let beyond : spare < here.0 = here.2 in
      record {
        counts = have.counts ++ here.0 ∷ left.0;
        trees = subst (λ (ps : List PairOf). AllZip Counts ps (have.counts ++ here.0 ∷ left.0)) (sym e) (zip-append Counts done (pair ∷ others) have.counts (here.0 ∷ left.0) have.trees (here.1, left.1));
        in_all = omega (arith, all, one, in_all, beyond);
      }

  pub one-more : (pairs done : List PairOf) (pair : PairOf) (spare nodes most : ℕ) → pairs ≡ done ++ pair ∷ [] → HaveTrees stacks sets done (λ count. count + spare ≡ most)
      → HasTreeOf stacks sets pair.sides (λ count. count ≡ nodes) → nodes ≤ spare → HaveTrees stacks sets pairs (λ count. count + (spare - nodes) ≡ most)
  one-more pairs done pair spare nodes most e have tree few =
      let all : sum (have.counts ++ nodes ∷ []) ≡ sum have.counts + sum (nodes ∷ []) = sum_by-append (λ (n : ℕ). n) have.counts (nodes ∷ []) in
      let one : sum (nodes ∷ []) ≡ nodes + sum [] = sum_by-cons (λ (n : ℕ). n) nodes [] in
      let in_all : sum have.counts + spare ≡ most = have.in_all in
      record {
        counts = have.counts ++ nodes ∷ [];
        trees = subst (λ (ps : List PairOf). AllZip Counts ps (have.counts ++ nodes ∷ [])) (sym e) (zip-push Counts done have.counts pair nodes have.trees tree);
        in_all = omega (arith, all, one, in_all, few);
      }

  pub within : (pairs : List PairOf) (spare most : ℕ) → HaveTrees stacks sets pairs (λ count. count + spare ≡ most) → HaveTrees stacks sets pairs (λ count. count ≤ most)
  within pairs spare most have =
      let in_all : sum have.counts + spare ≡ most = have.in_all in
      record { counts = have.counts; trees = have.trees; in_all = omega (arith, in_all) }

-- ---- a loop over labels

-- those before one and that one
pub pairs-up-to : (pairs : List NamePair) (k : ℕ) (pair : NamePair) → k < length pairs → pair ≡ get_or pairs k pair → map pair_of (take (k + 1) pairs) ≡ map pair_of (take k pairs) ++ pair_of pair ∷ []
pairs-up-to pairs k pair low is =
    ap (map pair_of) (take_more pairs k pair low ∙ ap (λ (p : NamePair). take k pairs ++ p ∷ []) (sym is)) ∙ map-append pair_of (take k pairs) (pair ∷ [])

-- and those behind it
pub pairs-around : (pairs : List NamePair) (k : ℕ) (pair : NamePair) → k < length pairs → pair ≡ get_or pairs k pair → map pair_of pairs ≡ map pair_of (take k pairs) ++ pair_of pair ∷ map pair_of (drop (k + 1) pairs)
pairs-around pairs k pair low is =
    ap (map pair_of) (sym (take-append-drop k pairs) ∙ ap (λ (ps : List NamePair). take k pairs ++ ps) (drop_more pairs k pair low) ∙ ap (λ (p : NamePair). take k pairs ++ p ∷ drop (k + 1) pairs) (sym is))
    ∙ map-append pair_of (take k pairs) (pair ∷ drop (k + 1) pairs)
