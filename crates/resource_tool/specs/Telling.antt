-- What becomes of labels in two stacks.
use Rattle.std.specs.Prelude.{◌≡◌, ℕ, Bool, ◌<◌, ◌≤◌, List, [], ◌∷◌, map, Option, Some, None}
use Rattle.std.specs.Cmp.Lexicographic.{slice_cmp}
use Rattle.std.specs.List.{AllZip, flat_map, sum}
use Rattle.std.specs.Ordering.{is_lt, nat_cmp}
use Rattle.resource_text.specs.declared.line_form.LineForm.{LineForm}
use Rattle.stack_diff.specs.config_box.box_answers.NumberSet.{SetOf}
use Rattle.stack_diff.specs.names.Packages.{PackageNameOf}
use Rattle.stack_diff.specs.names.Pairs.{PairOf}
use Rattle.stack_diff.specs.names.declared.pair.Sides.{Sides}
use Rattle.stack_diff.specs.names.declared.pair.Sides.TheVariants.{Removed, Added, Both}
use Rattle.answer_text.specs.InOrder.{in_order}
use Rattle.stack_diff.specs.Stacks.{StacksOf, differs}
use Rattle.stack_diff.specs.Changes.{ChangeOf}
use Rattle.stack_diff.specs.Fewest.{AreToldShort}
use Rattle.stack_diff.specs.NeededTree.{HasTree}
use Rattle.resource_text.specs.ChangeBlock.{change_block}

-- ---- what is told of a label, behind its name

-- that the old stack alone has it, or the new one alone; that it says the same in both; or the blocks of its changes, each of lines or a JSON object
pub data ToldOf : Type 0 where
  RemovedTold : ToldOf
  AddedTold : ToldOf
  SameTold : ToldOf
  ChangedTold : List (List ℕ) → ToldOf

-- a block for each change and each of its boxes
abbrev pub change_blocks : LineForm → List PackageNameOf → List SetOf → ChangeOf → List (List ℕ)
change_blocks form packages whole change = map (change_block form packages change.difference whole) change.boxes

-- byte by byte, and the shorter first where it begins the other
abbrev pub is_block_before : List ℕ → List ℕ → Bool
is_block_before block other = is_lt (slice_cmp nat_cmp block other)

-- those of all changes, in the order of their bytes
unfoldable pub blocks_of : LineForm → List PackageNameOf → List SetOf → List ChangeOf → List (List ℕ)
blocks_of form packages whole changes = in_order is_block_before (flat_map (change_blocks form packages whole) changes)

abbrev pub changes_told : LineForm → List PackageNameOf → List SetOf → List ChangeOf → ToldOf
changes_told form packages whole [] = SameTold
changes_told form packages whole (change ∷ changes) = ChangedTold (blocks_of form packages whole (change ∷ changes))

-- it is right, by what the label stands for: of both stacks all changes are told, in few boxes
abbrev pub IsTold : LineForm → StacksOf → List SetOf → Sides → ToldOf → Type 0
IsTold form stacks sets (Removed id) told = told ≡ RemovedTold
IsTold form stacks sets (Added id) told = told ≡ AddedTold
IsTold form stacks sets (Both old new) told = (changes : List ChangeOf) × AreToldShort (differs stacks old new) sets changes × (told ≡ changes_told form stacks.packages sets changes)

-- ---- the limit

-- where both stacks have the label, there is a tree with a number of nodes that this says; else none is needed
abbrev pub HasTreeOf : StacksOf → List SetOf → Sides → (ℕ → Type 0) → Type 0
HasTreeOf stacks sets (Removed id) says = says 0
HasTreeOf stacks sets (Added id) says = says 0
HasTreeOf stacks sets (Both old new) says = HasTree stacks old new sets says

-- trees for all labels, with a number of nodes in all that this says; a label is counted also where another one stands for
-- the same resources
pub record HaveTrees (stacks : StacksOf) (sets : List SetOf) (pairs : List PairOf) (says : ℕ → Type 0) : Type 0 where
  pub counts : List ℕ
  pub trees : AllZip (λ pair count. HasTreeOf stacks sets pair.sides (λ nodes. nodes ≡ count)) pairs counts
  pub in_all : says (sum counts)

-- ---- all labels

-- what is told of each is right, with trees within the limit; or there are such trees above it
abbrev pub AreTold : LineForm → StacksOf → List SetOf → List PairOf → ℕ → Option (List ToldOf) → Type 0
AreTold form stacks sets pairs most (Some told) = AllZip (λ pair one. IsTold form stacks sets pair.sides one) pairs told × HaveTrees stacks sets pairs (λ nodes. nodes ≤ most)
AreTold form stacks sets pairs most None = HaveTrees stacks sets pairs (λ nodes. most < nodes)
