-- What is told of one label. (Cited by contracts of this crate alone.)
use Rattle.std.specs.Prelude.{◌≡◌, ℕ, ◌<◌, ◌≤◌, List, map, Option, Some, None}
use Rattle.std.specs.BTreeMap.{BTreeMap, get}
use Rattle.std.specs.Ordering.{nat_cmp, ordering_then}
use Rattle.std.specs.declared.cmp.Ordering.{Ordering}
use Rattle.resource_text.specs.declared.line_form.LineForm.{LineForm}
use Rattle.stack_diff.specs.config_box.box_answers.NumberSet.{SetOf}
use Rattle.stack_diff.specs.names.declared.pair.Sides.{Sides}
use Rattle.stack_diff.specs.names.declared.pair.Sides.TheVariants.{Both}
use Rattle.stack_diff.specs.Stacks.{StacksOf}
use Rattle.resource_tool.specs.declared.told.Told.{Told}
use Rattle.resource_tool.specs.declared.told.Told.TheVariants.{Removed, Added, Same, Changed}
use Rattle.resource_tool.specs.declared.judged.Judged.{Judged}
use Rattle.resource_tool.specs.Telling.{ToldOf, RemovedTold, AddedTold, SameTold, ChangedTold, IsTold, HasTreeOf}

-- how contracts see what is told: by the blocks, not their addresses
abbrev pub told_of : Told → ToldOf
told_of Removed = RemovedTold
told_of Added = AddedTold
told_of Same = SameTold
told_of (Changed blocks) = ChangedTold (map (λ block. block.items) blocks.value.items)

-- it is right, and a tree has so many nodes
pub record IsRight (form : LineForm) (stacks : StacksOf) (sets : List SetOf) (sides : Sides) (judged : Judged) : Type 0 where
  pub told : IsTold form stacks sets sides (told_of judged.told)
  pub tree : HasTreeOf stacks sets sides (λ nodes. nodes ≡ judged.nodes)

-- within the limit; or there is a tree above it
abbrev pub IsJudged : LineForm → StacksOf → List SetOf → Sides → ℕ → Option Judged → Type 0
IsJudged form stacks sets sides most (Some judged) = IsRight form stacks sets sides judged × (judged.nodes ≤ most)
IsJudged form stacks sets sides most None = HasTreeOf stacks sets sides (λ nodes. most < nodes)

-- ---- what was judged

abbrev pub ids_cmp : ℕ × ℕ → ℕ × ℕ → Ordering
ids_cmp a b = ordering_then (nat_cmp a.0 b.0) (nat_cmp a.1 b.1)

-- what was kept of two ids is right for them
abbrev pub IsKept : LineForm → StacksOf → List SetOf → BTreeMap (ℕ × ℕ) Judged → Type 0
IsKept form stacks sets kept =
    (ids : ℕ × ℕ) (judged : Judged) → get ids_cmp kept ids ≡ Some judged → IsRight form stacks sets (Both (record { 0 = ids.0 }) (record { 0 = ids.1 })) judged
