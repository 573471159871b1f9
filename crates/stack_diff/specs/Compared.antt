-- What a comparison of a resource in two stacks promises.
use Rattle.std.specs.Prelude.{◌≡◌, ℕ, ◌<◌, ◌≤◌, List, map, Option, Some, None}
use Rattle.cert_maker.specs.box_answers.NumberSet.{SetOf}
use Rattle.cert_maker.specs.res_value.declared.res_id.ResId.{ResId}
use Rattle.stack_diff.specs.declared.change.Compared.{Compared}
use Rattle.stack_diff.specs.Stacks.{StacksOf, differs}
use Rattle.stack_diff.specs.Changes.{change_of}
use Rattle.stack_diff.specs.Fewest.{AreToldShort}
use Rattle.stack_diff.specs.NeededTree.{HasTree}

-- all changes, in few boxes, and how many nodes a tree has that tells them, within the limit; or there is a tree above it
abbrev pub IsCompared : StacksOf → ResId → ResId → List SetOf → ℕ → Option Compared → Type 0
IsCompared stacks old new sets most (Some compared) =
    AreToldShort (differs stacks old new) sets (map change_of compared.changes.items) × HasTree stacks old new sets (λ nodes. nodes ≡ compared.nodes) × (compared.nodes ≤ most)
IsCompared stacks old new sets most None = HasTree stacks old new sets (λ nodes. most < nodes)
