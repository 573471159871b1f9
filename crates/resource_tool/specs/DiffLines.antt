-- What two stacks say differently, as lines.
use Rattle.std.specs.Prelude.{ℕ, ◌+◌, ◌==◌, Bool, true, false, nat_lt, List, [], ◌∷◌, ◌++◌, length, codes, if◌then◌else◌}
use Rattle.std.specs.Fmt.{decimal}
use Rattle.std.specs.List.{flat_map, count_by, zip}
use Rattle.command_base.specs.SetAside.{rows_set_aside}
use Rattle.stack_diff.specs.config_box.config_record.locales.declared.locale_rule.LocaleRule.{LocaleRule}
use Rattle.stack_diff.specs.names.Label.{LabelOf}
use Rattle.stack_diff.specs.names.LabelText.{label_text}
use Rattle.stack_diff.specs.names.Packages.{PackageNameOf}
use Rattle.stack_diff.specs.names.Pairs.{PairOf}
use Rattle.stack_diff.specs.names.Shared.{shared_ids}
use Rattle.stack_diff.specs.Stacks.{StacksOf}
use Rattle.resource_tool.specs.NameLines.{added_line, removed_line, same_line}
use Rattle.resource_tool.specs.Telling.{ToldOf, RemovedTold, AddedTold, SameTold, ChangedTold}

-- ---- a label

-- the label with these words before it, as `changed LABEL`, and a block behind it
unfoldable pub block_lines : List ℕ → List PackageNameOf → LabelOf → List ℕ → List ℕ
block_lines before packages label block = before ++ label_text packages label ++ block

-- the lines of a label, with these words before its blocks: none where it says the same in both stacks
unfoldable pub told_lines : List ℕ → List PackageNameOf → LabelOf → ToldOf → List ℕ
told_lines before packages label RemovedTold = removed_line packages label
told_lines before packages label AddedTold = added_line packages label
told_lines before packages label SameTold = []
told_lines before packages label (ChangedTold blocks) = flat_map (block_lines before packages label) blocks

-- the same of a pair, with what is told of its label
abbrev pub pair_lines : List ℕ → List PackageNameOf → PairOf × ToldOf → List ℕ
pair_lines before packages one = told_lines before packages one.0.label one.1

-- those of all labels, one label after the other
unfoldable pub label_lines : List ℕ → List PackageNameOf → List PairOf → List ToldOf → List ℕ
label_lines before packages pairs told = flat_map (pair_lines before packages) (zip pairs told)

-- ---- labels that say the same

abbrev pub says_same : ToldOf → Bool
says_same RemovedTold = false
says_same AddedTold = false
says_same SameTold = true
says_same (ChangedTold blocks) = false

-- how many labels do
abbrev pub same_count : List ToldOf → ℕ
same_count told = count_by says_same told

-- some label does not: fewer do than there are
abbrev pub some_differ : List ToldOf → Bool
some_differ told = nat_lt (same_count told) (length told)

-- ---- all lines

-- the line `WORDS OLD NEW`, where one of the two is not 0
unfoldable pub counts_line : List ℕ → ℕ → ℕ → List ℕ
counts_line words old new = if old + new == 0 then [] else words ++ codes " " ++ decimal old ++ codes " " ++ decimal new ++ 10 ∷ []

-- how many ids of either stack have a name that stands for another id, so that they are compared by themselves
unfoldable pub shared_names_line : StacksOf → List ℕ
shared_names_line stacks = counts_line (codes "warning shared-names") (length (shared_ids stacks.old)) (length (shared_ids stacks.new))

-- how many rows of either stack are set aside by this rule
unfoldable pub set_aside_line : LocaleRule → StacksOf → List ℕ
set_aside_line rule stacks = counts_line (codes "set-aside") (rows_set_aside rule stacks.old) (rows_set_aside rule stacks.new)

-- the lines of labels, then what holds of the stacks, and then how many labels say the same
unfoldable pub diff_lines : LocaleRule → StacksOf → List PairOf → List ToldOf → List ℕ
diff_lines rule stacks pairs told = label_lines (codes "changed ") stacks.packages pairs told ++ shared_names_line stacks ++ set_aside_line rule stacks ++ same_line (same_count told)
