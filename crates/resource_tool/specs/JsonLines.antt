-- What is told of two stacks, or of one, as lines of JSON.
use Rattle.std.specs.Prelude.{ℕ, ◌+◌, ◌==◌, List, [], ◌∷◌, ◌++◌, codes, length, map, if◌then◌else◌}
use Rattle.std.specs.Fmt.{decimal}
use Rattle.std.specs.List.{flat_map, zip}
use Rattle.command_base.specs.SetAside.{rows_set_aside}
use Rattle.serde_json.specs.Written.{compact_text}
use Rattle.stack_diff.specs.config_box.config_record.locales.declared.locale_rule.LocaleRule.{LocaleRule}
use Rattle.stack_diff.specs.names.Packages.{PackageNameOf}
use Rattle.stack_diff.specs.names.Pairs.{PairOf}
use Rattle.stack_diff.specs.names.Shared.{shared_ids}
use Rattle.stack_diff.specs.Stacks.{StacksOf}
use Rattle.resource_text.specs.ContentJson.{label_data}
use Rattle.resource_tool.specs.DiffLines.{same_count}
use Rattle.resource_tool.specs.Telling.{ToldOf, RemovedTold, AddedTold, SameTold, ChangedTold}

-- ---- names

-- the JSON of a label
abbrev pub name_json : List PackageNameOf → PairOf → List ℕ
name_json packages pair = compact_text (label_data packages pair.label)

-- how the line of a name begins: `{"line":"KIND","name":`
abbrev pub begin_with : List ℕ → List ℕ
begin_with kind = codes "{\"line\":\"" ++ kind ++ codes "\",\"name\":"

-- `BEGIN NAME}`, where NAME is JSON
unfoldable pub name_line : List ℕ → List ℕ → List ℕ
name_line begin name = begin ++ name ++ (codes "}" ++ 10 ∷ [])

-- `BEGIN NAME,"says":SAID}`, where NAME and SAID are JSON
unfoldable pub said_line : List ℕ → List ℕ → List ℕ → List ℕ
said_line begin name said = begin ++ name ++ codes ",\"says\":" ++ said ++ (codes "}" ++ 10 ∷ [])

-- the lines of a name: `removed`, `added`, or one that begins so for each JSON of what it says; none where it says the same
unfoldable pub lines_of_name : List ℕ → List ℕ → ToldOf → List ℕ
lines_of_name begin name RemovedTold = name_line (begin_with (codes "removed")) name
lines_of_name begin name AddedTold = name_line (begin_with (codes "added")) name
lines_of_name begin name SameTold = []
lines_of_name begin name (ChangedTold blocks) = flat_map (said_line begin name) blocks

-- the same of a name, with what is told of it
abbrev pub lines_of_pair : List ℕ → List ℕ × ToldOf → List ℕ
lines_of_pair begin one = lines_of_name begin one.0 one.1

unfoldable pub lines_of_names : List ℕ → List (List ℕ) → List ToldOf → List ℕ
lines_of_names begin names told = flat_map (lines_of_pair begin) (zip names told)

-- ---- counts

-- `BEGIN NEW,"old":OLD}`, unless both are 0
unfoldable pub counts_json : List ℕ → ℕ → ℕ → List ℕ
counts_json begin old new = if old + new == 0 then [] else begin ++ decimal new ++ codes ",\"old\":" ++ decimal old ++ codes "}" ++ 10 ∷ []

-- `{"count":COUNT END`
unfoldable pub count_json : ℕ → List ℕ → List ℕ
count_json count end = codes "{\"count\":" ++ decimal count ++ end

-- the same, unless it is 0
unfoldable pub count_json_unless_0 : ℕ → List ℕ → List ℕ
count_json_unless_0 count end = if count == 0 then [] else count_json count end

-- how the line of a count ends: `,"line":"KIND"}`
abbrev pub end_with : List ℕ → List ℕ
end_with kind = codes ",\"line\":\"" ++ kind ++ codes "\"}" ++ 10 ∷ []

-- how that of the counts of two stacks begins: `{"line":"KIND","new":`
abbrev pub begin_counts : List ℕ → List ℕ
begin_counts kind = codes "{\"line\":\"" ++ kind ++ codes "\",\"new\":"

-- ---- all lines

-- of two stacks, as `diff` prints them
unfoldable pub diff_json : LocaleRule → StacksOf → List PairOf → List ToldOf → List ℕ
diff_json rule stacks pairs told =
    lines_of_names (begin_with (codes "changed")) (map (name_json stacks.packages) pairs) told
    ++ counts_json (begin_counts (codes "shared-names")) (length (shared_ids stacks.old)) (length (shared_ids stacks.new))
    ++ counts_json (begin_counts (codes "set-aside")) (rows_set_aside rule stacks.old) (rows_set_aside rule stacks.new)
    ++ count_json (same_count told) (end_with (codes "same"))

-- of one stack, as `values` prints them
unfoldable pub values_json : LocaleRule → StacksOf → List PairOf → List ToldOf → List ℕ
values_json rule stacks pairs told =
    lines_of_names (begin_with (codes "value")) (map (name_json stacks.packages) pairs) told
    ++ count_json_unless_0 (length (shared_ids stacks.new)) (end_with (codes "shared-names"))
    ++ count_json_unless_0 (rows_set_aside rule stacks.new) (end_with (codes "set-aside"))
    ++ count_json (length pairs) (end_with (codes "resources"))

-- where there are more nodes than the limit
abbrev pub node_limit_json : List ℕ
node_limit_json = codes "{\"line\":\"node limit\"}" ++ 10 ∷ []
