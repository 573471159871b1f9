-- How contracts see what was opened: by its content, not its address.
use Rattle.std.specs.Prelude.{List, ◌++◌, Option, Some, None, unwrap_or}
use Rattle.stack_diff.specs.Stacks.{StacksOf, one_stack, two_stacks}
use Rattle.command_base.specs.overlay_map.Layer.{LayerOf}
use Rattle.stack_diff.specs.names.NamedIds.{packages_of}
use Rattle.stack_diff.specs.names.Packages.{PackageNameOf}
use Rattle.resource_tool.specs.declared.opened_diff.NamedDiff.{NamedDiff}
use Rattle.resource_tool.specs.declared.opened_diff.OpenedDiff.{OpenedDiff}
use Rattle.resource_tool.specs.DiffInputs.{DiffInputs}

-- without a new stack of its own the new one is the old one
abbrev pub stacks_seen : List LayerOf → Option (List LayerOf) → List PackageNameOf → StacksOf
stacks_seen old None packages = one_stack old packages
stacks_seen old (Some new) packages = two_stacks old new packages

abbrev pub opened_diff : OpenedDiff → DiffInputs
opened_diff opened =
    record { stacks = stacks_seen opened.old opened.changed (packages_of opened.old ++ packages_of (unwrap_or opened.changed opened.old)); sets = opened.members; rule = opened.rule }

abbrev pub named_diff : NamedDiff → DiffInputs
named_diff named = record { stacks = stacks_seen named.old named.changed named.packages; sets = named.members.now; rule = named.rule }
