use Rattle.std.proofs.Common.{◌≡◌, ◌++◌, map, take}
use Rattle.command_base.specs.ListWord.{overlay_of}
use Rattle.command_base.specs.ListWordSeen.{listed_of}
use Rattle.command_base.proofs.list_word.push_overlays.Given as goal

-- the overlays so far are pushed
abbrev pub invariant-loop-path : goal.invariant-loop-path
invariant-loop-path l = map listed_of l.layers.items ≡ map listed_of l.initial.layers.items ++ map (overlay_of l.place) (map (λ path. path.now) (take l.path-index l.paths))
