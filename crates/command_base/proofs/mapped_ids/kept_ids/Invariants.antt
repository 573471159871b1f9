use Rattle.std.proofs.Common.{◌==◌, ◌&&◌, drop}
use Rattle.command_base.specs.overlay_map.IdMap.{pairs_of}
use Rattle.command_base.proofs.MappedIdSteps.{HasAllBut}
use Rattle.command_base.proofs.mapped_ids.kept_ids.Given as goal

abbrev pub invariant-loop-target : goal.invariant-loop-target
invariant-loop-target l = HasAllBut (λ id pair. pair.0 == id && pair.1 == id) l.ids (pairs_of l.pairs) (pairs_of (drop l.target-index l.pairs))
