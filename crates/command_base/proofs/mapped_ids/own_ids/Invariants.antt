use Rattle.std.proofs.Common.{◌==◌, drop}
use Rattle.command_base.specs.overlay_map.IdMap.{pairs_of}
use Rattle.command_base.proofs.MappedIdSteps.{HasAllBut}
use Rattle.command_base.proofs.mapped_ids.own_ids.Given as goal

abbrev pub invariant-loop-own : goal.invariant-loop-own
invariant-loop-own l = HasAllBut (λ id pair. pair.1 == id) l.ids (pairs_of l.pairs) (pairs_of (drop l.own-index l.pairs))
