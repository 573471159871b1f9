use Rattle.std.proofs.Common.{refl, arith}
use Rattle.command_base.proofs.MappedIdSteps.{HasAllBut-put_at}
use Rattle.command_base.proofs.mapped_ids.own_ids.Goals as goal

pub loop-own-preserved : goal.loop-own-preserved
loop-own-preserved c = HasAllBut-put_at _ _ _ _ _ _ c.loop-own.invariant (omega arith) c.in_ok-insert.ensures.updates (λ id. refl)
