use Rattle.std.proofs.Common.{arith}
use Rattle.std.proofs.KnownBytes.{Appends-trans}
use Rattle.answer_text.proofs.ItemSteps.{item-next}
use Rattle.resource_text.specs.GoalNotation.{next_style}
use Rattle.resource_text.proofs.goal.write_styles.Goals as goal

pub loop-style-preserved : goal.loop-style-preserved
unfolding next_style
loop-style-preserved g c =
    item-next _ _ _ _ _ _ _ c.loop-style.invariant (omega arith) (Appends-trans _ _ _ _ _ c.in_ok-write_all.ensures.bytes c.in_ok-write_id.ensures)
