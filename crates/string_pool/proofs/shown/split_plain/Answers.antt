use Rattle.std.proofs.lemmas.List.{take_rest}
use Rattle.string_pool.proofs.ByteTexts.{IsPlain-more}
use Rattle.string_pool.proofs.shown.split_plain.Goals as goal

pub loop-width-preserved : goal.loop-width-preserved
loop-width-preserved c =
    IsPlain-more c.args.left.now _ c.loop-width.length c.in-Some.width c.loop-width.invariant (take_rest c.args.left.now c.loop-width.length) c.in-Some.ensures.0
