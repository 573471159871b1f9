use Rattle.string_pool.proofs.ByteTexts.{bytes_text-end}
use Rattle.string_pool.proofs.WriteSteps.{WroteAllBut-two, WroteAllBut-last}
use Rattle.string_pool.proofs.shown.write_runs.Goals as goal

pub returns-in_default : goal.returns-in_default
returns-in_default g c =
    WroteAllBut-last _ _ _ _ _ _ _ c.loop-byte.invariant c.split_plain.ensures.text c.in_ok-write_all.ensures.bytes
    (bytes_text-end c.split_plain.result.1.now c.in_default.ensures.cases)

pub loop-byte-preserved : goal.loop-byte-preserved
loop-byte-preserved g c =
    WroteAllBut-two _ _ _ _ _ _ _ _ _ _ c.loop-byte.invariant c.split_plain.ensures.text c.in_ok-write_all.ensures.bytes
    (c.split_plain.ensures.ends.text c.in-Some.byte.now c.in-Some.others.now c.in-Some.ensures.cases.0) c.in_ok-write_escape.ensures
