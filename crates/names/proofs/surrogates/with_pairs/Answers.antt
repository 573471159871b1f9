use Rattle.std.proofs.Common.{◌∙◌}
use Rattle.std.proofs.lemmas.List.{nil_from_length}
use Rattle.names.proofs.SurrogateSteps.{pair-next, byte-next, pairs-end}
use Rattle.names.proofs.surrogates.with_pairs.Goals as goal

pub loop-byte-preserved-in-Some-pair_at : goal.loop-byte-preserved-in-Some-pair_at
loop-byte-preserved-in-Some-pair_at c =
    pair-next _ _ _ _ _ _ _ c.loop-byte.invariant c.in-Some-pair_at.ensures.0 c.in-Some-pair_at.ensures.1 c.split_at.ensures.back
    c.in_ok-extend_from_slice.ensures.items (c.as_bytes.ensures.value ∙ c.encode_utf8.ensures.value)

pub loop-byte-preserved : goal.loop-byte-preserved
loop-byte-preserved c =
    byte-next _ _ _ _ _ _ c.loop-byte.invariant c.in-Some.ensures.cases.0 c.in_default-pair_at.ensures.0 c.in_ok-push.ensures.items

pub returns : goal.returns
returns c = pairs-end _ _ _ c.loop-byte.invariant (nil_from_length c.loop-byte.left.now c.in_default.ensures.cases)
