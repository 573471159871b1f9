use Rattle.std.proofs.Common.{◌∷◌, [], ◌++◌, List, ℕ, length-append, subst, arith}
use Rattle.type_entries.specs.WrongSizes.{CountWrong}
use Rattle.type_entries.proofs.WrongSteps.{few-next}
use Rattle.type_entries.proofs.bag_checks.wrong_counts.Goals as goal

pub loop-place-preserved : goal.loop-place-preserved
loop-place-preserved c =
    let so_far = c.loop-place.invariant in
    let counts = c.loop-place.counts.items in
    let count = c.count_at-count.result in
    rw c.in_ok-push.ensures.items (record {
      here = omega (arith, length-append counts (count ∷ []), so_far.here);
      few = few-next counts count so_far.few (omega (arith, c.count_at-count.ensures.few, so_far.here));
      counted = subst (λ (l : List ℕ). CountWrong c.args.whole.now l → CountWrong c.args.whole.now (l ++ count ∷ [])) c.deref.ensures.value c.count_at-count.ensures.counted so_far.counted;
    })
