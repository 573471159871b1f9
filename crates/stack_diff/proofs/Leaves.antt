-- How resources differ on the members of a leaf.
use Rattle.std.proofs.Common.{◌≡◌, ℕ, List, ap, ◌∙◌}
use Rattle.cert_maker.specs.box_answers.NumberSet.{SetOf}
use Rattle.cert_maker.specs.box_answers.Members.{IsMember}
use Rattle.cert_maker.specs.cert_checker.bags_themes.ContentTrace.{content_trace}
use Rattle.cert_maker.specs.cert_checker.reference_resolver.declared.end.End.{End}
use Rattle.answer_text.specs.ContentAt.{end_content, content_at}
use Rattle.stack_diff.specs.ComparedWith.{told_between}
use Rattle.stack_diff.proofs.TraceSteps.{trace_tells_content}
use Rattle.stack_diff.specs.declared.pair.Pair.{Pair}
use Rattle.stack_diff.specs.declared.pair.Resource.{Resource}
use Rattle.stack_diff.specs.Sides.{pair_differs, ends_told, trace_in, pair_traces}
use Rattle.stack_diff.specs.Parting.{HaveOneTrace}
use Rattle.stack_diff.specs.PairBox.{EndAt}

-- at two devices with one trace they differ alike
pub differ-alike : (pair : Pair) (d e : List ℕ) → pair_traces pair d ≡ pair_traces pair e → pair_differs pair d ≡ pair_differs pair e
differ-alike pair d e one =
    let before = trace_tells_content pair.before.stack.now pair.before.id.0 d e (ap (λ p. p.0) one) in
    let after = trace_tells_content pair.after.stack.now pair.after.id.0 d e (ap (λ p. p.1) one) in
    λ i. told_between pair.compared (before i) (after i)

-- what is said is what stands at the end of the trace
at-end : (resource : Resource) (end : End) (d : List ℕ) → (trace_in resource d).end ≡ end → content_at resource.stack.now resource.id.0 d ≡ end_content resource.stack.now end d
unfolding content_at content_trace
at-end resource end d is = ap (λ (it : End). end_content resource.stack.now it d) is

-- so how all members differ is how the two ends do at one of them
pub differ-at-ends : (pair : Pair) (sets : List SetOf) (before after : End) (d e : List ℕ) → HaveOneTrace (IsMember sets) (pair_traces pair) → EndAt pair sets before after → IsMember sets d → IsMember sets e
    → pair_differs pair d ≡ ends_told pair before after e
differ-at-ends pair sets before after d e one ends m n =
    let old = at-end pair.before before e (ends.before_end e n) in
    let new = at-end pair.after after e (ends.after_end e n) in
    differ-alike pair d e (one d e m n) ∙ (λ i. told_between pair.compared (old i) (new i))
