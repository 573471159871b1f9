-- What lies ahead of a walk, for all members of a box.
use Rattle.std.proofs.Common.{◌≡◌, ℕ, false, List, [], ◌∷◌, ◌++◌, Option, None, inl, inr, sym, ◌∙◌, ap, refl, subst}
use Rattle.std.proofs.lemmas.List.{append_cancel_left}
use Rattle.bags_themes.specs.AttributeTrace.{behind, ended}
use Rattle.bags_themes.specs.Course.{after_course, trace_from}
use Rattle.bags_themes.specs.declared.course.Course.{Course}
use Rattle.bags_themes.specs.declared.course.CourseStep.TheVariants.{LookUp}
use Rattle.bags_themes.proofs.CourseSteps.{same_parts, behind_both}
use Rattle.bags_themes.specs.res_value.declared.res_id.ResId.{ResId}
use Rattle.bags_themes.specs.overlay_map.Layer.{LayerOf}
use Rattle.bags_themes.specs.overlay_map.Candidates.{CandOf, candidates_of}
use Rattle.bags_themes.specs.reference_resolver.declared.end.End.{End}
use Rattle.bags_themes.specs.reference_resolver.declared.step.Step.{Step}
use Rattle.bags_themes.specs.reference_resolver.declared.step.Step.TheVariants.{NoMatch}
use Rattle.bags_themes.specs.reference_resolver.Selection.{selected, step_of, best_after, scan_candidates, best_of}
use Rattle.bags_themes.specs.reference_resolver.Trace.{Trace}
use Rattle.box_trace.specs.Walk.{rest_at, HaveCome}
use Rattle.config_box.specs.box_answers.MemberAnswers.{AllAnswer}
use Rattle.box_trace.specs.Live.{does_match, LeavesOut}
use Rattle.box_trace.proofs.AtCandidate.{does_nothing}

-- ---- traces with steps before them

-- behind the same steps only the same trace is the same
pub behind_same : (steps : List Step) (t u : Trace) → behind steps t ≡ behind steps u → t ≡ u
behind_same steps t u e =
    let both : steps ++ t.steps ≡ steps ++ u.steps = ap (λ (v : Trace). v.steps) e in
    let end : t.end ≡ u.end = ap (λ (v : Trace). v.end) e in
    same_parts t u (append_cancel_left steps t.steps u.steps both) end

-- ---- what members have come to

pub come_over : (members : List ℕ → Type 0) (trace rest last : List ℕ → Trace) → HaveCome members trace rest → HaveCome members rest last → HaveCome members trace last
come_over members trace rest last a b = record {
  before = a.before ++ b.before;
  same = λ d m. a.same d m ∙ ap (behind a.before) (b.same d m) ∙ sym (behind_both a.before b.before (last d));
}

-- fewer members
pub come_fewer : (members fewer : List ℕ → Type 0) (trace rest : List ℕ → Trace) → ((d : List ℕ) → fewer d → members d) → HaveCome members trace rest → HaveCome fewer trace rest
come_fewer members fewer trace rest into come = record { before = come.before; same = λ d m. come.same d (into d m) }

pub come_nowhere : (members : List ℕ → Type 0) (trace rest : List ℕ → Trace) → ((d : List ℕ) → trace d ≡ rest d) → HaveCome members trace rest
come_nowhere members trace rest e = record { before = []; same = λ d m. e d }

-- the same rest
pub come_same : (members : List ℕ → Type 0) (trace rest other : List ℕ → Trace) → ((d : List ℕ) → rest d ≡ other d) → HaveCome members trace rest → HaveCome members trace other
come_same members trace rest other e come = record { before = come.before; same = λ d m. come.same d m ∙ ap (behind come.before) (e d) }

-- two have the same rest just where they have the same trace
pub rest_same : (members : List ℕ → Type 0) (trace rest : List ℕ → Trace) (d e : List ℕ) → HaveCome members trace rest → members d → members e → trace d ≡ trace e → rest d ≡ rest e
rest_same members trace rest d e come md me same =
    behind_same come.before (rest d) (rest e) (sym (come.same d md) ∙ same ∙ come.same e me)

-- ---- along candidates

pub one_step : (after : Option CandOf → List ℕ → Trace) (best : Option CandOf) (candidate : CandOf) (ahead : List CandOf) (step : Step) (d : List ℕ) → step_of best candidate d ≡ step
    → rest_at after best (candidate ∷ ahead) d ≡ behind (step ∷ []) (rest_at after (best_after step best candidate) ahead d)
one_step after best candidate ahead step d does =
    ap (λ (z : Step). behind (z ∷ scan_candidates step_of (best_after z best candidate) ahead d) (after (best_of (best_after z best candidate) ahead d) d)) does

-- past one candidate, which does this at all members
pub come_past : (members : List ℕ → Type 0) (trace : List ℕ → Trace) (after : Option CandOf → List ℕ → Trace) (best : Option CandOf) (candidate : CandOf) (ahead : List CandOf) (step : Step)
    → HaveCome members trace (rest_at after best (candidate ∷ ahead)) → ((d : List ℕ) → members d → step_of best candidate d ≡ step) → HaveCome members trace (rest_at after (best_after step best candidate) ahead)
come_past members trace after best candidate ahead step come does =
    come_over members trace (rest_at after best (candidate ∷ ahead)) (rest_at after (best_after step best candidate) ahead) come (record {
      before = step ∷ [];
      same = λ d m. one_step after best candidate ahead step d (does d m);
    })

come_past_other : (members : List ℕ → Type 0) (trace : List ℕ → Trace) (after : Option CandOf → List ℕ → Trace) (best : Option CandOf) (candidate : CandOf) (ahead : List CandOf) → AllAnswer members (does_match candidate) false
    → HaveCome members trace (rest_at after best (candidate ∷ ahead)) → HaveCome members trace (rest_at after best ahead)
come_past_other members trace after best candidate ahead none come = come_past members trace after best candidate ahead NoMatch come (does_nothing members best candidate none)

-- to the first candidate that is not left out
pub record ComesToFirst (members : List ℕ → Type 0) (trace : List ℕ → Trace) (after : Option CandOf → List ℕ → Trace) (best : Option CandOf) (candidate : CandOf) (others : List CandOf) : Type 0 where
  pub ahead : List CandOf
  pub come : HaveCome members trace (rest_at after best (candidate ∷ ahead))
  pub left_out : LeavesOut members ahead others

pub come_to_first : (members : List ℕ → Type 0) (trace : List ℕ → Trace) (after : Option CandOf → List ℕ → Trace) (best : Option CandOf) (candidate : CandOf) (others ahead : List CandOf) → LeavesOut members ahead (candidate ∷ others)
    → HaveCome members trace (rest_at after best ahead) → ComesToFirst members trace after best candidate others
come_to_first members trace after best candidate others [] l come = absurd (l)
come_to_first members trace after best candidate others (other ∷ ahead) (inl l) come =
    come_to_first members trace after best candidate others ahead l.1 (come_past_other members trace after best other ahead l.0 come)
come_to_first members trace after best candidate others (other ∷ ahead) (inr l) come = record {
  ahead = ahead;
  come = subst (λ (k : CandOf). HaveCome members trace (rest_at after best (k ∷ ahead))) l.0 come;
  left_out = l.1;
}

-- past all
pub come_past_all : (members : List ℕ → Type 0) (trace : List ℕ → Trace) (after : Option CandOf → List ℕ → Trace) (best : Option CandOf) (ahead : List CandOf) → LeavesOut members ahead []
    → HaveCome members trace (rest_at after best ahead) → HaveCome members trace (after best)
come_past_all members trace after best [] l come = come
come_past_all members trace after best (other ∷ ahead) l come = come_past_all members trace after best ahead l.1 (come_past_other members trace after best other ahead l.0 come)

-- ---- along look-ups

-- before the first candidate of a look-up lies all that comes from there on
pub begins : (stack : List LayerOf) (id : ResId) (course : Course) (d : List ℕ) → trace_from stack (LookUp id course) d ≡ rest_at (after_course stack course id.0) None (candidates_of stack id.0) d
unfolding selected trace_from
begins stack id course d = refl

pub ends_at : (members : List ℕ → Type 0) (trace rest : List ℕ → Trace) (end : End) (come : HaveCome members trace rest) → ((d : List ℕ) → rest d ≡ ended end) → AllAnswer members trace (record { steps = come.before ++ []; end = end })
ends_at members trace rest end come e d m = come.same d m ∙ ap (behind come.before) (e d)
