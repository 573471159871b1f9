-- Walks of all members of a box.
use Rattle.std.proofs.Common.{◌≡◌, ℕ, List, [], ◌∷◌, Option, None, Result, Ok, Err, IfOk, sym, ◌∙◌, ap, subst}
use Rattle.bags_themes.specs.res_value.declared.res_id.ResId.{ResId}
use Rattle.bags_themes.specs.overlay_map.Layer.{LayerOf}
use Rattle.bags_themes.specs.overlay_map.Candidates.{CandOf}
use Rattle.bags_themes.specs.reference_resolver.Selection.{step_of, scan_candidates, best_of}
use Rattle.bags_themes.specs.reference_resolver.Trace.{Trace}
use Rattle.config_box.specs.box_answers.NumberSet.{SetOf}
use Rattle.config_box.specs.box_answers.Members.{IsMember}
use Rattle.bags_themes.specs.AttributeTrace.{behind}
use Rattle.bags_themes.specs.Course.{trace_from, after_course, SameCourse}
use Rattle.bags_themes.specs.declared.course.Course.{Course}
use Rattle.bags_themes.specs.declared.course.CourseStep.{CourseStep}
use Rattle.box_trace.specs.declared.walk.Walk.{Walk}
use Rattle.box_trace.specs.declared.parting.Parting.{Parting}
use Rattle.box_trace.specs.Live.{LiveOf, candidates_in, LeavesOut}
use Rattle.box_trace.specs.Walk.{rest_at, after_walk, best_at, live_ahead, HaveCome, HaveWalked}
use Rattle.box_trace.specs.Parting.{IsParting}
use Rattle.box_trace.specs.CommonStep.{StepAlike, PartsAt}
use Rattle.box_trace.proofs.LeftOut.{left_out_fewer}
use Rattle.box_trace.proofs.Rests.{come_over, come_fewer, come_nowhere, come_same, come_past, come_past_all, come_to_first}
use Rattle.box_trace.proofs.Partings.{parts_here}

pub walk_over : (stack : List LayerOf) (members : List ℕ → Type 0) (trace rest : List ℕ → Trace) (walk : Walk) → HaveCome members trace rest → HaveWalked stack members rest walk → HaveWalked stack members trace walk
walk_over stack members trace rest walk come walked = record {
  ahead = walked.ahead;
  come = come_over members trace rest (rest_at (after_walk stack walk) (best_at walk) walked.ahead) come walked.come;
  left_out = walked.left_out;
}

pub walk_fewer : (stack : List LayerOf) (members fewer : List ℕ → Type 0) (trace : List ℕ → Trace) (walk : Walk) → ((d : List ℕ) → fewer d → members d) → HaveWalked stack members trace walk → HaveWalked stack fewer trace walk
walk_fewer stack members fewer trace walk into walked = record {
  ahead = walked.ahead;
  come = come_fewer members fewer trace (rest_at (after_walk stack walk) (best_at walk) walked.ahead) into walked.come;
  left_out = left_out_fewer members fewer into walked.ahead (candidates_in (live_ahead walk)) walked.left_out;
}

-- another walk that stands at the same place; its list leaves out the same
pub walk_same : (stack : List LayerOf) (members : List ℕ → Type 0) (trace : List ℕ → Trace) (walk other : Walk) → SameCourse other.course walk.course → other.id ≡ walk.id → best_at other ≡ best_at walk
    → ((ahead : List CandOf) → LeavesOut members ahead (candidates_in (live_ahead walk)) → LeavesOut members ahead (candidates_in (live_ahead other))) → HaveWalked stack members trace walk → HaveWalked stack members trace other
walk_same stack members trace walk other course id best left_out walked =
    let after : (b : Option CandOf) (d : List ℕ) → after_walk stack walk b d ≡ after_walk stack other b d =
    λ b d. ap (λ (i : ResId). after_course stack walk.course i.0 b d) (sym id) ∙ sym (course.same stack other.id.0 b d) in
    record {
      ahead = walked.ahead;
      come =
          subst (λ (b : Option CandOf). HaveCome members trace (rest_at (after_walk stack other) b walked.ahead)) (sym best)
          (come_same members trace (rest_at (after_walk stack walk) (best_at walk) walked.ahead) (rest_at (after_walk stack other) (best_at walk) walked.ahead)
          (λ d. ap (behind (scan_candidates step_of (best_at walk) walked.ahead d)) (after (best_of (best_at walk) walked.ahead d) d)) walked.come);
      left_out = left_out walked.ahead walked.left_out;
    }

-- one candidate of the list more
pub walk_on : (stack : List LayerOf) (sets : List SetOf) (trace : List ℕ → Trace) (walk : Walk) (live : LiveOf) (others : List LiveOf) (after : Option CandOf) → live_ahead walk ≡ live ∷ others
    → StepAlike sets (best_at walk) live.candidate after → HaveWalked stack (IsMember sets) trace walk
    → (next : Walk) → next.id ≡ walk.id → next.course ≡ walk.course → best_at next ≡ after → live_ahead next ≡ others → HaveWalked stack (IsMember sets) trace next
walk_on stack sets trace walk live others after ahead alike walked next same_id same_course best_is others_are =
    let first = come_to_first (IsMember sets) trace (after_walk stack walk) (best_at walk) live.candidate (candidates_in others) walked.ahead
    (subst (λ (l : List LiveOf). LeavesOut (IsMember sets) walked.ahead (candidates_in l)) ahead walked.left_out) walked.come in
    record {
      ahead = first.ahead;
      come =
          subst (λ (i : ResId). HaveCome (IsMember sets) trace (rest_at (after_course stack next.course i.0) (best_at next) first.ahead)) (sym same_id)
          (subst (λ (c : Course). HaveCome (IsMember sets) trace (rest_at (after_course stack c walk.id.0) (best_at next) first.ahead)) (sym same_course)
          (subst (λ (o : Option CandOf). HaveCome (IsMember sets) trace (rest_at (after_walk stack walk) o first.ahead)) (sym (best_is ∙ alike.is_after))
          (come_past (IsMember sets) trace (after_walk stack walk) (best_at walk) live.candidate first.ahead alike.step first.come alike.does)));
      left_out = subst (λ (l : List LiveOf). LeavesOut (IsMember sets) first.ahead (candidates_in l)) (sym others_are) first.left_out;
    }

-- members part at the next one
pub walk_parts : (stack : List LayerOf) (sets : List SetOf) (trace : List ℕ → Trace) (walk : Walk) (live : LiveOf) (others : List LiveOf) (parting : Parting) → live_ahead walk ≡ live ∷ others
    → PartsAt sets (best_at walk) live.candidate parting → HaveWalked stack (IsMember sets) trace walk → IsParting parting sets trace
walk_parts stack sets trace walk live others parting ahead parts walked =
    let first = come_to_first (IsMember sets) trace (after_walk stack walk) (best_at walk) live.candidate (candidates_in others) walked.ahead
    (subst (λ (l : List LiveOf). LeavesOut (IsMember sets) walked.ahead (candidates_in l)) ahead walked.left_out) walked.come in
    parts_here sets trace (after_walk stack walk) (best_at walk) live.candidate first.ahead parting first.come parts

-- none is ahead
pub walk_past_all : (stack : List LayerOf) (members : List ℕ → Type 0) (trace : List ℕ → Trace) (walk : Walk) → live_ahead walk ≡ [] → HaveWalked stack members trace walk → HaveCome members trace (after_walk stack walk (best_at walk))
walk_past_all stack members trace walk none walked =
    come_past_all members trace (after_walk stack walk) (best_at walk) walked.ahead (subst (λ (l : List LiveOf). LeavesOut members walked.ahead (candidates_in l)) none walked.left_out) walked.come

-- another trace that is the same
pub walk_of_same : (stack : List LayerOf) (members : List ℕ → Type 0) (trace other : List ℕ → Trace) (walk : Walk) → ((d : List ℕ) → other d ≡ trace d) → HaveWalked stack members trace walk → HaveWalked stack members other walk
walk_of_same stack members trace other walk same walked = walk_over stack members other trace walk (come_nowhere members other trace same) walked

-- none is ahead, and what comes then is known
pub walk_next : (stack : List LayerOf) (members : List ℕ → Type 0) (trace : List ℕ → Trace) (walk next : Walk) (step due : CourseStep) → live_ahead walk ≡ [] → ((d : List ℕ) → trace_from stack step d ≡ after_walk stack walk (best_at walk) d) → step ≡ due
    → HaveWalked stack members trace walk → HaveWalked stack members (trace_from stack due) next → HaveWalked stack members trace next
walk_next stack members trace walk next step due none same is passed walked =
    walk_over stack members trace (trace_from stack due) next
    (come_same members trace (after_walk stack walk (best_at walk)) (trace_from stack due) (λ d. sym (same d) ∙ ap (λ (s : CourseStep). trace_from stack s d) is) (walk_past_all stack members trace walk none passed)) walked

-- ---- the first candidate of a list

-- of any trace in which these candidates are ahead
abbrev StandsFirst : ResId → Course → List LiveOf → Walk → Type 0
StandsFirst id course live walk =
    (stack : List LayerOf) (sets : List SetOf) (trace : List ℕ → Trace) (ahead : List CandOf) → ((d : List ℕ) → trace d ≡ rest_at (after_course stack course id.0) None ahead d) → LeavesOut (IsMember sets) ahead (candidates_in live)
    → HaveWalked stack (IsMember sets) trace walk

pub walk_first : {E : Type 0} (result : Result Walk E) (id : ResId) (course : Course) (live : List LiveOf) (stack : List LayerOf) (sets : List SetOf) (trace : List ℕ → Trace) (ahead : List CandOf) → IfOk result (StandsFirst id course live)
    → ((d : List ℕ) → trace d ≡ rest_at (after_course stack course id.0) None ahead d) → LeavesOut (IsMember sets) ahead (candidates_in live) → IfOk result (HaveWalked stack (IsMember sets) trace)
walk_first (Ok walk) id course live stack sets trace ahead first same left_out = first stack sets trace ahead same left_out
walk_first (Err error) id course live stack sets trace ahead first same left_out = tt

-- the same in each stack
pub walk_among : {E : Type 0} (result : Result Walk E) (id : ResId) (course : Course) (live : List LiveOf) (sets : List SetOf) (trace : List ℕ → Trace) (ahead : List CandOf) → IfOk result (StandsFirst id course live)
    → ((stack : List LayerOf) (d : List ℕ) → trace d ≡ rest_at (after_course stack course id.0) None ahead d) → LeavesOut (IsMember sets) ahead (candidates_in live) → IfOk result (λ walk. (stack : List LayerOf) → HaveWalked stack (IsMember sets) trace walk)
walk_among (Ok walk) id course live sets trace ahead first same left_out = λ stack. first stack sets trace ahead (same stack) left_out
walk_among (Err error) id course live sets trace ahead first same left_out = tt
