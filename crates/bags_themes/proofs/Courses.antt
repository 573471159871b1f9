-- Steps of a way, and what lies behind them.
use Rattle.std.proofs.Common.{◌≡◌, ◌≤◌, ℕ, List, IfOk, sym, ap, ◌∙◌, arith}
use Rattle.std.specs.Prelude.{Option, Result, Ok, Err}
use Rattle.reference_resolver.specs.res_value.declared.res_id.ResId.{ResId}
use Rattle.reference_resolver.specs.overlay_map.Layer.{LayerOf}
use Rattle.reference_resolver.specs.overlay_map.Candidates.{CandOf}
use Rattle.reference_resolver.specs.declared.end.End.{End}
use Rattle.reference_resolver.specs.Selection.{selected}
use Rattle.reference_resolver.specs.Trace.{Trace}
use Rattle.bags_themes.specs.declared.course.Course.{Course}
use Rattle.bags_themes.specs.declared.course.CourseStep.{CourseStep}
use Rattle.bags_themes.specs.declared.course.CourseStep.TheVariants.{LookUp}
use Rattle.bags_themes.specs.Course.{after_course, trace_from, IsWay}

pub way_over : (trace other : List LayerOf → List ℕ → Trace) (least most : ℕ) (step : CourseStep) → ((stack : List LayerOf) (d : List ℕ) → trace stack d ≡ other stack d) → least ≤ most → IsWay trace least step → IsWay other most step
way_over trace other least most step same few way = record { same = λ stack d. way.same stack d ∙ same stack d; few = omega (arith, way.few) }

pub way_over_ok : {E : Type 0} (trace other : List LayerOf → List ℕ → Trace) (least most : ℕ) (result : Result CourseStep E) → ((stack : List LayerOf) (d : List ℕ) → trace stack d ≡ other stack d) → least ≤ most
    → IfOk result (IsWay trace least) → IfOk result (IsWay other most)
way_over_ok trace other least most (Ok step) same few way = way_over trace other least most step same few way
way_over_ok trace other least most (Err error) same few way = tt

-- a look-up further on, the end is the same
pub end_behind : (stack : List LayerOf) (d : List ℕ) (step next : CourseStep) (id : ResId) (course : Course) (best : Option CandOf) (end : End) → step ≡ LookUp id course → best ≡ selected stack id.0 d
    → trace_from stack next d ≡ after_course stack course id.0 best d → (trace_from stack step d).end ≡ end → (trace_from stack next d).end ≡ end
unfolding trace_from
end_behind stack d step next id course best end is given same before =
    ap (λ (t : Trace). t.end) same
    ∙ ap (λ (best : Option CandOf). (after_course stack course id.0 best d).end) given
    ∙ ap (λ (step : CourseStep). (trace_from stack step d).end) (sym is)
    ∙ before
