-- The open boxes of a look-up.
use Rattle.std.proofs.Common.{◌≡◌, ℕ, List, append-nil, map, Option, None, sym, ap, ◌∙◌}
use Rattle.std.specs.Prelude.{slice_get, option_and_then}
use Rattle.config_box.specs.box_answers.NumberSet.{SetOf}
use Rattle.config_box.specs.box_answers.Members.{IsMember}
use Rattle.reference_resolver.specs.overlay_map.Candidates.{CandOf, cand_of}
use Rattle.reference_resolver.specs.declared.step.Step.{Step}
use Rattle.reference_resolver.specs.declared.end.End.{End}
use Rattle.reference_resolver.specs.Selection.{step_of, scan_candidates}
use Rattle.reference_resolver.specs.Takers.{picked_at, last_place, places_taken}
use Rattle.reference_resolver.specs.Trace.{Trace}
use Rattle.cert_maker.specs.cert_checker.box_trace.declared.common.CommonTrace.TheVariants.{One}
use Rattle.cert_maker.specs.cert_checker.box_trace.CommonTrace.{IsCommonTrace}
use Rattle.cert_maker.specs.cert_checker.box_trace.TraceAmong.{trace_among}
use Rattle.stack_diff.specs.declared.look_up.LookUp.{LookUp}
use Rattle.stack_diff.specs.LayersSeen.{loads_of}
use Rattle.stack_diff.specs.LookUpBoxes.{trace_of_look_up}

-- Devices that have one trace pick the same place.
pub same-picked : (candidates : List CandOf) (d e : List ℕ) → trace_among candidates d ≡ trace_among candidates e → picked_at candidates d ≡ picked_at candidates e
unfolding trace_among picked_at
same-picked candidates d e same =
    let steps : scan_candidates step_of None candidates d ≡ scan_candidates step_of None candidates e =
    sym (append-nil (scan_candidates step_of None candidates d)) ∙ ap (λ (t : Trace). t.steps) same ∙ append-nil (scan_candidates step_of None candidates e) in
    ap (λ (taken : List Step). last_place None (places_taken 0 taken)) steps

pub same-loads : (look_up : LookUp) (sets : List SetOf) (end : End) → IsCommonTrace (One end) sets (trace_of_look_up look_up) → (d e : List ℕ) → IsMember sets d → IsMember sets e → loads_of look_up d ≡ loads_of look_up e
same-loads look_up sets end common d e m n =
    ap (λ (place : Option ℕ). option_and_then (slice_get look_up.rows.items) place) (same-picked (map cand_of look_up.candidates.items) d e (common.1 d m ∙ sym (common.1 e n)))
