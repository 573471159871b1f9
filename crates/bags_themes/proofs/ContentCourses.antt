-- The look-ups of what an id says, step by step.
use Rattle.std.proofs.Common.{◌≡◌, ℕ, zero, suc, ◌-◌, Bool, true, false, List, Some, None, refl, sym, ap, ◌∙◌, append_assoc}
use Rattle.std.specs.Prelude.{Option, if◌then◌else◌}
use Rattle.std.proofs.lemmas.List.{append-nil}
use Rattle.reference_resolver.specs.res_value.declared.res_id.ResId.{ResId}
use Rattle.reference_resolver.specs.res_value.declared.value.Value.{Value as Word}
use Rattle.reference_resolver.specs.res_value.Cell.{CellOf, PlainOf, BagOf}
use Rattle.reference_resolver.specs.overlay_map.Layer.{LayerOf}
use Rattle.reference_resolver.specs.overlay_map.Candidates.{CandOf}
use Rattle.reference_resolver.specs.declared.end.End.{End}
use Rattle.reference_resolver.specs.declared.end.End.TheVariants as ends
use Rattle.reference_resolver.specs.declared.next.Next.{Next}
use Rattle.reference_resolver.specs.declared.next.Next.TheVariants as nexts
use Rattle.reference_resolver.specs.Selection.{selected, step_of}
use Rattle.reference_resolver.specs.Ends.{is_reference, next_of, cut_off, next_within}
use Rattle.reference_resolver.specs.Trace.{Trace, scan_look_up, trace_of}
use Rattle.reference_resolver.proofs.Chains.{ends_within, goes_on_within}
use Rattle.bags_themes.specs.BagIds.{most_bags}
use Rattle.bags_themes.specs.AttributeTrace.{behind, steps_of_ids}
use Rattle.bags_themes.specs.ContentTrace.{ids_behind, with_steps_behind, content_trace_within}
use Rattle.bags_themes.specs.Course.{after_parent, content_by, after_content}
use Rattle.bags_themes.proofs.CourseSteps.{same_parts}

-- ---- where a look-up leads to a bag, it is that of the bag

bag_by_word : (id layer : ℕ) (value : Word) (b : Bool) (bag : ResId)
    → (if b then nexts.LookUp (record { 0 = value.word }) else nexts.EndsAt (ends.Value layer value)) ≡ nexts.EndsAt (ends.Bag bag) → id ≡ bag.0
bag_by_word id layer value true bag leads = absurd cc
bag_by_word id layer value false bag leads = absurd cc

bag_by_cell : (id : ℕ) (candidate : CandOf) (cell : CellOf) (bag : ResId)
    → next_of id (Some (record candidate { row = record candidate.row { cell = cell } })) ≡ nexts.EndsAt (ends.Bag bag) → id ≡ bag.0
bag_by_cell id candidate (PlainOf value) bag leads = bag_by_word id candidate.layer value (is_reference value) bag leads
bag_by_cell id candidate (BagOf parent rows) bag leads =
    let same : record { 0 = id } ≡ bag = cc in ap (λ (i : ResId). i.0) same

pub bag_here : (id : ℕ) (best : Option CandOf) (bag : ResId) → next_of id best ≡ nexts.EndsAt (ends.Bag bag) → id ≡ bag.0
bag_here id None bag leads = absurd cc
bag_here id (Some candidate) bag leads = bag_by_cell id candidate candidate.row.cell bag leads

pub bag_before : (left : ℕ) (next : Next) (bag : ResId) → cut_off left next ≡ nexts.EndsAt (ends.Bag bag) → next ≡ nexts.EndsAt (ends.Bag bag)
bag_before zero (nexts.LookUp target) bag leads = absurd cc
bag_before zero (nexts.EndsAt end) bag leads = leads
bag_before (suc left) next bag leads = leads

-- ---- the first look-up of an id, and what lies behind it

ended_by : (stack : List LayerOf) (left id : ℕ) (d : List ℕ) (end : End) → next_within stack left id d ≡ nexts.EndsAt end
    → behind (scan_look_up step_of stack d id) (content_by stack left (selected stack id d) d (nexts.EndsAt end)) ≡ with_steps_behind stack (record { steps = scan_look_up step_of stack d id; end = end }) d
ended_by stack left id d (ends.Value layer value) leads = refl
ended_by stack left id d (ends.Bag bag) leads =
    let own = bag_here id (selected stack id d) bag (bag_before left (next_of id (selected stack id d)) bag leads) in
    ap (λ (i : ℕ). behind (scan_look_up step_of stack d id) (after_parent stack bag most_bags (selected stack i d) d)) own
ended_by stack left id d (ends.Absent other) leads = refl
ended_by stack left id d (ends.TooLong other) leads = refl

content_begins_by : (stack : List LayerOf) (left id : ℕ) (d : List ℕ) (next : Next) → next_within stack left id d ≡ next
    → behind (scan_look_up step_of stack d id) (content_by stack left (selected stack id d) d next) ≡ content_trace_within stack left id d
content_begins_by stack left id d (nexts.EndsAt end) leads =
    let ends = ends_within stack left id d end leads in
    let whole : record { steps = scan_look_up step_of stack d id; end = end } ≡ trace_of stack left id d =
    same_parts (record { steps = scan_look_up step_of stack d id; end = end }) (trace_of stack left id d)
    (sym (append-nil (scan_look_up step_of stack d id)) ∙ ap (λ (ids : List ℕ). steps_of_ids stack d ids) (sym ends.1))
    (sym ends.0) in
    ended_by stack left id d end leads ∙ ap (λ (t : Trace). with_steps_behind stack t d) whole
content_begins_by stack left id d (nexts.LookUp target) leads =
    let goes = goes_on_within stack left id d target leads in
    let others = trace_of stack (left - 1) target.0 d in
    let whole : behind (scan_look_up step_of stack d id) others ≡ trace_of stack left id d =
    same_parts (behind (scan_look_up step_of stack d id) others) (trace_of stack left id d)
    (ap (λ (ids : List ℕ). steps_of_ids stack d ids) (sym goes.2))
    (sym goes.1) in
    same_parts (behind (scan_look_up step_of stack d id) (with_steps_behind stack others d)) (with_steps_behind stack (behind (scan_look_up step_of stack d id) others) d)
    (sym (append_assoc (scan_look_up step_of stack d id) others.steps (steps_of_ids stack d (ids_behind stack others.end d)))) refl
    ∙ ap (λ (t : Trace). with_steps_behind stack t d) whole

pub content_within_begins : (stack : List LayerOf) (left id : ℕ) (d : List ℕ)
    → behind (scan_look_up step_of stack d id) (after_content stack left id (selected stack id d) d) ≡ content_trace_within stack left id d
content_within_begins stack left id d = content_begins_by stack left id d (next_within stack left id d) refl
