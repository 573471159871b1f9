-- What comes after a look-up on the way to the end of an id, or of an attribute, or to what an id says.
use Rattle.std.specs.Prelude.{◌≡◌, ◌≤◌, ℕ, zero, suc, ◌+◌, ◌-◌, ◌*◌, true, List, [], ◌∷◌, length, Option, Result, Ok, Err}
use Rattle.contract_words.specs.Faults.{◌>>=◌}
use Rattle.contract_words.specs.Sequences.{with_front}
use Rattle.reference_resolver.specs.res_value.declared.res_id.ResId.{ResId}
use Rattle.reference_resolver.specs.overlay_map.Layer.{LayerOf}
use Rattle.reference_resolver.specs.overlay_map.Candidates.{CandOf}
use Rattle.reference_resolver.specs.declared.end.End.{End}
use Rattle.reference_resolver.specs.declared.end.End.TheVariants as of_end
use Rattle.reference_resolver.specs.declared.next.Next.{Next}
use Rattle.reference_resolver.specs.declared.next.Next.TheVariants as nexts
use Rattle.reference_resolver.specs.Selection.{selected, step_of}
use Rattle.reference_resolver.specs.Ends.{next_of, cut_off}
use Rattle.reference_resolver.specs.Trace.{Trace, scan_look_up, trace_of}
use Rattle.bag_rows.specs.declared.bag_row.BagRow.{BagRow}
use Rattle.bags_themes.specs.declared.bag_fault.BagFault.{BagFault}
use Rattle.bags_themes.specs.declared.bag_fault.BagFault.TheVariants.{BagDepth}
use Rattle.bags_themes.specs.declared.course.Course.{Course}
use Rattle.bags_themes.specs.declared.course.Course.TheVariants.{References, Style, Content, Parents, Ended}
use Rattle.bags_themes.specs.declared.style_course.StyleCourse.{StyleCourse}
use Rattle.bags_themes.specs.declared.course.CourseStep.{CourseStep}
use Rattle.bags_themes.specs.declared.course.CourseStep.TheVariants.{LookUp, EndsAt}
use Rattle.bags_themes.specs.Bag.{FoundBagOf, bag_in, chain_of, merged}
use Rattle.bags_themes.specs.FoundBag.{found_bags_of}
use Rattle.bags_themes.specs.BagIds.{most_bags, ids_after}
use Rattle.bags_themes.specs.Theme.{AttributeValues, value_of, values_after}
use Rattle.bags_themes.specs.AttributeTrace.{behind, ended, steps_of_ids, style_by, styles_trace}
use Rattle.bags_themes.specs.ContentTrace.{content_trace_within}

-- ---- references

abbrev pub trace_by : List LayerOf → ℕ → List ℕ → Next → Trace
trace_by stack left d (nexts.LookUp target) = trace_of stack (left - 1) target.0 d
trace_by stack left d (nexts.EndsAt end) = ended end

-- where this was selected for an id, and so many references may still be followed
abbrev pub after_reference : List LayerOf → ℕ → ℕ → Option CandOf → List ℕ → Trace
after_reference stack left id best d = trace_by stack left d (cut_off left (next_of id best))

-- ---- the bags of a style

-- the bags so far, where a parent is no bag; the first has to be one
abbrev pub found_or : List FoundBagOf → BagFault → Result (List FoundBagOf) BagFault
found_or [] fault = Err fault
found_or (bag ∷ bags) fault = Ok (bag ∷ bags)

-- the whole chain, where these bags were found, and so many may still be found, the first of them this
unfoldable pub chain_after : List LayerOf → ℕ → List FoundBagOf → Result FoundBagOf BagFault → List ℕ → Result (List FoundBagOf) BagFault
chain_after stack left found (Err fault) d = found_or found fault
chain_after stack zero found (Ok bag) d = Err BagDepth
chain_after stack (suc left) found (Ok bag) d = with_front found (chain_of stack left bag d)

abbrev pub merged_or : Result (List FoundBagOf) BagFault → Result (List BagRow) BagFault
merged_or chain = chain >>= (λ bags. Ok (merged bags))

-- where this is what was found in the chain of a style, and these are the values before it
abbrev pub after_bag : List LayerOf → ℕ → List ResId → AttributeValues → ResId → ℕ → List FoundBagOf → Result FoundBagOf BagFault → List ℕ → Trace
after_bag stack attr styles values style left bags found d =
    behind (steps_of_ids stack d (ids_after stack left found d))
    (style_by (λ rows. styles_trace stack attr (values_after true rows values) styles d) style (merged_or (chain_after stack left bags found d)))

abbrev pub after_style : List LayerOf → StyleCourse → Option CandOf → List ℕ → Trace
after_style stack course best d =
    after_bag stack course.attr.0 course.styles.now (value_of course.theme.value) course.style course.left (found_bags_of course.found.items) (bag_in best) d

-- how many look-ups styles have, with those of the reference of a slot after them, at most
abbrev pub look_ups_of_styles : List ResId → ℕ
look_ups_of_styles styles = 20 + 66 * length styles

-- how many there can be after this one, at most
abbrev pub look_ups_in : StyleCourse → ℕ
look_ups_in course = 20 + course.left + 66 * length course.styles.now

-- ---- what an id says

-- where this was selected for this bag, or for a parent of it, and so many bags may still be found, this one among them
abbrev pub after_parent : List LayerOf → ResId → ℕ → Option CandOf → List ℕ → Trace
after_parent stack bag left best d = record { steps = steps_of_ids stack d (ids_after stack left (bag_in best) d); end = of_end.Bag bag }

-- where this was selected for the id at which references end so
abbrev pub after_end : List LayerOf → End → Option CandOf → List ℕ → Trace
after_end stack (of_end.Bag bag) best d = after_parent stack bag most_bags best d
after_end stack (of_end.Value layer value) best d = ended (of_end.Value layer value)
after_end stack (of_end.Absent id) best d = ended (of_end.Absent id)
after_end stack (of_end.TooLong id) best d = ended (of_end.TooLong id)

abbrev pub content_by : List LayerOf → ℕ → Option CandOf → List ℕ → Next → Trace
content_by stack left best d (nexts.LookUp target) = content_trace_within stack (left - 1) target.0 d
content_by stack left best d (nexts.EndsAt end) = after_end stack end best d

-- where this was selected for an id, and so many references may still be followed
abbrev pub after_content : List LayerOf → ℕ → ℕ → Option CandOf → List ℕ → Trace
after_content stack left id best d = content_by stack left best d (cut_off left (next_of id best))

-- ---- any course

-- the trace behind a look-up of an id for which this was selected
unfoldable pub after_course : List LayerOf → Course → ℕ → Option CandOf → List ℕ → Trace
after_course stack (References left) id best d = after_reference stack left id best d
after_course stack (Style course) id best d = after_style stack course.value best d
after_course stack (Content left) id best d = after_content stack left id best d
after_course stack (Parents bag left) id best d = after_parent stack bag left best d
after_course stack (Ended end) id best d = ended end

-- the trace from the next look-up on
unfoldable pub trace_from : List LayerOf → CourseStep → List ℕ → Trace
trace_from stack (LookUp id course) d = behind (scan_look_up step_of stack d id.0) (after_course stack course id.0 (selected stack id.0 d) d)
trace_from stack (EndsAt end) d = ended end

abbrev pub look_ups_after : Course → ℕ
look_ups_after (References left) = left
look_ups_after (Style course) = look_ups_in course.value
look_ups_after (Content left) = left + most_bags
look_ups_after (Parents bag left) = left
look_ups_after (Ended end) = 0

abbrev pub look_ups_from : CourseStep → ℕ
look_ups_from (LookUp id course) = suc (look_ups_after course)
look_ups_from (EndsAt end) = 0

-- ---- what contracts say

-- from a step on lies this trace, in at most so many look-ups
pub record IsWay (trace : List LayerOf → List ℕ → Trace) (most : ℕ) (step : CourseStep) : Type 0 where
  pub same : (stack : List LayerOf) (d : List ℕ) → trace_from stack step d ≡ trace stack d
  pub few : look_ups_from step ≤ most

-- what comes after them is the same, whatever is selected
pub record SameCourse (course other : Course) : Type 0 where
  pub same : (stack : List LayerOf) (id : ℕ) (best : Option CandOf) (d : List ℕ) → after_course stack course id best d ≡ after_course stack other id best d
  pub few : look_ups_after course ≡ look_ups_after other
