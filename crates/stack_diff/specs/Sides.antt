-- A resource in two stacks, at a device. (Cited by contracts of this crate alone.)
use Rattle.std.specs.Prelude.{ℕ, List, Option}
use Rattle.cert_maker.specs.cert_checker.reference_resolver.Trace.{Trace}
use Rattle.cert_maker.specs.cert_checker.bags_themes.ContentTrace.{content_trace}
use Rattle.cert_maker.specs.cert_checker.reference_resolver.declared.end.End.{End}
use Rattle.answer_text.specs.ContentAt.{content_at, end_content}
use Rattle.stack_diff.specs.ComparedWith.{told_between}
use Rattle.stack_diff.specs.Difference.{DifferenceOf}
use Rattle.stack_diff.specs.declared.pair.Resource.{Resource}
use Rattle.stack_diff.specs.declared.pair.Pair.{Pair}

-- how they differ, or all that the second says
abbrev pub pair_differs : Pair → List ℕ → Option DifferenceOf
pair_differs pair d = told_between pair.compared (content_at pair.before.stack.now pair.before.id.0 d) (content_at pair.after.stack.now pair.after.id.0 d)

-- the same by two ends, to which they lead
abbrev pub ends_told : Pair → End → End → List ℕ → Option DifferenceOf
ends_told pair before after d = told_between pair.compared (end_content pair.before.stack.now before d) (end_content pair.after.stack.now after d)

-- the trace of one of them
abbrev pub trace_in : Resource → List ℕ → Trace
trace_in resource d = content_trace resource.stack.now resource.id.0 d

-- those of both
abbrev pub pair_traces : Pair → List ℕ → Trace × Trace
pair_traces pair d = (trace_in pair.before d, trace_in pair.after d)
