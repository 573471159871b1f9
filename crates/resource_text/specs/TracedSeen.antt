-- How contracts see a candidate with what it does.
use Rattle.answer_text.specs.overlay_map.Candidates.{cand_of}
use Rattle.reference_resolver.specs.Trace.{TracedCandidateOf}
use Rattle.resource_text.specs.declared.explanation.Traced.{Traced}

abbrev pub traced_of : Traced → TracedCandidateOf
traced_of traced = record { candidate = cand_of traced.candidate; decision = traced.decision }
