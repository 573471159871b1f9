use Rattle.std.proofs.Common.{map, drop}
use Rattle.contract_words.proofs.TextSteps.{PutsAllBut}
use Rattle.resource_text.specs.ExplainJson.{candidate_json}
use Rattle.resource_text.specs.TracedSeen.{traced_of}
use Rattle.resource_text.proofs.explanation_json.write_candidates.Given as goal

-- the lines of all candidates were written but of those that are left
abbrev pub invariant-loop-traced : goal.invariant-loop-traced
invariant-loop-traced g l =
    PutsAllBut (candidate_json l.naming l.id) (g.W.Write.contents l.fn.out) (g.W.Write.contents l.out) (map traced_of l.candidates) (map traced_of (drop l.traced-index l.candidates))
