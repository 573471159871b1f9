-- How an id comes to its end, as text: the candidates of each look-up, what each does there, and the end. Where names are
-- asked for, the id of each look-up and that of the end are followed by their names.
use Rattle.std.specs.Prelude.{ℕ, Bool, List, [], ◌∷◌, ◌++◌, codes, Option, Some, None}
use Rattle.std.specs.List.{flat_map, enumerate_from}
use Rattle.std.specs.Fmt.{decimal}
use Rattle.bags_themes.specs.config_record.Qualifiers.{record_text}
use Rattle.bags_themes.specs.overlay_map.Layer.{LayerOf}
use Rattle.bags_themes.specs.reference_resolver.declared.decision.Decision.{Decision}
use Rattle.bags_themes.specs.reference_resolver.declared.decision.Decision.TheVariants.{SetAside, NoMatch, First, TookOver, TookOverEqual, KeptOut}
use Rattle.bags_themes.specs.reference_resolver.Ends.{references_followed, end_of}
use Rattle.bags_themes.specs.reference_resolver.Trace.{look_ups_of, TracedCandidateOf, traced, scan_look_up}
use Rattle.answer_text.specs.NamedText.{named_id, named_coord, named_number}
use Rattle.answer_text.specs.LayerText.{layer_text}
use Rattle.answer_text.specs.EndText.{named_end_line}
use Rattle.answer_text.specs.NameText.{name_beside}

-- ---- a candidate

-- ` Pn`, where a rule decided
unfoldable pub rule_text : Option ℕ → List ℕ
rule_text None = []
rule_text (Some rule) = codes " P" ++ decimal rule

unfoldable pub decision_text : Decision → List ℕ
decision_text SetAside = codes "set aside"
decision_text (NoMatch coord) = named_coord (codes "no match") coord
decision_text First = codes "first"
decision_text (TookOver rule) = codes "took over" ++ rule_text rule
decision_text TookOverEqual = codes "took over equal"
decision_text (KeptOut rule) = codes "kept out" ++ rule_text rule

-- `candidate K layer L`
unfoldable pub place_text : ℕ → ℕ → List ℕ
place_text place layer = named_number (codes "candidate") place ++ codes " " ++ layer_text layer

-- the line `candidate K layer L RECORD DECISION`
unfoldable pub candidate_line : (ℕ × TracedCandidateOf) → List ℕ
candidate_line numbered =
    place_text numbered.0 numbered.1.candidate.layer ++ codes " "
    ++ record_text numbered.1.candidate.row.config ++ codes " " ++ decision_text numbered.1.decision ++ 10 ∷ []

-- ---- a look-up

-- the lines of candidates, which are counted from 0
unfoldable pub candidate_lines : List TracedCandidateOf → List ℕ
candidate_lines candidates = flat_map candidate_line (enumerate_from 0 candidates)

-- the line `lookup ID`, and those of its candidates
unfoldable pub look_up_text : List LayerOf → List ℕ → Bool → ℕ → List ℕ
look_up_text stack d names id =
    named_id (codes "lookup") id ++ name_beside stack id names ++ 10 ∷ [] ++ candidate_lines (scan_look_up traced stack d id)

-- ---- all look-ups

-- the lines of each look-up, also of one without candidates, and that of the end
unfoldable pub explain_text : List LayerOf → ℕ → List ℕ → Bool → List ℕ
explain_text stack id d names =
    flat_map (look_up_text stack d names) (look_ups_of stack references_followed id d)
    ++ named_end_line stack (end_of stack references_followed id d) names
