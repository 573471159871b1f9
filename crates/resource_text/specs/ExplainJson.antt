-- How an id comes to its end at a device, which is the list of its numbers, as lines of JSON: the look-ups, all candidates of each,
-- and what each does there; and the end.
use Rattle.std.specs.Prelude.{ℕ, List, ◌++◌, codes, Option, Some, None}
use Rattle.std.specs.List.{flat_map}
use Rattle.std.specs.Fmt.{decimal}
use Rattle.serde_json.specs.Data.{Data, object, string, Members, no_members, put as with_member}
use Rattle.config_box.specs.config_record.Coord.{name_of}
use Rattle.res_value.specs.Cell.{CellOf, PlainOf, BagOf}
use Rattle.res_value.specs.declared.res_id.ResId.{ResId}
use Rattle.reference_resolver.specs.declared.decision.Decision.{Decision}
use Rattle.reference_resolver.specs.declared.decision.Decision.TheVariants.{SetAside, NoMatch, First, TookOver, TookOverEqual, KeptOut}
use Rattle.reference_resolver.specs.declared.end.End.{End}
use Rattle.reference_resolver.specs.declared.end.End.TheVariants as of_end
use Rattle.reference_resolver.specs.Ends.{references_followed}
use Rattle.reference_resolver.specs.Trace.{look_ups_of, TracedCandidateOf, traced, scan_look_up}
use Rattle.resource_text.specs.DecisionWords.{decision_notation}
use Rattle.resource_text.specs.EndJson.{with_id, place_data, end_data, with_end_at}
use Rattle.resource_text.specs.LineJson.{line_members, line_json}
use Rattle.resource_text.specs.Naming.{NamingOf}
use Rattle.resource_text.specs.TextJson.{text_data}

-- ---- what a candidate does

unfoldable pub did : Decision → List ℕ
did SetAside = codes "set aside"
did (NoMatch coord) = codes "no match"
did First = codes "first"
did (TookOver rule) = codes "took over"
did TookOverEqual = codes "took over equal"
did (KeptOut rule) = codes "kept out"

-- the rule that decided, where one did
abbrev pub with_rule : Option ℕ → Members → Members
with_rule (Some rule) others = with_member (codes "rule") (text_data (codes "P" ++ decimal rule)) others
with_rule None others = others

-- the qualifier that does not match, or the rule that decided
unfoldable pub with_reason : Decision → Members → Members
with_reason SetAside others = others
with_reason (NoMatch coord) others = with_member (codes "qualifier") (string (name_of coord)) others
with_reason First others = others
with_reason (TookOver rule) others = with_rule rule others
with_reason TookOverEqual others = others
with_reason (KeptOut rule) others = with_rule rule others

-- what is done, and all of it in words
unfoldable pub with_did : List ℕ → List ℕ → Members → Members
with_did did words others = with_member (codes "words") (text_data words) (with_member (codes "did") (string did) others)

-- with the reason
unfoldable pub decision_data : Decision → Data
decision_data decision = object (with_did (did decision) (decision_notation decision) (with_reason decision no_members))

-- ---- a candidate

-- what a row of a layer holds that is a candidate for an id, as an end: a value, which may be a reference, or a bag
abbrev pub held : ResId → ℕ → CellOf → End
held id layer (PlainOf value) = of_end.Value layer value
held id layer (BagOf parent rows) = of_end.Bag id

unfoldable pub candidate_json : NamingOf → ResId → TracedCandidateOf → List ℕ
candidate_json naming id traced =
    line_json (with_member (codes "holds") (end_data naming None (held id traced.candidate.layer traced.candidate.row.cell))
    (with_member (codes "from") (place_data naming traced.candidate.layer traced.candidate.row.config) (with_member (codes "decision") (decision_data traced.decision) (line_members (codes "candidate")))))

-- ---- the look-ups

-- the line of an id, and those of its candidates
unfoldable pub look_up_json : NamingOf → List ℕ → ℕ → List ℕ
look_up_json naming d id =
    line_json (with_id naming id (line_members (codes "look-up")))
    ++ flat_map (candidate_json naming (record { 0 = id })) (scan_look_up traced naming.stack d id)

-- the lines of each look-up, also of one without candidates, and that of the end
unfoldable pub explain_json : NamingOf → List ℕ → ℕ → List ℕ
explain_json naming d id =
    flat_map (look_up_json naming d) (look_ups_of naming.stack references_followed id d)
    ++ line_json (with_end_at naming d id (line_members (codes "end")))
