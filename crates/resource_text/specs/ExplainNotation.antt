-- How an id comes to its end at a device, which is the list of its numbers, in Android's notation: of each look-up the candidates
-- that match, and what each does there; and the end.
use Rattle.std.specs.Prelude.{ℕ, ◌-◌, ◌==◌, ◌||◌, Bool, true, false, List, [], ◌∷◌, ◌++◌, codes, filter, length, map, if◌then◌else◌}
use Rattle.std.specs.List.{flat_map}
use Rattle.std.specs.Fmt.{decimal}
use Rattle.notation.specs.ConfigText.{config_text}
use Rattle.res_value.specs.Cell.{CellOf, PlainOf, BagOf}
use Rattle.reference_resolver.specs.declared.decision.Decision.{Decision}
use Rattle.reference_resolver.specs.declared.decision.Decision.TheVariants.{SetAside, NoMatch, First, TookOver, TookOverEqual, KeptOut}
use Rattle.reference_resolver.specs.Ends.{references_followed}
use Rattle.reference_resolver.specs.Trace.{look_ups_of, TracedCandidateOf, traced, scan_look_up}
use Rattle.resource_text.specs.Naming.{NamingOf, id_notation, value_at, layer_notation}
use Rattle.resource_text.specs.EndNotation.{end_at}
use Rattle.resource_text.specs.DecisionWords.{decision_notation}
use Rattle.resource_text.specs.Columns.{LineOf, columns_text}

-- ---- a candidate

-- what a row of a layer holds; the rows of a bag stand elsewhere
unfoldable pub held_notation : NamingOf → ℕ → CellOf → List ℕ
held_notation naming layer (PlainOf value) = value_at naming layer value
held_notation naming layer (BagOf parent rows) = codes "bag"

unfoldable pub traced_line : NamingOf → TracedCandidateOf → LineOf
traced_line naming traced = record {
  layer = layer_notation naming traced.candidate.layer;
  config = config_text traced.candidate.row.config;
  value = held_notation naming traced.candidate.layer traced.candidate.row.cell;
  decision = decision_notation traced.decision;
}

-- ---- the candidates of a look-up

abbrev pub matches : Decision → Bool
matches SetAside = false
matches (NoMatch coord) = false
matches First = true
matches (TookOver rule) = true
matches TookOverEqual = true
matches (KeptOut rule) = true

-- those that match, and the others where all are asked for
abbrev pub is_shown : Bool → TracedCandidateOf → Bool
is_shown all traced = all || matches traced.decision

abbrev pub shown_lines : NamingOf → Bool → List TracedCandidateOf → List LineOf
shown_lines naming all candidates = map (traced_line naming) (filter (is_shown all) candidates)

-- the line `  N more rows do not match`, where there are any; behind no other line they are not more
unfoldable pub hidden_line : ℕ → ℕ → List ℕ
hidden_line shown hidden =
    if hidden == 0 then []
    else
    codes "  " ++ decimal hidden ++ (if shown == 0 then [] else codes " more") ++ codes " "
    ++ (if hidden == 1 then codes "row does" else codes "rows do") ++ codes " not match" ++ 10 ∷ []

unfoldable pub candidates_notation : NamingOf → Bool → List TracedCandidateOf → List ℕ
candidates_notation naming all candidates =
    let lines = shown_lines naming all candidates in
    columns_text lines ++ hidden_line (length lines) (length candidates - length lines)

-- ---- the look-ups

-- the line of an id, and those of its candidates
unfoldable pub look_up_notation : NamingOf → Bool → List ℕ → ℕ → List ℕ
look_up_notation naming all d id =
    id_notation naming id ++ 10 ∷ [] ++ candidates_notation naming all (scan_look_up traced naming.stack d id)

-- the lines of each look-up, also of one without candidates, and that of the end
unfoldable pub explain_notation : NamingOf → Bool → List ℕ → ℕ → List ℕ
explain_notation naming all d id =
    flat_map (look_up_notation naming all d) (look_ups_of naming.stack references_followed id d) ++ end_at naming d id ++ 10 ∷ []
