-- Verdicts and rejections, in the form that is asked for.
use Rattle.std.specs.Prelude.{ℕ, List, ◌++◌, length, slice_get, Option, Some, None}
use Rattle.std.specs.List.{flat_map}
use Rattle.command_base.specs.answer_text.QueryText.{set_aside_line}
use Rattle.command_base.specs.answer_text.reference_resolver.declared.end.End.{End}
use Rattle.cert_maker.specs.res_value.Goal.{GoalSeen}
use Rattle.cert_maker.specs.cert_tree.Certificate.{NodeOf, GoalOf, node_count}
use Rattle.cert_maker.specs.cert_checker.declared.verdict.Verdict.{Verdict}
use Rattle.cert_maker.specs.cert_checker.declared.verdict.Verdict.TheVariants.{Accepted, Rejected}
use Rattle.cert_maker.specs.cert_checker.Paths.{leaf_end}
use Rattle.resource_text.specs.declared.line_form.LineForm.{LineForm}
use Rattle.resource_text.specs.declared.line_form.LineForm.TheVariants.{Text, Json}
use Rattle.resource_text.specs.declared.rejection.Rejection.{Rejection}
use Rattle.resource_text.specs.LineJson.{set_aside_json}
use Rattle.resource_text.specs.Naming.{NamingOf}
use Rattle.resource_text.specs.RejectionNotation.{rejection_notation}
use Rattle.resource_text.specs.VerdictJson.{accepted_json, failed_json, rejection_json}
use Rattle.resource_text.specs.VerdictText.{accepted_text, failed_line, rejection_text}

-- ---- the end that a node says

abbrev pub claim_of : Option NodeOf → Option End
claim_of None = None
claim_of (Some node) = leaf_end node

abbrev pub claim_in : Option GoalOf → ℕ → Option End
claim_in None node = None
claim_in (Some tree) node = claim_of (slice_get tree.nodes node)

-- that at which a certificate is rejected
abbrev pub claim_at : List GoalOf → Verdict → Option End
claim_at trees Accepted = None
claim_at trees (Rejected goal node rule shown) = claim_in (slice_get trees goal) node

-- a verdict on these trees, with that end
abbrev pub rejection_of : List GoalOf → Verdict → Rejection
rejection_of trees verdict = record { verdict = verdict; claimed = claim_at trees verdict }

-- ---- in any form

-- in Android's notation or as JSON, where the names of a stack are given
abbrev pub rejection_in : Option NamingOf → LineForm → List GoalSeen → Rejection → List ℕ
rejection_in None form asked rejection = rejection_text rejection.verdict
rejection_in (Some naming) (Text form) asked rejection = rejection_notation naming asked rejection.claimed rejection.verdict
rejection_in (Some naming) Json asked rejection = rejection_json naming asked rejection.claimed rejection.verdict

abbrev pub accepted_in : LineForm → List GoalOf → List ℕ
accepted_in (Text form) trees = accepted_text trees
accepted_in Json trees = accepted_json (length trees) (node_count trees)

-- a verdict on these trees
abbrev pub verdict_in : Option NamingOf → LineForm → List GoalSeen → List GoalOf → Verdict → List ℕ
verdict_in naming form asked trees Accepted = accepted_in form trees
verdict_in naming form asked trees (Rejected goal node rule shown) =
    rejection_in naming form asked (rejection_of trees (Rejected goal node rule shown))

-- how many of how many goals are rejected
unfoldable pub failed_in : LineForm → ℕ → ℕ → List ℕ
failed_in (Text form) failed goals = failed_line failed goals
failed_in Json failed goals = failed_json failed goals

-- one rejection after the other, and how many of how many goals these are
unfoldable pub rejections_in : Option NamingOf → LineForm → List GoalSeen → List Rejection → ℕ → List ℕ
rejections_in naming form asked rejections goals =
    flat_map (rejection_in naming form asked) rejections ++ failed_in form (length rejections) goals

-- how many rows are set aside
unfoldable pub set_aside_in : LineForm → ℕ → List ℕ
set_aside_in (Text form) count = set_aside_line count
set_aside_in Json count = set_aside_json count
