-- What a verdict on a certificate promises, from the bytes of all inputs, by language and region. (By either rule of locales
-- `IsCheckOutput` says it of inputs that were opened.)
use Rattle.std.specs.Prelude.{◌≡◌, ℕ, List, Option, Ok}
use Rattle.std.specs.Io.KnownBytes.{Appends}
use Rattle.resource_text.specs.cert_maker.res_value.Goal.{GoalSeen}
use Rattle.resource_text.specs.cert_maker.cert_checker.declared.verdict.Verdict.{Verdict}
use Rattle.resource_text.specs.cert_maker.cert_checker.Headline.{Headline}
use Rattle.command_base.specs.declared.status.Status.{Status}
use Rattle.command_base.specs.StackBytes.{LayerBytes}
use Rattle.resource_tool.specs.CheckOutput.{CheckInputs, check_inputs, check_text, status_of_verdict}

-- The bytes mean layers, a box and a certificate, and a verdict was printed, of which the headline holds: if the checker
-- accepts a certificate for a stack of tables and overlays, a box and named goals, then for every configuration in the box
-- and every goal, the selection, overlay, bag, theme and reference rules end within twenty attribute steps and twenty
-- references at the value of the leaf that the configuration reaches; if it rejects, the node it names is the first whose
-- stated rule fails. (Of an id no bag, theme or attribute is asked. The goals are those that are asked, in their order. A
-- box is never empty: `ConfigBox::read` promises `IsBox` of what the bytes mean.)
pub record HeadlineHolds (layers : List LayerBytes) (box_json cert_json : List ℕ) (asked : List GoalSeen) (old new : Option (List ℕ)) (status : Status) : Type 0 where
  pub inputs : CheckInputs
  pub verdict : Verdict
  pub means : check_inputs layers box_json cert_json ≡ Ok inputs
  pub ends : status ≡ status_of_verdict verdict
  pub printed : Appends old new (check_text inputs verdict)
  pub holds : Headline inputs.stack inputs.sets asked inputs.trees verdict
