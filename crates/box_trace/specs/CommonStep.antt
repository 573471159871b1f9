-- What do all members of a box do alike at one candidate? (Cited by contracts of this crate alone.)
use Rattle.std.specs.Prelude.{◌≡◌, List, Option}
use Rattle.std.specs.Option.{option_map}
use Rattle.bags_themes.specs.config_record.DeviceSeen.{device_numbers}
use Rattle.config_box.specs.box_answers.NumberSet.{SetOf}
use Rattle.config_box.specs.box_answers.Members.{IsMember}
use Rattle.config_box.specs.box_answers.MemberAnswers.{AllAnswer}
use Rattle.config_box.specs.box_answers.Sameness.{Separates}
use Rattle.bags_themes.specs.overlay_map.Candidates.{CandOf, cand_of}
use Rattle.bags_themes.specs.reference_resolver.declared.step.Step.{Step}
use Rattle.bags_themes.specs.reference_resolver.Selection.{step_of, best_after}
use Rattle.box_trace.specs.declared.common.CommonStep.{CommonStep}
use Rattle.box_trace.specs.declared.common.CommonStep.TheVariants.{One, Mixed}
use Rattle.box_trace.specs.declared.parting.Parting.{Parting}
use Rattle.box_trace.specs.Division.{DividesAt}
use Rattle.box_trace.specs.Parting.{answer_of}

-- a question about this candidate, and this best before it, divides two members, side by side
pub record PartsAt (sets : List SetOf) (best : Option CandOf) (candidate : CandOf) (parting : Parting) : Type 0 where
  pub best_before : option_map cand_of parting.best ≡ best
  pub asked_of : cand_of parting.candidate ≡ candidate
  pub separates : Separates sets (answer_of parting) (device_numbers parting.pair.yes) (device_numbers parting.pair.no) parting.pair.coord
  pub divides : DividesAt (IsMember sets) (step_of best candidate) (device_numbers parting.pair.yes) (device_numbers parting.pair.no)

-- it does the same at all members, and this is the best after it
pub record StepAlike (sets : List SetOf) (best : Option CandOf) (candidate : CandOf) (after : Option CandOf) : Type 0 where
  pub step : Step
  pub does : AllAnswer (IsMember sets) (step_of best candidate) step
  pub is_after : after ≡ best_after step best candidate

-- one candidate more, where this is the best before it
abbrev pub IsCommonStep : CommonStep → List SetOf → Option CandOf → CandOf → Type 0
IsCommonStep (One after) sets best candidate = StepAlike sets best candidate (option_map cand_of after)
IsCommonStep (Mixed parting) sets best candidate = PartsAt sets best candidate parting
