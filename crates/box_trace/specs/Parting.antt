-- The question at which the members of a box part.
use Rattle.std.specs.Prelude.{◌≡◌, ℕ, Bool, List}
use Rattle.std.specs.Option.{option_map}
use Rattle.bags_themes.specs.config_record.DeviceSeen.{device_numbers}
use Rattle.config_box.specs.box_answers.NumberSet.{SetOf}
use Rattle.config_box.specs.box_answers.Members.{IsMember}
use Rattle.config_box.specs.box_answers.Sameness.{Separates}
use Rattle.bags_themes.specs.overlay_map.Candidates.{cand_of}
use Rattle.bags_themes.specs.reference_resolver.declared.step.Step.{Step}
use Rattle.bags_themes.specs.reference_resolver.Selection.{step_of}
use Rattle.bags_themes.specs.reference_resolver.Trace.{Trace}
use Rattle.box_trace.specs.declared.parting.Asked.{Asked}
use Rattle.box_trace.specs.declared.parting.Asked.TheVariants.{Matches, TakesOver}
use Rattle.box_trace.specs.declared.parting.Parting.{Parting}
use Rattle.box_trace.specs.Division.{has_matched, has_taken_over, Divides}

-- the answer, where a candidate does this
abbrev pub says_yes : Asked → Step → Bool
says_yes Matches step = has_matched step
says_yes TakesOver step = has_taken_over step

-- what a device answers to the question
unfoldable pub answer_of : Parting → List ℕ → Bool
answer_of parting d = says_yes parting.asked (step_of (option_map cand_of parting.best) (cand_of parting.candidate) d)

-- members with one trace answer alike
abbrev pub TraceTells : {X : Type 0} → (List ℕ → Type 0) → (List ℕ → X) → (List ℕ → Bool) → Type 0
TraceTells members trace answer = (d e : List ℕ) → members d → members e → trace d ≡ trace e → answer d ≡ answer e

-- Two members side by side answer differently, and a member's trace tells its answer.
pub record IsToldApart (parting : Parting) (sets : List SetOf) (trace : List ℕ → Trace) : Type 0 where
  pub separates : Separates sets (answer_of parting) (device_numbers parting.pair.yes) (device_numbers parting.pair.no) parting.pair.coord
  pub trace_tells : TraceTells (IsMember sets) trace (answer_of parting)

-- no members part before
pub record IsParting (parting : Parting) (sets : List SetOf) (trace : List ℕ → Trace) : Type 0 where
  pub told : IsToldApart parting sets trace
  pub divides : Divides (IsMember sets) (λ d. (trace d).steps) (device_numbers parting.pair.yes) (device_numbers parting.pair.no)
