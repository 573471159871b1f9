-- What a candidate does to the best before it, and why. A device is the list of its numbers.
use Rattle.std.specs.Prelude.{ℕ, not, List, Option, Some, None, if◌then◌else◌}
use Rattle.config_precedence.specs.config_match.declared.reason.Mismatch.{Mismatch}
use Rattle.config_precedence.specs.config_match.declared.reason.Mismatch.TheVariants as mismatches
use Rattle.config_precedence.specs.config_match.Matching.{mismatch_of}
use Rattle.config_precedence.specs.Precedence.{is_better, deciding_of, keeping_out_of}
use Rattle.overlay_map.specs.Candidates.{CandOf}
use Rattle.reference_resolver.specs.declared.step.Step.{Step}
use Rattle.reference_resolver.specs.declared.step.Step.TheVariants as steps
use Rattle.reference_resolver.specs.declared.decision.Decision.{Decision}
use Rattle.reference_resolver.specs.declared.decision.Decision.TheVariants.{SetAside, NoMatch, First, TookOver, TookOverEqual, KeptOut}
use Rattle.reference_resolver.specs.Selection.{beats}

-- One that matches, where this is the best before it, is kept out where it does not beat the best. Else it is
-- better, or it is of an overlay and its record is equal.
unfoldable pub decision_against : CandOf → CandOf → List ℕ → Decision
decision_against best candidate d =
    if not (beats candidate best d)
    then KeptOut (keeping_out_of candidate.row.config best.row.config d)
    else if is_better candidate.row.config best.row.config d
    then TookOver (deciding_of candidate.row.config best.row.config d)
    else TookOverEqual

-- one that matches
abbrev pub decision_of_match : Option CandOf → CandOf → List ℕ → Decision
decision_of_match None candidate d = First
decision_of_match (Some best) candidate d = decision_against best candidate d

-- one of which this fails first
abbrev pub decision_by : Option Mismatch → Option CandOf → CandOf → List ℕ → Decision
decision_by (Some mismatches.SetAside) best candidate d = SetAside
decision_by (Some (mismatches.At coord)) best candidate d = NoMatch coord
decision_by None best candidate d = decision_of_match best candidate d

abbrev pub decision_of : Option CandOf → CandOf → List ℕ → Decision
decision_of best candidate d = decision_by (mismatch_of candidate.row.config d) best candidate d

-- the same without the reason
abbrev pub step_by : Decision → Step
step_by SetAside = steps.NoMatch
step_by (NoMatch coord) = steps.NoMatch
step_by First = steps.TookOver
step_by (TookOver rule) = steps.TookOver
step_by TookOverEqual = steps.TookOver
step_by (KeptOut rule) = steps.KeptOut
