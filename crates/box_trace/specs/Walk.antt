-- What lies ahead of a walk along the candidates of one look-up after the other.
use Rattle.std.specs.Prelude.{◌≡◌, ℕ, List, drop, Option}
use Rattle.std.specs.Option.{option_map}
use Rattle.std.specs.List.{All}
use Rattle.bags_themes.specs.AttributeTrace.{behind}
use Rattle.bags_themes.specs.Course.{after_course}
use Rattle.bags_themes.specs.overlay_map.Layer.{LayerOf}
use Rattle.bags_themes.specs.overlay_map.Candidates.{CandOf, cand_of}
use Rattle.bags_themes.specs.reference_resolver.declared.step.Step.{Step}
use Rattle.bags_themes.specs.reference_resolver.Selection.{step_of, scan_candidates, best_of}
use Rattle.bags_themes.specs.reference_resolver.Trace.{Trace}
use Rattle.box_trace.specs.declared.walk.Walk.{Walk}
use Rattle.box_trace.specs.Live.{LiveOf, candidates_in, does_match, LeavesOut}
use Rattle.box_trace.specs.Parting.{TraceTells}

-- The trace from here on, in a look-up: these candidates are ahead, this is the best of those before them, and this
-- lies behind the look-up, by what is selected.
abbrev pub rest_at : (Option CandOf → List ℕ → Trace) → Option CandOf → List CandOf → List ℕ → Trace
rest_at after best ahead d = behind (scan_candidates step_of best ahead d) (after (best_of best ahead d) d)

-- all members have come by the same steps to where the rest of their traces begins
pub record HaveCome (members : List ℕ → Type 0) (trace rest : List ℕ → Trace) : Type 0 where
  pub before : List Step
  pub same : (d : List ℕ) → members d → trace d ≡ behind before (rest d)

-- what lies behind the look-up at which a walk stands
abbrev pub after_walk : List LayerOf → Walk → Option CandOf → List ℕ → Trace
after_walk stack walk = after_course stack walk.course walk.id.0

abbrev pub best_at : Walk → Option CandOf
best_at walk = option_map cand_of walk.best

-- those of its list that are ahead
abbrev pub live_ahead : Walk → List LiveOf
live_ahead walk = drop walk.passed walk.live.value

-- All members have come by the same steps to where a walk stands. Of the candidates ahead its list leaves out some that match
-- no member.
pub record HaveWalked (stack : List LayerOf) (members : List ℕ → Type 0) (trace : List ℕ → Trace) (walk : Walk) : Type 0 where
  pub ahead : List CandOf
  pub come : HaveCome members trace (rest_at (after_walk stack walk) (best_at walk) ahead)
  pub left_out : LeavesOut members ahead (candidates_in (live_ahead walk))

-- of each candidate ahead of a walk a member's trace tells whether it matches
abbrev pub TellsMatches : (List ℕ → Type 0) → (List ℕ → Trace) → Walk → Type 0
TellsMatches members trace walk = All (λ live. TraceTells members trace (does_match live.candidate)) (live_ahead walk)
