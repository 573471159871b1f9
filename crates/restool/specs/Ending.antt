-- The end of a run.
use Rattle.std.specs.Prelude.{◌≡◌, ℕ, Bool, true, false, List, [], ◌∷◌, ◌++◌, codes, Option, Some, None, Result, Ok, Err}
use Rattle.std.specs.Io.KnownBytes.{Appends}
use Rattle.resource_tool.specs.command_base.declared.exit_status.ExitStatus.{ExitStatus}
use Rattle.resource_tool.specs.command_base.declared.status.Status.{Status}
use Rattle.resource_tool.specs.command_base.declared.stop.Stop.{Stop}
use Rattle.resource_tool.specs.command_base.ExitStatus.{after_status}
use Rattle.resource_tool.specs.command_base.OneLine.{in_one_line}
use Rattle.resource_tool.specs.command_base.Stop.{stop_of, stop_line, status_of_stop}

-- `hint: HINT` in one line, where there is one
abbrev pub hint_line : Option (List ℕ) → List ℕ
hint_line None = []
hint_line (Some hint) = codes "hint: " ++ in_one_line hint ++ 10 ∷ []

-- Errors, which were before and are after, got this text, and on a terminal maybe a hint behind it.
abbrev pub IsTold : {V : Type 0} → (V → Option (List ℕ)) → Bool → V → V → List ℕ → Type 0
IsTold says is_terminal before after text =
    (hint : Option (List ℕ)) × (is_terminal ≡ false → hint ≡ None) × Appends (says before) (says after) (text ++ hint_line hint)

-- The end. Behind an answer nothing more is written, but on a terminal maybe a hint. Else errors got the line that says why, if
-- that was written.
abbrev pub EndsAs : {V : Type 0} → (V → Option (List ℕ)) → Bool → V → V → Result Status Stop → Bool → ExitStatus → Type 0
EndsAs says is_terminal before after (Ok status) was_written ended =
    (ended ≡ after_status status)
    × (is_terminal ≡ false → after ≡ before)
    × (was_written ≡ true → IsTold says is_terminal before after [])
EndsAs says is_terminal before after (Err stop) was_written ended =
    (ended ≡ status_of_stop (stop_of stop)) × (was_written ≡ true → IsTold says is_terminal before after (stop_line (stop_of stop)))
