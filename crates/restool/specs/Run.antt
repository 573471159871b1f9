-- From words to the exit status.
use Rattle.std.specs.Prelude.{◌≡◌, ◌⊎◌, ℕ, Bool, true, false, List, Option, Result, Ok, Err, IfSome}
use Rattle.resource_tool.specs.command_base.declared.exit_status.ExitStatus.{ExitStatus}
use Rattle.resource_tool.specs.command_base.declared.status.Status.{Status}
use Rattle.resource_tool.specs.command_base.declared.stop.Stop.{Stop}
use Rattle.resource_tool.specs.command_base.Inputs.{Places}
use Rattle.resource_tool.specs.command_base.CarriesOut.{IsKept}
use Rattle.restool.specs.declared.request.Request.{Request}
use Rattle.restool.specs.declared.words_fault.WordsFault.{WordsFault}
use Rattle.restool.specs.Request.{Answers, AsksFor, ErrorsGet, layer_words}
use Rattle.restool.specs.WordsFault.{is_output, words_line, status_after_words}
use Rattle.restool.specs.Ending.{EndsAs, IsTold}
use Rattle.restool.specs.Left.{SaysLeft}

-- the streams that the program writes to
pub record Streams (W V : Type 0) : Type 0 where
  pub out : W
  pub errors : V

-- Words that ask for nothing that can be done. The stream of the fault got the line that says why, if that was written, on a
-- terminal maybe with a hint, and the other stream nothing.
abbrev pub TellsFault : {W V : Type 0} → (V → Option (List ℕ)) → Bool → Streams W V → Streams W V → WordsFault → Bool → ExitStatus → Type 0
TellsFault says is_terminal before after fault was_written ended =
    (ended ≡ status_after_words was_written fault)
    × (was_written ≡ true → IfSome (words_line fault) (IsTold says is_terminal before.errors after.errors))
    × (is_output fault ≡ false → after.out ≡ before.out)
    × (is_output fault ≡ true → after.errors ≡ before.errors)

-- A request is carried out: it is answered where it is known what the places have, and beside its answer it is said what the maps
-- leave out that were made for its layers. Where there is no answer, nothing is written to the output, unless a write failed.
abbrev pub CarriesOutRequest : {W V : Type 0} → (W → Option (List ℕ)) → (V → Option (List ℕ)) → Option Places → Bool → Streams W V → Streams W V → Request → Result Status Stop → Type 0
CarriesOutRequest {W} {V} contents says known is_terminal before after request outcome =
    (errors : V)
    × IfSome known (λ places. Answers is_terminal contents says before.out after.out before.errors errors places request outcome)
    × ErrorsGet is_terminal before.errors errors request outcome
    × SaysLeft says known errors after.errors (layer_words request) outcome
    × IsKept before.out after.out outcome

-- a request, and then the end
abbrev pub Works : {W V : Type 0} → (W → Option (List ℕ)) → (V → Option (List ℕ)) → Option Places → Bool → Streams W V → Streams W V → Request → Bool → ExitStatus → Type 0
Works {W} {V} contents says known is_terminal before after request was_written ended =
    (errors : V) × (outcome : Result Status Stop)
    × CarriesOutRequest contents says known is_terminal before (record { out = after.out; errors = errors }) request outcome
    × EndsAs says is_terminal errors after.errors outcome was_written ended

-- A run of the program: its words ask for nothing that can be done, or for a request. was_written says whether the stream took
-- what was said at the end.
abbrev pub Runs : {W V : Type 0} → (W → Option (List ℕ)) → (V → Option (List ℕ)) → Option Places → List (List ℕ) → Bool → Streams W V → Streams W V → Bool → ExitStatus → Type 0
Runs contents says known words is_terminal before after was_written ended =
    ((fault : WordsFault) × AsksFor words (Err fault) × TellsFault says is_terminal before after fault was_written ended)
    ⊎ ((request : Request) × AsksFor words (Ok request) × Works contents says known is_terminal before after request was_written ended)
