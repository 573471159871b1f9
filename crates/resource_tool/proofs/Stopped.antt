-- What a command answers where something stops it.
use Rattle.std.proofs.Common.{◌≡◌, ◌≢◌, ℕ, List, Option, Result, Ok, Err, MatchResult, refl, subst, sym}
use Rattle.command_base.specs.CarriesOut.{CarriesOut, IsKept}
use Rattle.command_base.specs.Output.{Output, PrintsOneOf}
use Rattle.command_base.specs.Stop.{StopOf, tool}
use Rattle.command_base.specs.declared.fault.ToolFault.{ToolFault}
use Rattle.command_base.specs.declared.fault.ToolFault.TheVariants.{OutOfMemory, Write}
use Rattle.command_base.specs.declared.status.Status.{Status}
use Rattle.command_base.specs.declared.stop.Stop.{Stop}
use Rattle.command_base.specs.declared.stop.Stop.TheVariants.{Tool}
use Rattle.resource_tool.proofs.Answering.{carried_out}

-- what a fault leaves of the writer
pub kept-one_of : {W X : Type 0} (Allows : X → Output → Type 0) (contents : W → Option (List ℕ)) (old new : W) (fault : ToolFault) (meant : Result X ToolFault)
    → PrintsOneOf Allows contents old new (Err fault) meant → tool fault ≢ tool Write → new ≡ old
kept-one_of Allows contents old new OutOfMemory meant printed told = printed
kept-one_of Allows contents old new Write meant printed told = absurd (told refl)
kept-one_of Allows contents old new fault meant printed told = printed.1

-- ---- by what the command did

kept-by-done : {W X : Type 0} (Allows : X → Output → Type 0) (contents : W → Option (List ℕ)) (old new : W) (meant : Result X ToolFault) (done : Result Status ToolFault) (result : Result Status Stop)
    → PrintsOneOf Allows contents old new done meant → MatchResult done (λ status. result ≡ Ok status) (λ fault. result ≡ Err (Tool fault)) → IsKept old new result
kept-by-done Allows contents old new meant (Ok status) result printed same = subst (λ (r : Result Status Stop). IsKept old new r) (sym same) tt
kept-by-done Allows contents old new meant (Err fault) result printed same =
    subst (λ (r : Result Status Stop). IsKept old new r) (sym same) (kept-one_of Allows contents old new fault meant printed)

-- both
pub answered : {W X Y : Type 0} (Allows : X → Y → Output → Type 0) (input : X → Y) (contents : W → Option (List ℕ)) (old new : W) (meant : Result X StopOf) (held : X) (done : Result Status ToolFault) (result : Result Status Stop)
    → meant ≡ Ok held → PrintsOneOf (Allows held) contents old new done (Ok (input held)) → MatchResult done (λ status. result ≡ Ok status) (λ fault. result ≡ Err (Tool fault))
    → CarriesOut (λ read done. PrintsOneOf (Allows read) contents old new done (Ok (input read))) meant result × IsKept old new result
answered {W} {X} Allows input contents old new meant held done result is printed same = (
  carried_out (λ (read : X) (done : Result Status ToolFault). PrintsOneOf (Allows read) contents old new done (Ok (input read))) meant held done result is printed same,
  kept-by-done (Allows held) contents old new (Ok (input held)) done result printed same,
)
