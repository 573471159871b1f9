-- A command that is done on what was read.
use Rattle.std.proofs.Common.{◌≡◌, ◌≢◌, Option, Some, None, IfSome, Result, Ok, Err, ap, subst, sym, inl}
use Rattle.contract_words.specs.Faults.{◌>>=◌}
use Rattle.command_base.specs.declared.fault.ToolFault.{ToolFault}
use Rattle.command_base.specs.declared.fault.ToolFault.TheVariants.{OutOfMemory}
use Rattle.command_base.specs.declared.status.Status.{Status}
use Rattle.command_base.specs.declared.stop.Stop.{Stop}
use Rattle.command_base.specs.Stop.{StopOf, stop_of, tool}
use Rattle.command_base.specs.Inputs.{Places}
use Rattle.command_base.specs.CarriesOut.{CarriesOut}

-- the files are read, and an answer comes of them
pub read_then : {Y : Type 0} (Answer : Result Y StopOf → Type 0) (known : Option Places) (read : Places → Result Y StopOf) (held : Y)
    → IfSome known (λ places. read places ≡ Ok held) → Answer (Ok held) → IfSome known (λ places. Answer (read places))
read_then Answer None read held is_read given = tt
read_then Answer (Some places) read held is_read given = subst Answer (sym is_read) given

-- one of them is not
pub read_stops : {X Y : Type 0} (Command : X → Result Status ToolFault → Type 0) (f : Y → Result X StopOf) (known : Option Places) (read : Places → Result Y StopOf) (stop : Stop)
    → IfSome known (λ places. stop_of stop ≢ tool OutOfMemory → read places ≡ Err (stop_of stop))
    → IfSome known (λ places. CarriesOut Command (read places >>= f) (Err stop))
read_stops Command f None read stop given = tt
read_stops {X} {Y} Command f (Some places) read stop given = λ told. inl (ap (λ (r : Result Y StopOf). r >>= f) (given told))

-- the files are not read, and nothing is done
pub unread_stops : {X : Type 0} (Command : X → Result Status ToolFault → Type 0) (known : Option Places) (read : Places → Result X StopOf) (stop : Stop)
    → IfSome known (λ places. stop_of stop ≢ tool OutOfMemory → read places ≡ Err (stop_of stop))
    → IfSome known (λ places. CarriesOut Command (read places) (Err stop))
unread_stops Command None read stop is = tt
unread_stops Command (Some places) read stop is = λ told. inl (is told)
