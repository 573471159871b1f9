-- What places have, read one after the other, up to the first stop.
use Rattle.std.proofs.Common.{◌≡◌, ◌≢◌, Option, Some, None, IfSome, Result, Ok, Err, ap, ◌∙◌}
use Rattle.contract_words.specs.Faults.{◌>>=◌}
use Rattle.command_base.specs.Inputs.{Places}
use Rattle.command_base.specs.declared.fault.ToolFault.TheVariants.{OutOfMemory}
use Rattle.command_base.specs.declared.stop.Stop.{Stop}
use Rattle.command_base.specs.Stop.{StopOf, stop_of, tool}

-- the first is not read
pub first_stops : {A X : Type 0} (known : Option Places) (first : Places → Result A StopOf) (next : Places → A → Result X StopOf) (stop : Stop)
    → IfSome known (λ places. stop_of stop ≢ tool OutOfMemory → first places ≡ Err (stop_of stop))
    → IfSome known (λ places. stop_of stop ≢ tool OutOfMemory → first places >>= next places ≡ Err (stop_of stop))
first_stops None first next stop is = tt
first_stops {A} (Some places) first next stop is = λ told. ap (λ (r : Result A StopOf). r >>= next places) (is told)

-- the first is read, and one behind it is not
pub behind_stops : {A X : Type 0} (known : Option Places) (first : Places → Result A StopOf) (next : Places → A → Result X StopOf) (a : A) (stop : Stop)
    → IfSome known (λ places. first places ≡ Ok a)
    → IfSome known (λ places. stop_of stop ≢ tool OutOfMemory → next places a ≡ Err (stop_of stop))
    → IfSome known (λ places. stop_of stop ≢ tool OutOfMemory → first places >>= next places ≡ Err (stop_of stop))
behind_stops None first next a stop is behind = tt
behind_stops {A} (Some places) first next a stop is behind = λ told. ap (λ (r : Result A StopOf). r >>= next places) is ∙ behind told

-- the first is read, and what comes behind it
pub behind_read : {A X : Type 0} (known : Option Places) (first : Places → Result A StopOf) (next : Places → A → Result X StopOf) (a : A) (x : X)
    → IfSome known (λ places. first places ≡ Ok a) → IfSome known (λ places. next places a ≡ Ok x)
    → IfSome known (λ places. first places >>= next places ≡ Ok x)
behind_read None first next a x is behind = tt
behind_read {A} (Some places) first next a x is behind = ap (λ (r : Result A StopOf). r >>= next places) is ∙ behind

-- the last is read
pub last_read : {A X : Type 0} (known : Option Places) (last : Places → Result A StopOf) (made : A → X) (a : A)
    → IfSome known (λ places. last places ≡ Ok a) → IfSome known (λ places. last places >>= (λ x. Ok (made x)) ≡ Ok (made a))
last_read None last made a is = tt
last_read {A} (Some places) last made a is = ap (λ (r : Result A StopOf). r >>= λ x. Ok (made x)) is
