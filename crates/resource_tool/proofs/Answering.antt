-- What a command answers: of files that are not read, where what it prints names the paths of these, and of what is read.
use Rattle.std.proofs.Common.{◌≡◌, ◌≢◌, ℕ, List, Option, Some, None, IfSome, Result, Ok, Err, MatchResult, refl, sym, ap, subst, inl, inr}
use Rattle.contract_words.specs.Faults.{◌>>=◌}
use Rattle.command_base.specs.answer_text.bags_themes.declared.bag_fault.BagFault.{BagFault}
use Rattle.command_base.specs.answer_text.bags_themes.declared.bag_fault.BagFault.TheVariants as of_bag
use Rattle.command_base.specs.declared.fault.ToolFault.{ToolFault}
use Rattle.command_base.specs.declared.fault.ToolFault.TheVariants.{OutOfMemory, Write}
use Rattle.command_base.specs.declared.status.Status.{Status}
use Rattle.command_base.specs.declared.stop.Stop.{Stop}
use Rattle.command_base.specs.declared.stop.Stop.TheVariants.{Tool}
use Rattle.command_base.specs.Output.{Output, Prints}
use Rattle.resource_tool.specs.BagOutput.{no_bag}
use Rattle.resource_tool.specs.MapOutput.{MapOutput, PrintsBoth}
use Rattle.command_base.specs.Stop.{StopOf, stop_of, stop_of_name, tool}
use Rattle.command_base.specs.Inputs.{Places}
use Rattle.command_base.specs.names.NameFault.{NameFaultOf, name_fault_of}
use Rattle.command_base.specs.names.declared.fault.NameFault.{NameFault}
use Rattle.command_base.specs.names.declared.fault.NameFault.TheVariants as names
use Rattle.command_base.specs.CarriesOut.{CarriesOut, IsKept, found_or_stop}

pub stops_unread : {X Y : Type 0} (Command : Result Y StopOf → X → Result Status ToolFault → Type 0) (f : Y → Result X StopOf) (known : Option Places)
    (read : Places → Result Y StopOf) (stop : Stop)
    → IfSome known (λ places. stop_of stop ≢ tool OutOfMemory → read places ≡ Err (stop_of stop))
    → IfSome known (λ places. CarriesOut (Command (read places)) (read places >>= f) (Err stop))
stops_unread Command f None read stop given = tt
stops_unread {X} {Y} Command f (Some places) read stop given = λ told. inl (ap (λ (r : Result Y StopOf). r >>= f) (given told))

-- ---- what a fault leaves of the streams

pub kept_at_fault : {W : Type 0} (contents : W → Option (List ℕ)) (old new : W) (fault : ToolFault) (meant : Result Output ToolFault) → Prints contents old new (Err fault) meant
    → tool fault ≢ tool Write → new ≡ old
kept_at_fault contents old new OutOfMemory meant printed told = printed
kept_at_fault contents old new Write meant printed told = absurd (told refl)
kept_at_fault contents old new fault meant printed told = printed.1

pub both_kept_at_fault : {W V : Type 0} (contents : W → Option (List ℕ)) (says : V → Option (List ℕ)) (old new : W) (before after : V) (fault : ToolFault) (meant : Result MapOutput ToolFault)
    → PrintsBoth contents says old new before after (Err fault) meant → tool fault ≢ tool Write → (new ≡ old) × (after ≡ before)
both_kept_at_fault contents says old new before after OutOfMemory meant printed told = printed
both_kept_at_fault contents says old new before after Write meant printed told = absurd (told refl)
both_kept_at_fault contents says old new before after fault meant printed told = (printed.1, printed.2)

-- ---- by what the command did

pub carried_out : {X : Type 0} (Command : X → Result Status ToolFault → Type 0) (meant : Result X StopOf) (held : X) (done : Result Status ToolFault) (result : Result Status Stop)
    → meant ≡ Ok held → Command held done → MatchResult done (λ status. result ≡ Ok status) (λ fault. result ≡ Err (Tool fault)) → CarriesOut Command meant result
carried_out {X} Command meant held (Ok status) result is put same = subst (λ (r : Result Status Stop). CarriesOut Command meant r) (sym same) (held, is, put)
carried_out {X} Command meant held (Err fault) result is put same =
    subst (λ (r : Result Status Stop). CarriesOut Command meant r) (sym same) (λ told. inr (held, fault, is, refl, put))

pub kept_by_done : {W : Type 0} (contents : W → Option (List ℕ)) (old new : W) (meant : Result Output ToolFault) (done : Result Status ToolFault) (result : Result Status Stop)
    → Prints contents old new done meant → MatchResult done (λ status. result ≡ Ok status) (λ fault. result ≡ Err (Tool fault)) → IsKept old new result
kept_by_done contents old new meant (Ok status) result printed same = subst (λ (r : Result Status Stop). IsKept old new r) (sym same) tt
kept_by_done contents old new meant (Err fault) result printed same =
    subst (λ (r : Result Status Stop). IsKept old new r) (sym same) (kept_at_fault contents old new fault meant printed)

pub answered_on_read : {X : Type 0} (Command : X → Result Status ToolFault → Type 0) (known : Option Places) (read : Places → Result X StopOf) (held : X) (done : Result Status ToolFault)
    (result : Result Status Stop) → IfSome known (λ places. read places ≡ Ok held) → Command held done
    → MatchResult done (λ status. result ≡ Ok status) (λ fault. result ≡ Err (Tool fault)) → IfSome known (λ places. CarriesOut Command (read places) result)
answered_on_read Command None read held done result is put same = tt
answered_on_read Command (Some places) read held done result is put same = carried_out Command (read places) held done result is put same

-- both, of what was read
pub answered : {W X : Type 0} (answer : X → Result Output ToolFault) (contents : W → Option (List ℕ)) (old new : W) (held : X) (done : Result Status ToolFault) (result : Result Status Stop)
    → Prints contents old new done (answer held) → MatchResult done (λ status. result ≡ Ok status) (λ fault. result ≡ Err (Tool fault))
    → CarriesOut (λ read done. Prints contents old new done (answer read)) (Ok held) result × IsKept old new result
answered {W} {X} answer contents old new held done result printed same = (
  carried_out (λ (read : X) (done : Result Status ToolFault). Prints contents old new done (answer read)) (Ok held) held done result refl printed same,
  kept_by_done contents old new (answer held) done result printed same,
)

pub both_kept_by_done : {W V : Type 0} (contents : W → Option (List ℕ)) (says : V → Option (List ℕ)) (old new : W) (before after : V) (meant : Result MapOutput ToolFault)
    (done : Result Status ToolFault) (result : Result Status Stop) → PrintsBoth contents says old new before after done meant
    → MatchResult done (λ status. result ≡ Ok status) (λ fault. result ≡ Err (Tool fault)) → (IsKept old new result) × (IsKept before after result)
both_kept_by_done contents says old new before after meant (Ok status) result printed same =
    subst (λ (r : Result Status Stop). (IsKept old new r) × (IsKept before after r)) (sym same) (tt, tt)
both_kept_by_done contents says old new before after meant (Err fault) result printed same =
    let kept = both_kept_at_fault contents says old new before after fault meant printed in
    subst (λ (r : Result Status Stop). (IsKept old new r) × (IsKept before after r)) (sym same) ((λ told. (kept told).0), (λ told. (kept told).1))

-- ---- why there is no bag

pub printed_unless : {W : Type 0} (contents : W → Option (List ℕ)) (old new : W) (result : Result Status ToolFault) (fault : BagFault) (meant : Output)
    → (fault ≢ of_bag.OutOfMemory → Prints contents old new result (Ok (no_bag fault))) → (fault ≡ of_bag.OutOfMemory → (result ≡ Err OutOfMemory) × (new ≡ old))
    → (fault ≢ of_bag.OutOfMemory → meant ≡ no_bag fault) → Prints contents old new result (Ok meant)
printed_unless contents old new result of_bag.OutOfMemory meant printed memory is = rw (memory refl).0 (memory refl).1
printed_unless contents old new result of_bag.Absent meant printed memory is = rw (is (λ same. cc)) (printed (λ same. cc))
printed_unless contents old new result of_bag.Plain meant printed memory is = rw (is (λ same. cc)) (printed (λ same. cc))
printed_unless contents old new result of_bag.BagDepth meant printed memory is = rw (is (λ same. cc)) (printed (λ same. cc))

-- ---- of an input that is refused, before anything is written

pub refused : {W : Type 0} (contents : W → Option (List ℕ)) (stream : W) (fault : ToolFault) (meant : Result Output ToolFault) → (fault ≢ OutOfMemory → meant ≡ Err fault)
    → fault ≢ Write → Prints contents stream stream (Err fault) meant
refused contents stream OutOfMemory meant is of_input = refl
refused contents stream Write meant is of_input = absurd (of_input refl)
refused contents stream fault meant is of_input = (is (λ same. cc), refl)

pub both_refused : {W V : Type 0} (contents : W → Option (List ℕ)) (says : V → Option (List ℕ)) (stream : W) (errors : V) (fault : ToolFault) (meant : Result MapOutput ToolFault)
    → (fault ≢ OutOfMemory → meant ≡ Err fault) → fault ≢ Write → PrintsBoth contents says stream stream errors errors (Err fault) meant
both_refused contents says stream errors OutOfMemory meant is of_input = (refl, refl)
both_refused contents says stream errors Write meant is of_input = absurd (of_input refl)
both_refused contents says stream errors fault meant is of_input = (is (λ same. cc), refl, refl)

-- ---- of a name that stands for no resource

pub found_stops : {X : Type 0} (found : Result X NameFaultOf) (fault : NameFault) → (fault ≢ names.OutOfMemory → found ≡ Err (name_fault_of fault))
    → stop_of (stop_of_name fault) ≢ tool OutOfMemory → found_or_stop found ≡ Err (stop_of (stop_of_name fault))
found_stops found names.OutOfMemory is told = absurd (told refl)
found_stops found (names.NoResource name) is told = rw (is (λ same. cc)) refl
found_stops found (names.TwoResources both) is told = rw (is (λ same. cc)) refl
