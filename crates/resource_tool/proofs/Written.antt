-- What is printed where the writer does not fail.
use Rattle.std.proofs.Common.{◌≡◌, ℕ, List, Option, Result, Ok, Err, MatchResult, refl}
use Rattle.std.specs.declared.io.Error.{Error}
use Rattle.contract_words.specs.Writes.{Writes}
use Rattle.command_base.specs.declared.fault.ToolFault.{ToolFault}
use Rattle.command_base.specs.declared.fault.ToolFault.TheVariants.{Write}
use Rattle.command_base.specs.declared.status.Status.{Status}
use Rattle.command_base.specs.Output.{Output, Prints}

pub printed_if_written : {W : Type 0} (contents : W → Option (List ℕ)) (old new : W) (wrote : Result (Unit {0}) Error) (result : Result Status ToolFault) (output : Output)
    → Writes contents old new wrote output.text → MatchResult wrote (λ done. result ≡ Ok output.status) (λ fault. result ≡ Err Write) → Prints contents old new result (Ok output)
printed_if_written contents old new (Ok done) result output put same = rw same (output.text, refl, put)
printed_if_written contents old new (Err fault) result output put same = rw same refl
