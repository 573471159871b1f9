-- What was opened, and the resources that are asked for.
use Rattle.std.proofs.Common.{◌≡◌, ◌≢◌, ℕ, List, Result, Ok, Err, refl, sym, ap, ◌∙◌}
use Rattle.contract_words.specs.Faults.{◌>>=◌}
use Rattle.command_base.specs.json_input.Each.{each}
use Rattle.command_base.specs.declared.fault.ToolFault.{ToolFault}
use Rattle.command_base.specs.declared.fault.ToolFault.TheVariants.{OutOfMemory}
use Rattle.command_base.specs.FileWords.{set_asked}
use Rattle.command_base.specs.Stop.{StopOf, stop_of, stop_of_name, tool}
use Rattle.command_base.specs.names.NamedSet.{NamedSetOf}
use Rattle.stack_diff.specs.names.NameFault.{name_fault_of}
use Rattle.stack_diff.specs.names.Pairs.{PairOf}
use Rattle.stack_diff.specs.names.declared.fault.NameFault.{NameFault}
use Rattle.stack_diff.specs.names.declared.fault.NameFault.TheVariants as of_names
use Rattle.stack_diff.specs.Stacks.{StacksOf}
use Rattle.resource_tool.specs.AskedPairs.{asked_of, asked_pairs}
use Rattle.resource_tool.specs.Diff.{OpenDiffOf, opened_asked}
use Rattle.resource_tool.specs.DiffInputs.{DiffInputs}
use Rattle.resource_tool.proofs.Answering.{found_stops}

-- the words are read, and what is asked of is opened
pub opened-with : (words : List (List ℕ)) (sets : List NamedSetOf) (read : Result DiffInputs ToolFault) (opened : DiffInputs)
    → each set_asked words ≡ Ok sets → read ≡ Ok opened → opened_asked words read ≡ asked_of opened sets
unfolding opened_asked
opened-with words sets read opened asked is = rw (asked, is) refl

-- what the words ask for is found
pub asked-with : (sets : List NamedSetOf) (opened seen : DiffInputs) (stacks : StacksOf) (pairs : List PairOf)
    → seen ≡ opened → stacks ≡ seen.stacks → asked_pairs stacks sets ≡ Ok pairs → asked_of opened sets ≡ Ok (record { opened = seen; pairs = pairs })
asked-with sets opened seen stacks pairs is same found =
    let these : asked_pairs seen.stacks sets ≡ Ok pairs = ap (λ (of : StacksOf). asked_pairs of sets) (sym same) ∙ found in
    ap (λ (of : DiffInputs). asked_of of sets) (sym is) ∙ (rw these refl)

-- or they ask for nothing
pub asked-stops : (sets : List NamedSetOf) (opened seen : DiffInputs) (stacks : StacksOf) (fault : NameFault) → seen ≡ opened → stacks ≡ seen.stacks
    → (fault ≢ of_names.OutOfMemory → asked_pairs stacks sets ≡ Err (name_fault_of fault)) → stop_of (stop_of_name fault) ≢ tool OutOfMemory
    → asked_of opened sets ≡ Err (stop_of (stop_of_name fault))
asked-stops sets opened seen stacks fault is same stops told =
    let these = same ∙ ap (λ (of : DiffInputs). of.stacks) is in
    let next : List PairOf → Result OpenDiffOf StopOf = λ pairs. Ok (record { opened = opened; pairs = pairs }) in
    ap (λ (pairs : Result (List PairOf) StopOf). pairs >>= next)
    (found_stops (asked_pairs opened.stacks sets) fault (λ other. ap (λ (of : StacksOf). asked_pairs of sets) (sym these) ∙ stops other) told)
