-- What is opened of two stacks of layers and a box.
use Rattle.std.proofs.Common.{◌≡◌, ◌≢◌, ℕ, List, ◌++◌, Option, Some, None, Result, Ok, Err, refl, ap, unwrap_or, ◌∙◌}
use Rattle.command_base.specs.MapErr.{map_err}
use Rattle.command_base.specs.StackBytes.{LayerBytes, stack_in, stack_on_side}
use Rattle.command_base.specs.ToolFault.{fault_of_box, fault_on_side}
use Rattle.command_base.specs.declared.fault.ToolFault.{ToolFault}
use Rattle.command_base.specs.declared.fault.ToolFault.TheVariants.{OutOfMemory}
use Rattle.command_base.specs.declared.side.Side.TheVariants.{Old, New}
use Rattle.command_base.specs.overlay_map.Layer.{LayerOf}
use Rattle.stack_diff.specs.ComparedWith.{itself_if}
use Rattle.stack_diff.specs.Stacks.{StacksOf}
use Rattle.stack_diff.specs.config_box.BoxJson.{box_in_by}
use Rattle.stack_diff.specs.config_box.box_answers.NumberSet.{SetOf}
use Rattle.stack_diff.specs.config_box.config_record.locales.declared.locale_rule.LocaleRule.{LocaleRule}
use Rattle.stack_diff.specs.config_box.declared.box_fault.BoxFault.{BoxFault}
use Rattle.stack_diff.specs.config_box.declared.box_fault.BoxFault.TheVariants as of_box
use Rattle.stack_diff.specs.names.NamedIds.{packages_of}
use Rattle.stack_diff.specs.names.Packages.{PackageNameOf}
use Rattle.resource_tool.specs.DiffInputs.{diff_inputs_by, have_same_bytes}
use Rattle.resource_tool.specs.OpenedDiffSeen.{stacks_seen}
use Rattle.resource_tool.specs.OpensChanged.{IsChanged}

-- layers that are read on one side are read on the other
on-new-side : (read : Result (List LayerOf) ToolFault) (stack : List LayerOf) → map_err (fault_on_side Old) read ≡ Ok stack → map_err (fault_on_side New) read ≡ Ok stack
on-new-side (Ok layers) stack is = is
on-new-side (Err fault) stack is = absurd cc

-- the new stack, which is the old one where its layers have the same bytes
pub new-stack : (old_bytes new_bytes : List LayerBytes) (old : List LayerOf) (changed : Option (List LayerOf)) → stack_on_side Old old_bytes ≡ Ok old
    → IsChanged old_bytes new_bytes changed → stack_on_side New new_bytes ≡ Ok (unwrap_or changed old)
new-stack old_bytes new_bytes old None read is = ap (λ (bytes : List LayerBytes). stack_on_side New bytes) is.1 ∙ on-new-side (stack_in old_bytes) old read
new-stack old_bytes new_bytes old (Some stack) read is = is.1

both-stacks : (old_bytes new_bytes : List LayerBytes) (old : List LayerOf) (changed : Option (List LayerOf)) (packages : List PackageNameOf) → IsChanged old_bytes new_bytes changed
    → record { old = old; new = unwrap_or changed old; packages = packages; compared = itself_if (have_same_bytes old_bytes new_bytes) } ≡ stacks_seen old changed packages
both-stacks old_bytes new_bytes old None packages is = rw is.0 refl
both-stacks old_bytes new_bytes old (Some stack) packages is = rw is.0 refl

module _ (rule : LocaleRule) (old_bytes new_bytes : List LayerBytes) (box_json : List ℕ) (old : List LayerOf) where
  pub box-stops : (changed : Option (List LayerOf)) (fault : BoxFault) → stack_on_side Old old_bytes ≡ Ok old
      → IsChanged old_bytes new_bytes changed → (fault ≢ of_box.OutOfMemory → box_in_by rule box_json ≡ Err fault)
      → fault_of_box fault ≢ OutOfMemory → diff_inputs_by rule old_bytes new_bytes box_json ≡ Err (fault_of_box fault)
  unfolding diff_inputs_by
  box-stops changed fault read new stops told = rw (read, new-stack old_bytes new_bytes old changed read new, stops (λ same. told (ap fault_of_box same))) refl

  pub inputs-read : (changed : Option (List LayerOf)) (sets : List SetOf) → stack_on_side Old old_bytes ≡ Ok old
      → IsChanged old_bytes new_bytes changed → box_in_by rule box_json ≡ Ok sets
      → diff_inputs_by rule old_bytes new_bytes box_json
      ≡ Ok (record { stacks = stacks_seen old changed (packages_of old ++ packages_of (unwrap_or changed old)); sets = sets; rule = rule })
  unfolding diff_inputs_by
  inputs-read changed sets read new box =
      let packages = packages_of old ++ packages_of (unwrap_or changed old) in
      rw (read, new-stack old_bytes new_bytes old changed read new, box)
      (ap (λ (stacks : StacksOf). Ok (record { stacks = stacks; sets = sets; rule = rule })) (both-stacks old_bytes new_bytes old changed packages new))
