use Rattle.std.proofs.Common.{List, Result, refl, subst, sym}
use Rattle.std.proofs.lemmas.Result.{err_from_is_err_and}
use Rattle.command_base.specs.StackBytesSeen.{layer_bytes}
use Rattle.command_base.specs.overlay_map.Layer.{LayerOf}
use Rattle.command_base.specs.declared.fault.ToolFault.TheVariants.{OutOfMemory}
use Rattle.command_base.specs.declared.fault.ToolFault.{ToolFault}
use Rattle.command_base.specs.contract_words.Exact.{GivesOr}
use Rattle.command_base.proofs.StackSteps.{of-parts}
use Rattle.command_base.proofs.stack.push_layer.Goals as goal

pub returns-in_err-table : goal.returns-in_err-table
returns-in_err-table c =
    let p = err_from_is_err_and c.from_residual.result c.from_residual.ensures.1 in
    rw (p.1, p.2)
    (λ other. of-parts c.args.stack.now c.len-place.result (layer_bytes c.args.layer) _ _ c.len-place.ensures.value (c.in_err-table.ensures.value other) refl, c.in_err-table.ensures.of_input)

pub returns-in_err-map : goal.returns-in_err-map
returns-in_err-map c =
    let p = err_from_is_err_and c.from_residual-in_err-map.result c.from_residual-in_err-map.ensures.1 in
    rw (p.1, p.2)
    (λ other. of-parts c.args.stack.now c.len-place.result (layer_bytes c.args.layer) _ _ c.len-place.ensures.value c.in_ok-table.ensures.value (c.in_err-map.ensures.0 other), c.in_err-map.ensures.1)

pub returns : goal.returns
returns c = (
  subst (λ (meant : Result (List LayerOf) ToolFault). GivesOr OutOfMemory (λ _. c.push.new.stack) c.push.result meant)
      (sym (of-parts c.args.stack.now c.len-place.result (layer_bytes c.args.layer) _ _ c.len-place.ensures.value c.in_ok-table.ensures.value c.in_ok-map.ensures.0))
      c.push.ensures.0,
  c.push.ensures.1,
)
