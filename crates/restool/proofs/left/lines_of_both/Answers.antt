use Rattle.std.proofs.Common.{◌≡◌, ◌≢◌, ◌∙◌, ap, sym, ◌++◌, inl, inr, ℕ, List, arith, Option, Some, None, Result, Ok, Err, refl}
use Rattle.std.specs.Prelude.{◌⊎◌, IfSome}
use Rattle.std.proofs.lemmas.Result.{err_from_is_err_and}
use Rattle.command_base.proofs.StopSteps.{IfSome-all}
use Rattle.resource_tool.specs.command_base.declared.fault.ToolFault.TheVariants.{OutOfMemory}
use Rattle.resource_tool.specs.command_base.declared.stop.Stop.{Stop}
use Rattle.resource_tool.specs.command_base.Inputs.{Places, layers_on_side}
use Rattle.resource_tool.specs.command_base.StackBytes.{LayerBytes}
use Rattle.resource_tool.specs.command_base.Stop.{StopOf, stop_of, tool}
use Rattle.resource_tool.specs.command_base.declared.side.Side.TheVariants.{Old, New}
use Rattle.restool.proofs.LeftLines.{read-of-both, unmade-of-both}
use Rattle.restool.proofs.left.lines_of_both.Goals as goal

-- the old layers are not read
at-old : (known : Option Places) (old new : Places → Result (List LayerBytes) StopOf) (stop : Stop)
    → IfSome known (λ places. stop_of stop ≢ tool OutOfMemory → old places ≡ Err (stop_of stop))
    → IfSome known (λ places. stop_of stop ≢ tool OutOfMemory
    → (old places ≡ Err (stop_of stop)) ⊎ ((read : List LayerBytes) × (old places ≡ Ok read) × (new places ≡ Err (stop_of stop))))
at-old None old new stop stops = tt
at-old (Some places) old new stop stops = λ told. inl (stops told)

-- the old layers are read, and the new ones are not
behind-old : (known : Option Places) (old new : Places → Result (List LayerBytes) StopOf) (Says : Places → List LayerBytes → Type 0) (stop : Stop)
    → IfSome known (λ places. (read : List LayerBytes) × (old places ≡ Ok read) × Says places read)
    → IfSome known (λ places. stop_of stop ≢ tool OutOfMemory → new places ≡ Err (stop_of stop))
    → IfSome known (λ places. stop_of stop ≢ tool OutOfMemory
    → (old places ≡ Err (stop_of stop)) ⊎ ((read : List LayerBytes) × (old places ≡ Ok read) × (new places ≡ Err (stop_of stop))))
behind-old None old new Says stop first stops = tt
behind-old (Some places) old new Says stop (read, is, says) stops = λ told. inr (read, is, stops told)

pub returns-in_err-lines : goal.returns-in_err-lines
returns-in_err-lines g c =
    let p = err_from_is_err_and c.from_residual.result c.from_residual.ensures.1 in
    rw (p.1, p.2) (at-old (g.I.Inputs.places c.args.inputs.now) _ _ c.in_err-lines.field-0.0 c.in_err-lines.ensures)

pub returns-in_err-of_new : goal.returns-in_err-of_new
returns-in_err-of_new g c =
    let p = err_from_is_err_and c.from_residual-in_err-of_new.result c.from_residual-in_err-of_new.ensures.1 in
    rw (p.1, p.2) (behind-old (g.I.Inputs.places c.args.inputs.now) _ _ _ c.in_err-of_new.field-0.0 c.in_ok-lines.ensures c.in_err-of_new.ensures)

pub returns-in_err-extend_from_slice : goal.returns-in_err-extend_from_slice
returns-in_err-extend_from_slice g c =
    let p = err_from_is_err_and c.from_residual-in_err-extend_from_slice.result c.from_residual-in_err-extend_from_slice.ensures.1 in
    rw (p.1, p.2) (IfSome-all (g.I.Inputs.places c.args.inputs.now) (λ places told. absurd (told refl)))

pub returns-then-not-name_overlays : goal.returns-then-not-name_overlays
returns-then-not-name_overlays g c = (
  unmade-of-both (g.I.Inputs.places c.args.inputs.now) (Some Old) (Some New) c.args.old.now c.args.new.now c.new.result.items (λ places. layers_on_side Old places c.args.old.now) (λ places. layers_on_side New places c.args.new.now)
      (sym c.if-not-name_overlays.ensures) c.new.ensures.items,
  λ off. c.new.ensures.items,
)

pub returns : goal.returns
returns g c = (
  read-of-both (g.I.Inputs.places c.args.inputs.now) (Some Old) (Some New) c.args.old.now c.args.new.now c.in_ok-lines.lines.items c.in_ok-of_new.of_new.items c.extend_from_slice.new.self.items
      (λ places. layers_on_side Old places c.args.old.now) (λ places. layers_on_side New places c.args.new.now) c.in_ok-lines.ensures c.in_ok-of_new.ensures
      (c.in_ok-extend_from_slice.ensures.items ∙ ap (λ (behind : List ℕ). c.in_ok-lines.lines.items ++ behind) c.deref.ensures.value),
  λ off. absurd (grind (arith, off, c.if-not-name_overlays.ensures)),
)
