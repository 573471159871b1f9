use Rattle.std.proofs.Common.{ℕ, List, Result, Ok, refl, sym, ◌∙◌}
use Rattle.std.proofs.lemmas.Result.{err_from_is_err_and}
use Rattle.command_base.specs.MadeOver.{MadeOf}
use Rattle.command_base.specs.declared.fault.ToolFault.{ToolFault}
use Rattle.command_base.proofs.MadeOverSteps.{over-tables}
use Rattle.command_base.proofs.made_map.MadeMap.over.Goals as goal

pub returns-in_err-target : goal.returns-in_err-target
returns-in_err-target c =
    let p = err_from_is_err_and c.from_residual.result c.from_residual.ensures.1 in
    rw (p.1, p.2) (λ other. over-tables c.args.before.now c.args.base c.args.target.now c.args.place c.args.overlay.now _ _ (c.in_err-target.ensures.value other) refl)

pub returns-in_err-overlay : goal.returns-in_err-overlay
returns-in_err-overlay c =
    let p = err_from_is_err_and c.from_residual-in_err-overlay.result c.from_residual-in_err-overlay.ensures.1 in
    rw (p.1, p.2)
    (λ other. over-tables c.args.before.now c.args.base c.args.target.now c.args.place c.args.overlay.now _ _ c.in_ok-target.ensures.value (c.in_err-overlay.ensures.value other))

pub returns : goal.returns
returns c =
    let made = c.in_ok-made.ensures in
    let is : List ℕ → List ℕ → Result MadeOf ToolFault = λ json left. Ok (record { json = json; left = left }) in
    over-tables c.args.before.now c.args.base c.args.target.now c.args.place c.args.overlay.now _ _ c.in_ok-target.ensures.value c.in_ok-overlay.ensures.value
    ∙ (λ k. is (sym made.0 k) (sym made.1 k))
