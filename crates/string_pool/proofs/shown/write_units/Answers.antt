use Rattle.std.proofs.Common.{List, ℕ, ◌++◌, sym, ap, ◌∙◌}
use Rattle.string_pool.specs.Shown.{units_text}
use Rattle.string_pool.specs.Units.{units_in}
use Rattle.string_pool.proofs.WriteSteps.{WroteAllBut-two, WroteAllBut-last}
use Rattle.string_pool.proofs.shown.write_units.Goals as goal

pub returns-in_default : goal.returns-in_default
returns-in_default g c =
    WroteAllBut-last _ _ _ _ _ _ _ c.loop-piece.invariant
    (c.plain_units-run.ensures.text ∙ ap (λ (t : List ℕ). t ++ units_text (units_in c.plain_units-run.result.1.now)) (sym c.deref.ensures.0))
    c.in_ok-write_all.ensures.bytes c.in_default.ensures.text

pub loop-piece-preserved : goal.loop-piece-preserved
loop-piece-preserved g c =
    WroteAllBut-two _ _ _ _ _ _ _ _ _ _ c.loop-piece.invariant
    (c.plain_units-run.ensures.text ∙ ap (λ (t : List ℕ). t ++ units_text (units_in c.plain_units-run.result.1.now)) (sym c.deref.ensures.0))
    c.in_ok-write_all.ensures.bytes c.in-Some.ensures.text c.in_ok-write_piece.ensures
