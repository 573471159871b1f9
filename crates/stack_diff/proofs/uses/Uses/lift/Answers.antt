use Rattle.std.proofs.Common.{rules, arith}
use Rattle.stack_diff.specs.Raising.{level_of}
use Rattle.stack_diff.proofs.CellSteps.{put-here, put-other, put-nowhere, put-alongside, no-layer}
use Rattle.stack_diff.proofs.uses.Uses.lift.Goals as goal

pub returns-in-Some-clause-here : goal.returns-in-Some-clause-here
returns-in-Some-clause-here c =
    put-here (λ layer. layer.items) c.args.self.now.layers.items c.args.row.now c.in-Some.layer.now c.lift_in.new.layer (omega (arith, c.in-Some.ensures.variant.0 (search rules), c.args.self.now.layers.ok.0)) c.in-Some.ensures.value c.args.asks
    (level_of c.args.to) c.lift_in.ensures.here

pub returns-in-Some-clause-others : goal.returns-in-Some-clause-others
returns-in-Some-clause-others c =
    put-other (λ layer. layer.items) c.args.self.now.layers.items c.args.row.now c.in-Some.layer.now c.lift_in.new.layer (omega (arith, c.in-Some.ensures.variant.0 (search rules), c.args.self.now.layers.ok.0)) c.in-Some.ensures.value
    c.lift_in.ensures.others

pub returns-in-Some-clause-nowhere : goal.returns-in-Some-clause-nowhere
returns-in-Some-clause-nowhere c =
    put-nowhere (λ layer. layer.items) c.args.self.now.layers.items c.args.row.now c.in-Some.layer.now c.lift_in.new.layer (omega (arith, c.in-Some.ensures.variant.0 (search rules), c.args.self.now.layers.ok.0)) c.in-Some.ensures.value
    c.lift_in.ensures.nowhere

pub returns-in-Some-clause-alongside : goal.returns-in-Some-clause-alongside
returns-in-Some-clause-alongside c =
    put-alongside (λ layer. layer.items) c.args.self.now.layers.items c.args.row.now c.in-Some.layer.now c.lift_in.new.layer (omega (arith, c.in-Some.ensures.variant.0 (search rules), c.args.self.now.layers.ok.0)) c.in-Some.ensures.value
    c.lift_in.ensures.count

pub returns-in_default-clause-here : goal.returns-in_default-clause-here
returns-in_default-clause-here c = λ told at.
    absurd (no-layer (λ layer. layer.items) c.args.self.now.layers.items c.args.row.now (λ within. let some = c.in_default.ensures.variant.1 (omega (arith, within, c.args.self.now.layers.ok.0)) in search rules) told at)
