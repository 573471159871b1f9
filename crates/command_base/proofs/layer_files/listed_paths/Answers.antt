use Rattle.std.proofs.Common.{string_bytes}
use Rattle.command_base.specs.ListWordSeen.{listed_of}
use Rattle.command_base.proofs.LoopSteps.{each_seen-next, each_seen-end}
use Rattle.command_base.proofs.layer_files.listed_paths.Goals as goal

pub loop-layer-preserved : goal.loop-layer-preserved
loop-layer-preserved c =
    each_seen-next string_bytes listed_of (λ layer. layer.path) c.loop-layer.paths.items c.push.new.self.items c.args.layers.now c.loop-layer.layer-index c.in_ok-path.path _ c.loop-layer.invariant
    c.loop-layer-test.true c.in_ok-path.ensures.ok c.in_ok-push.ensures.items

pub returns : goal.returns
returns c =
    each_seen-end string_bytes listed_of (λ layer. layer.path) c.loop-layer.paths.items c.args.layers.now c.loop-layer.layer-index c.loop-layer.invariant c.loop-layer-test.false
