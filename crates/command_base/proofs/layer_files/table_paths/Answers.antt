use Rattle.std.proofs.Common.{Global, Option, String, string_bytes, ap, ◌∙◌}
use Rattle.command_base.specs.LayerListSeen.{paths_of}
use Rattle.command_base.proofs.LoopSteps.{each_seen-next, each_seen-end}
use Rattle.command_base.proofs.layer_files.table_paths.Goals as goal

pub loop-table-preserved : goal.loop-table-preserved
loop-table-preserved c =
    let lent = c.in_ok-path.ensures.ok ∙ c.as_str.ensures.value ∙ ap (λ (paths : String Global × Option (String Global)). string_bytes paths.0) c.loop-table-item.is in
    each_seen-next string_bytes paths_of (λ layer. layer.table) c.loop-table.paths.items c.push.new.self.items c.args.layers.now c.loop-table.table-index c.in_ok-path.path c.loop-table-item.result
    c.loop-table.invariant c.loop-table-test.true lent c.in_ok-push.ensures.items

pub returns : goal.returns
returns c =
    each_seen-end string_bytes paths_of (λ layer. layer.table) c.loop-table.paths.items c.args.layers.now c.loop-table.table-index c.loop-table.invariant c.loop-table-test.false
