use Rattle.std.proofs.Common.{List, [], ap, map, sym, ◌∙◌}
use Rattle.std.proofs.lemmas.List.{take_all}
use Rattle.std.proofs.lemmas.Simd.{map-map}
use Rattle.stack_diff.specs.names.declared.pair.NamePair.{NamePair}
use Rattle.stack_diff.specs.names.Pairs.{pair_of}
use Rattle.resource_tool.specs.JsonLines.{name_json}
use Rattle.resource_tool.proofs.Mapped.{one-more}
use Rattle.resource_tool.proofs.json_lines.names_json.Goals as goal

pub loop-pair-preserved : goal.loop-pair-preserved
loop-pair-preserved c =
    one-more (λ name. name.items) (λ pair. name_json c.args.packages.now (pair_of pair)) [] c.loop-pair.names.items c.push.new.self.items c.args.pairs.now c.loop-pair.pair-index c.in_ok-name.name
    c.pair-item.result c.loop-pair-test.true c.pair-item.is c.loop-pair.invariant c.in_ok-push.ensures.items c.in_ok-name.ensures

pub returns : goal.returns
returns c =
    c.loop-pair.invariant
    ∙ ap (λ (pairs : List NamePair). map (λ pair. name_json c.args.packages.now (pair_of pair)) pairs) (take_all c.loop-pair.pair-index c.args.pairs.now c.loop-pair-test.false)
    ∙ sym (map-map _ _ c.args.pairs.now)
