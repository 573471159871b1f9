use Rattle.std.proofs.Common.{map, Some, subst}
use Rattle.stack_diff.specs.Stacks.{StacksOf}
use Rattle.stack_diff.specs.names.NamedIds.{packages_of}
use Rattle.stack_diff.specs.names.Pairs.{pair_of}
use Rattle.resource_tool.specs.AskedPairs.{AreOfStacks}
use Rattle.resource_tool.specs.Judged.{told_of}
use Rattle.resource_tool.specs.Telling.{AreTold}
use Rattle.resource_tool.specs.Values.{alone}
use Rattle.resource_tool.proofs.Valued.{are-valued, Printed, printed-values}
use Rattle.resource_tool.proofs.values.OpenedValues.values.Goals as goal

pub returns-in-Some : goal.returns-in-Some
returns-in-Some g c =
    let layers = c.args.self.now.stack in
    let pairs = map pair_of c.args.pairs.now in
    let told = map told_of c.deref.result.now in
    let right = subst (λ (stacks : StacksOf). AreOfStacks stacks pairs) c.requires.stacks c.requires.pairs in
    let all = rw (c.in-Some.is, ← c.deref.ensures.value) at c.in_ok-told.ensures in
    let are = subst (λ (stacks : StacksOf). AreTold c.args.form stacks c.args.self.now.members pairs c.args.max_nodes (Some told)) c.requires.stacks all in
    let printed = subst (λ (stacks : StacksOf). Printed g.W.Write.contents c.args.out.now c.print_values.new.out c.args.form c.args.self.now.rule c.args.self.now.members pairs c.args.max_nodes (Some told) stacks c.print_values.result) c.requires.stacks c.print_values.ensures in
    printed-values g.W.Write.contents c.args.out.now c.print_values.new.out c.args.form c.args.self.now.rule c.args.self.now.members pairs c.args.max_nodes (Some told) (alone layers) c.print_values.result
    (are-valued c.args.form layers (packages_of layers) c.args.self.now.members pairs c.args.max_nodes (Some told) right are) printed
