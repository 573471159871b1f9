use Rattle.std.proofs.Common.{◌≡◌, ◌<◌, arith, map, refl, sym, ap, ◌∙◌}
use Rattle.stack_diff.specs.Stacks.{stacks_of}
use Rattle.stack_diff.specs.Changes.{change_of}
use Rattle.stack_diff.proofs.Unchanged.{told-itself, tree-itself}
use Rattle.stack_diff.proofs.comparison.compare.Goals as goal

pub returns-then-most-eq0 : goal.returns-then-most-eq0
returns-then-most-eq0 c =
    let itself = sym c.is_itself.ensures ∙ c.if-not-is_itself.false in
    tree-itself (stacks_of c.args.stacks) c.args.members.now c.args.old c.args.new itself (λ nodes. c.args.most < nodes) (omega arith)

pub returns : goal.returns
returns c =
    let itself = sym c.is_itself.ensures ∙ c.if-not-is_itself.false in (
      told-itself (stacks_of c.args.stacks) c.args.members.now c.args.old c.args.new itself (map change_of c.new.result.items) c.args.stacks.one (ap (map change_of) c.new.ensures.items),
      tree-itself (stacks_of c.args.stacks) c.args.members.now c.args.old c.args.new itself (λ nodes. nodes ≡ 1) refl,
      omega arith,
    )
