use Rattle.std.proofs.Common.{sym, ◌∙◌}
use Rattle.std.proofs.lemmas.Option.{IfSome_then}
use Rattle.std.proofs.lemmas.Result.{IfOk-weaker}
use Rattle.stack_diff.specs.Loading.{without_overlays}
use Rattle.stack_diff.specs.Raising.{cells_of}
use Rattle.stack_diff.proofs.RaisedRows.{none-open, bare-raised}
use Rattle.stack_diff.proofs.LimitSteps.{bare-passed, look-up-parted, bare-parted}
use Rattle.stack_diff.proofs.all_uses.raise_overlaid.Goals as goal

pub returns-then-not-has_open-clause-keeps : goal.returns-then-not-has_open-clause-keeps
returns-then-not-has_open-clause-keeps c =
    none-open c.args.stack.now c.args.members.now c.args.id.0 (cells_of c.args.uses.now) c.deref.result.now (c.deref.ensures.value ∙ c.in_ok-look_up.ensures.rows) (sym c.has_open.ensures ∙ c.if-not-has_open.true)

pub returns-clause-keeps : goal.returns-clause-keeps
returns-clause-keeps c =
    IfOk-weaker c.raise_loaded.result _ _ (λ found given. IfSome_then found given (λ left step.
    bare-raised c.args.stack.now c.args.members.now c.args.id.0 c.in_ok-look_up.look_up (cells_of c.args.uses.now) (cells_of c.raise_loaded.new.uses) c.in_ok-look_up.ensures step)) c.raise_loaded.ensures.keeps

pub returns-then-not-has_open-clause-tree : goal.returns-then-not-has_open-clause-tree
returns-then-not-has_open-clause-tree c = bare-passed c.args.stack.now c.args.members.now c.args.id.0 c.args.left

pub returns-clause-tree : goal.returns-clause-tree
returns-clause-tree c =
    let stack = c.args.stack.now in
    let sets = c.args.members.now in
    IfOk-weaker c.raise_loaded.result _ _ (λ found parted.
    bare-parted stack sets c.args.id.0 c.args.left found (look-up-parted stack sets c.args.id.0 (without_overlays stack) c.in_ok-look_up.look_up c.args.left found c.in_ok-look_up.ensures parted)) c.raise_loaded.ensures.tree
