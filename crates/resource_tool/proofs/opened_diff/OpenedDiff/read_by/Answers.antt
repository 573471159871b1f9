use Rattle.std.proofs.Common.{map, refl}
use Rattle.std.proofs.lemmas.Result.{err_from_is_err_and}
use Rattle.command_base.specs.StackBytesSeen.{layer_bytes}
use Rattle.resource_tool.specs.DiffInputs.{diff_inputs_by}
use Rattle.resource_tool.proofs.Opening.{box-stops, inputs-read}
use Rattle.resource_tool.proofs.opened_diff.OpenedDiff.read_by.Goals as goal

pub returns-in_err-stack-clause-value : goal.returns-in_err-stack-clause-value
unfolding diff_inputs_by
returns-in_err-stack-clause-value c =
    let p = err_from_is_err_and c.from_residual.result c.from_residual.ensures.1 in
    rw (p.1, p.2) (λ told. rw (c.in_err-stack.ensures.value told) refl)

pub returns-in_err-changed-clause-value : goal.returns-in_err-changed-clause-value
unfolding diff_inputs_by
returns-in_err-changed-clause-value c =
    let p = err_from_is_err_and c.from_residual-in_err-changed.result c.from_residual-in_err-changed.ensures.1 in
    rw (p.1, p.2) (λ told. rw (c.in_ok-stack.ensures.value, c.in_err-changed.ensures.1 told) refl)

pub returns-in_err-members-clause-value : goal.returns-in_err-members-clause-value
returns-in_err-members-clause-value c =
    let p = err_from_is_err_and c.from_residual-in_err-members.result c.from_residual-in_err-members.ensures.1 in
    rw (p.1, p.2)
    (box-stops c.args.rule (map layer_bytes c.args.old.now) (map layer_bytes c.args.new.now) c.args.box_json.now c.in_ok-stack.stack c.in_ok-changed.changed c.in_err-members.field-0.0
    c.in_ok-stack.ensures.value c.in_ok-changed.ensures c.in_err-members.ensures.value)

pub returns-clause-value : goal.returns-clause-value
returns-clause-value c =
    inputs-read c.args.rule (map layer_bytes c.args.old.now) (map layer_bytes c.args.new.now) c.args.box_json.now c.in_ok-stack.stack c.in_ok-changed.changed c.in_ok-members.members
    c.in_ok-stack.ensures.value c.in_ok-changed.ensures c.in_ok-members.ensures.value
