use Rattle.std.proofs.Common.{ap, ◌∙◌}
use Rattle.std.specs.Option.{option_map}
use Rattle.serde_json.specs.Written.{members_have_float}
use Rattle.cert_maker.specs.res_value.Goal.{goal_seen}
use Rattle.resource_text.specs.VerdictJson.{with_fault, with_goal}
use Rattle.resource_text.proofs.VerdictNoFloat.{rejected-no_float}
use Rattle.resource_text.proofs.verdict_json.write_rejected.Goals as goal

pub write_line-requires : goal.write_line-requires
write_line-requires g c =
    let naming = c.args.naming.now in
    let asked = option_map (λ goal. goal_seen goal.now) c.args.asked in
    ap members_have_float (c.in_ok-put_goal.ensures
    ∙ ap (with_goal naming asked c.args.claimed c.args.shown.now) (c.in_ok-put_fault.ensures ∙ ap (with_fault c.args.goal c.args.node c.args.rule) c.in_ok-members.ensures))
    ∙ rejected-no_float naming asked c.args.claimed c.args.goal c.args.node c.args.rule c.args.shown.now
