use Rattle.std.proofs.Common.{◌≡◌, length, rules}
use Rattle.command_base.proofs.LayersLeft.{none_left}
use Rattle.command_base.proofs.LeftSteps.{says-nothing}
use Rattle.command_base.proofs.left_out.say_left.Goals as goal

pub returns-then-is_empty-clause-lines : goal.returns-then-is_empty-clause-lines
returns-then-is_empty-clause-lines g c =
    let none : length c.args.lines.now ≡ 0 = search rules in
    says-nothing (g.E.Write.contents c.args.errors.now) c.args.lines.now (none_left c.args.lines.now none)
