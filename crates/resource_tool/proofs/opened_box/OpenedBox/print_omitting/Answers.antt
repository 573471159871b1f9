use Rattle.resource_tool.proofs.OmitSteps.{omitting-printed, lines-first}
use Rattle.resource_tool.proofs.opened_box.OpenedBox.print_omitting.Goals as goal

pub returns-clause-prints : goal.returns-clause-prints
returns-clause-prints g c = λ most right.
    omitting-printed g.W.Write.contents g.E.Write.contents c.args.out.now c.print_kept.new.out c.args.errors.now c.print_kept.new.errors _ most _ c.print_kept.result c.args.omitting.now c.args.self.now.by_rule
    c.print_kept.ensures.output c.print_kept.ensures.reads_back right

pub returns-clause-lines_first : goal.returns-clause-lines_first
returns-clause-lines_first g c = λ most right.
    lines-first g.W.Write.contents g.E.Write.contents c.args.out.now c.print_kept.new.out c.args.errors.now c.print_kept.new.errors _ most _ c.print_kept.result c.args.omitting.now c.args.self.now.by_rule
    c.print_kept.ensures.output c.print_kept.ensures.told c.print_kept.ensures.reads_back right
