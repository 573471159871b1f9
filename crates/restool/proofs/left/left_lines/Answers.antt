use Rattle.restool.proofs.left.left_lines.Goals as goal

pub returns-in-One : goal.returns-in-One
returns-in-One g c = rw c.in-One.is c.lines_of.ensures

pub returns-in-Both : goal.returns-in-Both
returns-in-Both g c = rw c.in-Both.is c.lines_of_both.ensures
