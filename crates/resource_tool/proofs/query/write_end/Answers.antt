use Rattle.resource_tool.proofs.query.write_end.Goals as goal

pub returns-clause-text : goal.returns-clause-text
returns-clause-text g c = let end = rw c.stack.ensures at c.resolve-end.ensures.value in rw (← end) c.in_ok-query_line.ensures

pub returns-clause-end : goal.returns-clause-end
returns-clause-end g c = rw c.stack.ensures at c.resolve-end.ensures.value
