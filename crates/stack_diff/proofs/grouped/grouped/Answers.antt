use Rattle.stack_diff.proofs.grouped.grouped.Goals as goal

pub returns : goal.returns
returns c = record { gathered = c.in_ok-gathered.gathered.items; gathers = c.in_ok-gathered.ensures; joins = c.in_ok-changes.ensures }
