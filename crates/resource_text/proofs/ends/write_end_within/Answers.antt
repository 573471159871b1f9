use Rattle.resource_text.specs.EndNotation.{end_within}
use Rattle.resource_text.proofs.ends.write_end_within.Goals as goal

pub returns : goal.returns
unfolding end_within
returns g c =
    let end = rw c.stack.ensures at c.last_within-last.ensures.end in
    let last = rw c.stack.ensures at c.last_within-last.ensures.selected in
    rw (← end, ← last) c.write_end.ensures
