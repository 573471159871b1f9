use Rattle.std.proofs.Common.{inl, inr}
use Rattle.restool.proofs.run.run_words.Goals as goal

pub returns-in-Ok : goal.returns-in-Ok
returns-in-Ok g c = inr (c.in-Ok.request, rw (← c.in-Ok.is) c.read_words.ensures, c.run_request-ended.ensures)

pub returns-in-Err : goal.returns-in-Err
returns-in-Err g c = inl (c.in-Err.fault, rw (← c.in-Err.is) c.read_words.ensures, c.tell_fault-ended.ensures)
