use Rattle.box_trace.specs.Walk.{live_ahead}
use Rattle.box_trace.proofs.Told.{told_ahead, if_both}
use Rattle.box_trace.proofs.walk.Walk.parting_of.Goals as goal

pub returns : goal.returns
returns c =
    let lookup = c.in_ok-live.ensures.lookup in
    if_both _ _ _
    (λ parting separates asks stack trace walked. told_ahead c.args.members.now trace c.ahead.result.now (live_ahead c.args.self.now) c.in_ok-place.place c.in_ok-live.live.now parting c.ahead.ensures.ahead lookup.3.0 (lookup.3.1 _)
    (c.ahead.ensures.told stack c.args.members.now trace walked) separates asks)
    c.parting_at.result c.parting_at.ensures.separates c.parting_at.ensures.asks
