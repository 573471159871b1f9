use Rattle.cert_checker.proofs.StandsSteps.{stands_if_same}
use Rattle.cert_checker.proofs.goals.stands_at.Goals as goal

pub returns-in-Some : goal.returns-in-Some
returns-in-Some c =
    let lookup = c.in-Some.ensures.lookup in
    stands_if_same c.asks_same.result c.args.goals.now c.args.place c.in-Some.found.now c.args.goal.now lookup.0 lookup.1 c.asks_same.ensures
