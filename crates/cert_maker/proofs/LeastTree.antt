-- The law of the least tree.
use Rattle.std.proofs.Common.{arith}
use Rattle.cert_checker.specs.FirstFault.{goal_trace}
use Rattle.cert_maker.specs.LeastTree.{NeededIsSmall, AcceptedIsLarge, NeededIsLeast}
use Rattle.cert_maker.proofs.Passing.{passes-walk}
use Rattle.cert_maker.proofs.AttributeNumbers.{goal-by-numbers}
use Rattle.cert_maker.proofs.OneLine.{needed-is-small, accepted-is-large}

pub small : NeededIsSmall
small stack goal sets c d nodes l w = needed-is-small (goal_trace stack goal) sets c d nodes (goal-by-numbers stack goal) l w

pub large : AcceptedIsLarge
large stack goal sets c d nodes l ok =
    accepted-is-large (goal_trace stack goal) sets c d nodes (goal-by-numbers stack goal) l (passes-walk (goal_trace stack goal) sets nodes ok)

pub least : NeededIsLeast
least stack goal sets c d needed accepted l w ok =
    let few = small stack goal sets c d needed l w in
    let many = large stack goal sets c d accepted l ok in
    omega (arith, few, many)
