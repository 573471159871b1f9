-- How a loop finds out what the values of a bag are.
use Rattle.resource_tool.proofs.AnySteps.{FindsAllBut-none, FindsAllBut-end}

pub ruleset told_steps = (FindsAllBut-none, FindsAllBut-end)
