use Rattle.std.proofs.Common.{map}
use Rattle.json_input.proofs.EachSteps.{EachAllBut}
use Rattle.names.specs.Named.{named_of}
use Rattle.names.specs.NamedGoal.{style_in}
use Rattle.names.proofs.named_goal.each_named.Given as goal

-- those of the texts so far
abbrev pub invariant-loop-text : goal.invariant-loop-text
invariant-loop-text l = EachAllBut style_in (map named_of l.all.items) l.text-index (map (λ text. text.now) l.texts)
