use Rattle.std.proofs.Common.{drop}
use Rattle.contract_words.proofs.TextSteps.{PutsAllBut}
use Rattle.resource_text.specs.GoalNotation.{next_style}
use Rattle.resource_text.proofs.goal.write_styles.Given as goal

abbrev pub invariant-loop-style : goal.invariant-loop-style
invariant-loop-style g l = PutsAllBut (next_style l.naming) (g.W.Write.contents l.fn.out) (g.W.Write.contents l.out) l.styles (drop l.style-index l.styles)
