use Rattle.std.proofs.Common.{drop}
use Rattle.contract_words.proofs.TextSteps.{PutsAllBut}
use Rattle.resource_tool.specs.TreeText.{style_text}
use Rattle.resource_tool.proofs.show.goal_text.write_styles.Given as goal

abbrev pub invariant-loop-style : goal.invariant-loop-style
invariant-loop-style g l = PutsAllBut (style_text l.stack) (g.W.Write.contents l.fn.out) (g.W.Write.contents l.out) l.styles (drop l.style-index l.styles)
