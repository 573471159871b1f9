use Rattle.std.proofs.Common.{◌≡◌}
use Rattle.resource_tool.specs.DotText.{character_end}
use Rattle.resource_tool.proofs.show.dot_text.character_end.Given as goal

abbrev pub invariant-inside : goal.invariant-inside
invariant-inside l = character_end l.text l.most ≡ character_end l.text l.end

abbrev pub decreases-inside : goal.decreases-inside
decreases-inside l = l.end
