use Rattle.std.proofs.Common.{drop, take}
use Rattle.std.specs.List.{All}
use Rattle.contract_words.proofs.TextSteps.{PutsAllBut}
use Rattle.command_base.specs.overlay_map.IdMap.{pairs_of}
use Rattle.command_base.specs.MapText.{next_pair_text}
use Rattle.command_base.specs.PairSeen.{IdsReadBack}
use Rattle.command_base.proofs.map_text.write_others.Given as goal

-- all pairs were written but those that are left, and are read back
abbrev pub invariant-loop-pair : goal.invariant-loop-pair
invariant-loop-pair g l = record {
  text : PutsAllBut next_pair_text (g.W.Write.contents l.fn.out) (g.W.Write.contents l.out) (pairs_of l.pairs) (pairs_of (drop l.pair-index l.pairs));
  back : All IdsReadBack (take l.pair-index l.pairs);
}
