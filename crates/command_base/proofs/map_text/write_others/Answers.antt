use Rattle.std.proofs.Common.{List, ap, subst, arith}
use Rattle.std.specs.List.{All}
use Rattle.std.proofs.lemmas.List.{drop_all, take_all}
use Rattle.std.proofs.lemmas.List.Elements.{All-more}
use Rattle.contract_words.proofs.TextSteps.{PutsAllBut-done}
use Rattle.command_base.specs.overlay_map.IdMap.{IdPair, pairs_of}
use Rattle.command_base.specs.MapText.{next_pair_text}
use Rattle.command_base.specs.PairSeen.{IdsReadBack}
use Rattle.command_base.proofs.PairSteps.{pair-next}
use Rattle.command_base.proofs.map_text.write_others.Goals as goal

pub loop-pair-preserved : goal.loop-pair-preserved
unfolding next_pair_text
loop-pair-preserved g c =
    let written = c.in_ok-write_pair.ensures in
    record {
      text = pair-next _ _ _ _ _ _ c.loop-pair.invariant.text (omega arith) written.0;
      back = All-more IdsReadBack c.args.pairs.now c.loop-pair.pair-index _ (omega arith) c.loop-pair.invariant.back written.1;
    }

pub returns : goal.returns
returns g c = (
  PutsAllBut-done _ _ _ _ _ c.loop-pair.invariant.text (ap pairs_of (drop_all c.loop-pair.pair-index c.args.pairs.now c.loop-pair-test.false)),
  subst (λ (t : List IdPair). All IdsReadBack t) (take_all c.loop-pair.pair-index c.args.pairs.now c.loop-pair-test.false) c.loop-pair.invariant.back,
)
