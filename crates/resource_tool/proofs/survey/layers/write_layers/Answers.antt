use Rattle.std.proofs.Common.{refl}
use Rattle.contract_words.proofs.TextSteps.{PutsAllBut-next}
use Rattle.resource_tool.proofs.AnySteps.{FindsAllBut-next, layers_from-next}
use Rattle.resource_tool.proofs.survey.layers.write_layers.Goals as goal

pub loop-place-preserved : goal.loop-place-preserved
loop-place-preserved g c =
    let split = layers_from-next c.loop-place.place c.args.layers.now _ c.loop-place-test.true in
    record {
      texts = PutsAllBut-next _ _ _ _ _ _ _ _ c.loop-place.invariant.texts split c.in_ok-differs.ensures.0;
      differs = FindsAllBut-next _ _ _ _ _ _ _ _ c.loop-place.invariant.differs split c.in_ok-differs.ensures.1 refl;
    }
