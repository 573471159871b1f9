use Rattle.contract_words.proofs.TextSteps.{PutsAllBut-next, PutsAllBut-done}
use Rattle.names.proofs.quoted.write_characters.Goals as goal

pub loop-character-preserved : goal.loop-character-preserved
loop-character-preserved g c = record {
  can = tt;
  ends = tt;
  texts = PutsAllBut-next _ _ _ _ _ _ _ _ c.loop-character.invariant.texts c.in-Some.ensures.steps c.in_ok-write_character.ensures;
}

pub returns : goal.returns
returns g c = PutsAllBut-done _ _ _ _ _ c.loop-character.invariant.texts c.in-None.ensures.steps.0
