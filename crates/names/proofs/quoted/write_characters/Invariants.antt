use Rattle.contract_words.proofs.TextSteps.{PutsAllBut}
use Rattle.names.specs.Quoted.{quoted_character}
use Rattle.names.proofs.quoted.write_characters.Given as goal

-- all characters were written but those that are left
abbrev pub invariant-loop-character : goal.invariant-loop-character
invariant-loop-character g l = record {
  can : (goal.iterator-loop-character g).can_next l.character-iterator;
  ends : (goal.iterator-loop-character g).is_finite l.character-iterator;
  texts : PutsAllBut quoted_character (g.W.Write.contents l.fn.out) (g.W.Write.contents l.out) l.fn.characters l.character-iterator;
}
