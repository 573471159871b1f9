use Rattle.restool.proofs.GoalWords.{id-word, attr-word}
use Rattle.restool.proofs.goal_word_law.goal_words_read_back.Goals as goal

pub returns-clause-id : goal.returns-clause-id
returns-clause-id c = id-word

pub returns-clause-attr : goal.returns-clause-attr
returns-clause-attr c = attr-word
