use Rattle.std.proofs.Common.{drop, map}
use Rattle.contract_words.proofs.SequenceSteps.{ReadsAllBut}
use Rattle.res_value.specs.Goal.{listed_id, ids_in}
use Rattle.res_value.proofs.goal.ids_in.Given as goal

-- those of the texts so far
abbrev pub invariant-loop-text : goal.invariant-loop-text
invariant-loop-text l = ReadsAllBut listed_id l.ids.items (map (λ text. text.now) (drop l.text-index l.texts)) (ids_in (map (λ text. text.now) l.texts))
