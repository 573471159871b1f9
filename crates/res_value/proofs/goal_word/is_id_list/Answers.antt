use Rattle.std.proofs.Common.{is_some, arith, rules}
use Rattle.std.proofs.lemmas.Iterator.Search.{all_from_yields_List}
use Rattle.std.proofs.lemmas.Iterator.Splits.{YieldsList-from_str_split}
use borrow.Author.Tests.{tests}
use Rattle.res_value.specs.ResId.{id_of}
use Rattle.res_value.specs.Goal.{is_id_list}
use Rattle.res_value.proofs.goal_word.is_id_list.Goals as goal

pub returns : goal.returns
unfolding is_id_list
returns c =
    all_from_yields_List (λ part. is_some (id_of part)) _ _ _ c.all.ensures.ran
    (YieldsList-from_str_split 44 c.args.text.now (omega arith) c.split.ensures.text c.split.ensures.has_more c.split.ensures.pattern)
    (λ x b q k. search (rules, tests))
