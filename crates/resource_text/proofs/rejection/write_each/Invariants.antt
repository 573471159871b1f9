use Rattle.std.proofs.Common.{drop, map}
use Rattle.std.specs.Option.{option_copied}
use Rattle.cert_maker.specs.res_value.Goal.{goal_seen}
use Rattle.contract_words.proofs.TextSteps.{PutsAllBut}
use Rattle.resource_text.specs.VerdictForms.{rejection_in}
use Rattle.resource_text.proofs.rejection.write_each.Given as goal

abbrev pub invariant-loop-rejection : goal.invariant-loop-rejection
invariant-loop-rejection g l =
    PutsAllBut (rejection_in (option_copied l.naming) l.form (map goal_seen l.goals)) (g.W.Write.contents l.fn.out) (g.W.Write.contents l.out) l.rejections (drop l.rejection-index l.rejections)
