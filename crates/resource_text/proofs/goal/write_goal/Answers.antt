use Rattle.std.proofs.Common.{sym, subst}
use Rattle.std.proofs.KnownBytes.{Appends-trans}
use Rattle.std.proofs.lemmas.Result.{on_ok_weaker}
use Rattle.contract_words.specs.Writes.{Writes}
use Rattle.res_value.specs.declared.goal.Goal.{Goal}
use Rattle.res_value.specs.Goal.{goal_seen}
use Rattle.resource_text.specs.GoalNotation.{goal_notation}
use Rattle.resource_text.proofs.goal.write_goal.Goals as goal

pub returns-in_ok-write_all-in-Attr : goal.returns-in_ok-write_all-in-Attr
unfolding goal_notation
returns-in_ok-write_all-in-Attr g c =
    let to_under = Appends-trans _ _ _ _ _ c.in_ok-write_id-in-Attr.ensures c.in_ok-write_all-in-Attr.ensures.bytes in
    let styles = rw c.deref.ensures.value at c.write_styles.ensures in
    subst (λ (goal : Goal). Writes g.W.Write.contents c.args.out.now c.write_styles.new.out c.write_styles.result (goal_notation c.args.naming.now (goal_seen goal))) (sym c.in-Attr.is)
    (on_ok_weaker c.write_styles.result (λ last. Appends-trans _ _ _ _ _ to_under last) styles)
