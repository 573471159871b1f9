use Rattle.std.proofs.Common.{sym, subst}
use Rattle.std.proofs.KnownBytes.{Appends-trans}
use Rattle.std.proofs.lemmas.Result.{on_ok_weaker}
use Rattle.contract_words.specs.Writes.{Writes}
use Rattle.reference_resolver.specs.declared.end.End.{End}
use Rattle.resource_text.specs.GoalNotation.{claimed_end}
use Rattle.resource_text.proofs.goal.write_claimed_end.Goals as goal

pub returns-in_ok-write_all-in-Bag : goal.returns-in_ok-write_all-in-Bag
unfolding claimed_end
returns-in_ok-write_all-in-Bag g c =
    subst (λ (end : End). Writes g.W.Write.contents c.args.out.now c.write_id.new.out c.write_id.result (claimed_end c.args.naming.now end)) (sym c.in-Bag.is)
    (on_ok_weaker c.write_id.result (λ last. Appends-trans _ _ _ _ _ c.in_ok-write_all-in-Bag.ensures.bytes last) c.write_id.ensures)
