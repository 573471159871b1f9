use Rattle.std.proofs.Common.{sym, subst}
use Rattle.std.proofs.KnownBytes.{Appends-trans}
use Rattle.std.proofs.lemmas.Result.{on_ok_weaker}
use Rattle.contract_words.specs.Writes.{Writes}
use Rattle.reference_resolver.specs.declared.end.End.{End}
use Rattle.resource_text.specs.AttrNotation.{slot_end}
use Rattle.resource_text.proofs.attribute.write_slot_end.Goals as goal

pub returns-in_ok-write_all-in-Value : goal.returns-in_ok-write_all-in-Value
unfolding slot_end
returns-in_ok-write_all-in-Value g c =
    let to_from = Appends-trans _ _ _ _ _ c.in_ok-write_value-in-Value.ensures c.in_ok-write_all-in-Value.ensures.bytes in
    subst (λ (end : End). Writes g.W.Write.contents c.args.out.now c.write_layer.new.out c.write_layer.result (slot_end c.args.naming.now end)) (sym c.in-Value.is)
    (on_ok_weaker c.write_layer.result (λ last. Appends-trans _ _ _ _ _ to_from last) c.write_layer.ensures)
