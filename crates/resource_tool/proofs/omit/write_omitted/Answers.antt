use Rattle.std.proofs.Common.{◌+◌, arith, ◌∷◌, drop, sym, ◌∙◌, ap}
use Rattle.std.proofs.lemmas.List.{drop_more}
use Rattle.contract_words.proofs.TextSteps.{PutsAllBut-next}
use Rattle.resource_text.specs.cert_maker.declared.omitted.Omitted.{Omitted}
use Rattle.resource_tool.proofs.omit.write_omitted.Goals as goal

pub loop-left_out-preserved : goal.loop-left_out-preserved
loop-left_out-preserved g c =
    let l = c.loop-left_out in
    let split = drop_more c.args.omitted.now l.left_out-index c.left_out-item.result (omega arith) ∙ ap (λ (next : Omitted). next ∷ drop (l.left_out-index + 1) c.args.omitted.now) (sym c.left_out-item.is) in
    PutsAllBut-next _ _ _ _ _ _ _ _ l.invariant split c.in_ok-write_left_out.ensures
