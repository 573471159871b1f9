use Rattle.std.proofs.Common.{◌+◌, ◌∷◌, arith, drop, sym, ◌∙◌, ap}
use Rattle.std.proofs.lemmas.List.{drop_more}
use Rattle.contract_words.proofs.TextSteps.{PutsAllBut-next}
use Rattle.resource_text.specs.declared.rejection.Rejection.{Rejection}
use Rattle.resource_text.proofs.rejection.write_each.Goals as goal

pub loop-rejection-preserved : goal.loop-rejection-preserved
loop-rejection-preserved g c =
    let l = c.loop-rejection in
    let split = drop_more c.args.rejections.now l.rejection-index c.rejection-item.result (omega arith) ∙ ap (λ (next : Rejection). next ∷ drop (l.rejection-index + 1) c.args.rejections.now) (sym c.rejection-item.is) in
    PutsAllBut-next _ _ _ _ _ _ _ _ l.invariant split c.in_ok-write_rejection_in.ensures
