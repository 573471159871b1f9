use Rattle.std.proofs.Common.{[], refl, sym, ◌∙◌, ap, Option, arith}
use Rattle.contract_words.proofs.TextSteps.{PutsAllBut-next, PutsAllBut-done}
use Rattle.reference_resolver.specs.config_precedence.config_record.DeviceSeen.{device_numbers}
use Rattle.answer_text.specs.overlay_map.Candidates.{CandOf}
use Rattle.reference_resolver.specs.Ends.{next_of, cut_off}
use Rattle.reference_resolver.proofs.Chains.{ends_within, goes_on_within}
use Rattle.resource_text.proofs.explanation_json.write_look_ups.Goals as goal

pub chain-preserved : goal.chain-preserved
chain-preserved g c =
    let d = device_numbers c.args.device.now in
    let picked = rw c.stack-stack.ensures at c.select.ensures.value in
    let leads = ap (λ (o : Option CandOf). cut_off c.chain.left (next_of c.chain.id.0 o)) (sym picked) ∙ ap (cut_off c.chain.left) (sym c.of.ensures) ∙ sym c.in-LookUp.ensures in
    let goes = goes_on_within c.args.naming.now.stack c.chain.left c.chain.id.0 d c.in-LookUp.target leads in
    PutsAllBut-next _ _ _ _ _ _ _ c.chain.id.0 c.chain.invariant goes.2 c.in_ok-write_look_up.ensures

pub overflow_sub-left : goal.overflow_sub-left
overflow_sub-left g c =
    let d = device_numbers c.args.device.now in
    let picked = rw c.stack-stack.ensures at c.select.ensures.value in
    let leads = ap (λ (o : Option CandOf). cut_off c.chain.left (next_of c.chain.id.0 o)) (sym picked) ∙ ap (cut_off c.chain.left) (sym c.of.ensures) ∙ sym c.in-LookUp.ensures in
    omega (arith, (goes_on_within c.args.naming.now.stack c.chain.left c.chain.id.0 d c.in-LookUp.target leads).0)

pub returns-in-EndsAt : goal.returns-in-EndsAt
returns-in-EndsAt g c =
    let d = device_numbers c.args.device.now in
    let picked = rw c.stack-stack.ensures at c.select.ensures.value in
    let leads = ap (λ (o : Option CandOf). cut_off c.chain.left (next_of c.chain.id.0 o)) (sym picked) ∙ ap (cut_off c.chain.left) (sym c.of.ensures) ∙ sym c.in-EndsAt.ensures in
    let ends = ends_within c.args.naming.now.stack c.chain.left c.chain.id.0 d c.in-EndsAt.field-0 leads in
    PutsAllBut-done _ _ _ _ [] (PutsAllBut-next _ _ _ _ _ _ [] c.chain.id.0 c.chain.invariant ends.1 c.in_ok-write_look_up.ensures) refl
