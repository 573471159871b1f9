use Rattle.std.proofs.Common.{[], sym, ◌∙◌, ap, map, Option, arith}
use Rattle.std.proofs.lemmas.List.{append-nil}
use Rattle.res_value.specs.declared.res_id.ResId.{ResId}
use Rattle.reference_resolver.specs.config_precedence.config_record.DeviceSeen.{device_numbers}
use Rattle.answer_text.specs.overlay_map.Candidates.{CandOf}
use Rattle.reference_resolver.specs.Ends.{next_of, cut_off}
use Rattle.reference_resolver.proofs.Chains.{ends_within, goes_on_within}
use Rattle.resource_text.proofs.PushedItems.{pushed_more}
use Rattle.resource_text.proofs.look_ups.push_references.Goals as goal

pub overflow_sub-left : goal.overflow_sub-left
overflow_sub-left c =
    let d = device_numbers c.args.device.now in
    let leads = ap (λ (o : Option CandOf). cut_off c.chain.left (next_of c.chain.id.0 o)) (sym c.select.ensures.value) ∙ ap (cut_off c.chain.left) (sym c.of.ensures) ∙ sym c.in-LookUp.ensures in
    omega (arith, (goes_on_within c.args.stack.now c.chain.left c.chain.id.0 d c.in-LookUp.target leads).0)

pub chain-preserved : goal.chain-preserved
chain-preserved c =
    let d = device_numbers c.args.device.now in
    let leads = ap (λ (o : Option CandOf). cut_off c.chain.left (next_of c.chain.id.0 o)) (sym c.select.ensures.value) ∙ ap (cut_off c.chain.left) (sym c.of.ensures) ∙ sym c.in-LookUp.ensures in
    pushed_more (λ (id : ResId). id.0) _ _ _ _ _ _ c.chain.invariant (goes_on_within c.args.stack.now c.chain.left c.chain.id.0 d c.in-LookUp.target leads).2 c.in_ok-push.ensures.items

pub returns-in-EndsAt : goal.returns-in-EndsAt
returns-in-EndsAt c =
    let d = device_numbers c.args.device.now in
    let leads = ap (λ (o : Option CandOf). cut_off c.chain.left (next_of c.chain.id.0 o)) (sym c.select.ensures.value) ∙ ap (cut_off c.chain.left) (sym c.of.ensures) ∙ sym c.in-EndsAt.ensures in
    sym (append-nil (map (λ (id : ResId). id.0) c.push.new.self.items))
    ∙ pushed_more (λ (id : ResId). id.0) _ _ _ _ [] _ c.chain.invariant (ends_within c.args.stack.now c.chain.left c.chain.id.0 d c.in-EndsAt.field-0 leads).1 c.in_ok-push.ensures.items
