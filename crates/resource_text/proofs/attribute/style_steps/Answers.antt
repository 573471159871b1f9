use Rattle.std.proofs.Common.{List, ◌++◌, None, append-nil, get_or, sym, ap, ◌∙◌}
use Rattle.std.proofs.lemmas.List.{drop_all}
use Rattle.answer_text.specs.bag_rows.declared.bag_row.BagRow.{BagRow}
use Rattle.res_value.specs.declared.res_id.ResId.{ResId}
use Rattle.reference_resolver.specs.config_precedence.config_record.DeviceSeen.{device_numbers}
use Rattle.resource_text.specs.AttrNotation.{set_after_rows, style_steps}
use Rattle.resource_text.proofs.StyleSteps.{style-next, step-is}
use Rattle.resource_text.proofs.attribute.style_steps.Goals as goal

pub loop-style-preserved : goal.loop-style-preserved
loop-style-preserved c =
    let force = c.args.force in
    let attr = c.args.attr.0 in
    let l = c.loop-style in
    let styles = c.args.styles.now in
    let style : ResId = get_or styles l.style-index (record { 0 = 0 }) in
    let rows = c.in_ok-rows.rows.items in
    let own = c.set_after_rows-own.ensures ∙ ap (set_after_rows force attr None) c.deref.ensures.value in
    style-next c.args.stack.now (device_numbers c.args.device.now) force attr l.set _ styles l.style-index (record { 0 = 0 }) rows _ _ _ _ c.loop-style-test.true l.invariant c.in_ok-rows.ensures
    (step-is force attr l.set style rows _ _ own c.setting_of-setting.ensures)
    (c.set_after_rows-set.ensures ∙ ap (set_after_rows force attr l.set) c.deref-in-loop-style.ensures.value) c.in_ok-push.ensures.items

pub returns : goal.returns
returns c =
    let l = c.loop-style in
    let left = λ (styles : List ResId). style_steps c.args.stack.now (device_numbers c.args.device.now) c.args.force c.args.attr.0 l.set styles in
    sym (append-nil l.steps.items) ∙ ap (λ (styles : List ResId). l.steps.items ++ left styles) (sym (drop_all l.style-index c.args.styles.now c.loop-style-test.false)) ∙ l.invariant
