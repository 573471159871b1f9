use Rattle.std.proofs.Common.{Option, ap, ◌∙◌}
use Rattle.std.proofs.lemmas.Result.{IfOk-weaker}
use Rattle.answer_text.specs.overlay_map.Candidates.{CandOf}
use Rattle.reference_resolver.specs.config_precedence.config_record.DeviceSeen.{device_numbers}
use Rattle.reference_resolver.specs.declared.end.End.{End}
use Rattle.resource_text.specs.EndJson.{end_data, end_data_within}
use Rattle.resource_text.specs.EndNotation.{last_selected}
use Rattle.resource_text.proofs.end_json.end_within_json.Goals as goal

pub returns : goal.returns
unfolding end_data_within
returns c =
    let naming = c.args.naming.now in
    let end = rw c.stack.ensures at c.last_within-last.ensures.end in
    let last = rw c.stack.ensures at c.last_within-last.ensures.selected in
    let selected = last_selected naming.stack c.args.most c.args.id.0 (device_numbers c.args.device.now) in
    IfOk-weaker c.end_json.result _ _
    (λ json is. is ∙ ap (λ (o : Option CandOf). end_data naming o c.last_within-last.result.end) last ∙ ap (λ (e : End). end_data naming selected e) end) c.end_json.ensures
