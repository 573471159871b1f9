use Rattle.std.proofs.Common.{rules, ◌≡◌, ◌≢◌, List, Result, Ok, sym, ap, ◌∙◌}
use Rattle.bags_themes.specs.config_record.DeviceSeen.{device_numbers}
use Rattle.bags_themes.specs.overlay_map.Layer.{LayerOf}
use Rattle.bags_themes.specs.bag_rows.declared.bag_row.BagRow.{BagRow}
use Rattle.bags_themes.specs.declared.bag_fault.BagFault.{BagFault}
use Rattle.bags_themes.specs.declared.bag_fault.BagFault.TheVariants.{OutOfMemory}
use Rattle.bags_themes.specs.Bag.{bag_of}
use Rattle.names.specs.Label.{LabelOf}
use Rattle.answer_text.specs.declared.row_key.Keys.{Keys}
use Rattle.answer_text.specs.Content.{RowContentOf, BagOf, TooManyParentsOf}
use Rattle.answer_text.specs.ContentAt.{bag_content, rows_content}
use Rattle.answer_text.specs.RowKeys.{by_key, keys_of}
use Rattle.answer_text.proofs.device_content.bag_content.Goals as goal

pub returns-in_ok-sort_by_key-in-Ok : goal.returns-in_ok-sort_by_key-in-Ok
returns-in_ok-sort_by_key-in-Ok c =
    let layers = c.args.stack.now in
    let id = c.args.id.0 in
    let d = device_numbers c.args.device.now in
    let rows = c.as_slice.result.now in
    let found : List BagRow → Result (List BagRow) BagFault = λ rows. Ok rows in
    let selected : bag_of layers id d ≡ found rows =
    sym (ap (λ (stack : List LayerOf). bag_of stack id d) c.stack.ensures) ∙ c.in-Ok.ensures ∙ ap found (sym c.as_slice.ensures) in
    let keys = c.of-keys.ensures ∙ ap (λ (stack : List LayerOf). keys_of stack id) c.stack-in-Ok.ensures in
    ap (λ (contents : List RowContentOf). BagOf contents)
    (c.in_ok-sort_by_key-in-Ok.ensures ∙ ap by_key (c.in_ok-contents-in-Ok.ensures ∙ ap (λ (keys : Keys). rows_content layers keys 0 rows) keys))
    ∙ sym (ap (bag_content layers id) selected)

pub returns-in_ok-label_of_id-in-Err-Absent : goal.returns-in_ok-label_of_id-in-Err-Absent
returns-in_ok-label_of_id-in-Err-Absent c =
    let layers = c.args.stack.now in
    let id = c.args.id.0 in
    let d = device_numbers c.args.device.now in
    let other : c.in-Err-Absent.field-0 ≢ OutOfMemory = search rules in
    ap (λ (label : LabelOf). TooManyParentsOf label) c.in_ok-label_of_id-in-Err-Absent.ensures
    ∙ sym (ap (bag_content layers id) (ap (λ (stack : List LayerOf). bag_of stack id d) (sym c.stack.ensures) ∙ c.in-Err-Absent.ensures other))
