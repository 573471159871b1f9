use Rattle.std.proofs.Common.{ap, fold, ◌∙◌}
use Rattle.serde_json.proofs.Views.{view-Object}
use Rattle.serde_json.specs.Data.{Members, object}
use Rattle.serde_json.specs.View.{members_view}
use Rattle.config_box.specs.config_record.Coord.{all_coords}
use Rattle.resource_text.specs.DevicesJson.{devices_data, with_narrower}
use Rattle.resource_text.proofs.devices_json.devices_json.Goals as goal

pub returns : goal.returns
unfolding devices_data all_coords
returns c =
    view-Object c.put_narrower.new.narrower
    ∙ ap object (c.in_ok-put_narrower.ensures
    ∙ ap (λ (members : Members). fold (with_narrower c.args.whole.now c.args.part.now) members all_coords) (ap (λ entries. members_view entries) c.new-narrower.ensures.empty))
