use Rattle.std.proofs.Common.{ap, ◌∙◌}
use Rattle.std.specs.Prelude.{codes}
use Rattle.serde_json.proofs.Views.{view-Object}
use Rattle.serde_json.specs.Data.{Data, object, put}
use Rattle.serde_json.specs.View.{members_view}
use Rattle.resource_text.specs.DevicesJson.{set_data}
use Rattle.resource_text.specs.TextJson.{number_data}
use Rattle.resource_text.proofs.devices_json.range_json.Goals as goal

pub returns : goal.returns
unfolding set_data
returns c =
    view-Object c.put-2.new.map
    ∙ ap object (c.in_ok-put-2.ensures.ok
    ∙ ap (λ (high : Data). put (codes "to") high (members_view c.put.new.map.entries)) c.from-2.ensures
    ∙ ap (put (codes "to") (number_data c.args.high)) (c.in_ok-put.ensures.ok
    ∙ ap (λ (low : Data). put (codes "from") low (members_view c.new-members.result.entries)) c.from.ensures
    ∙ ap (put (codes "from") (number_data c.args.low)) (ap (λ entries. members_view entries) c.new-members.ensures.empty)))
