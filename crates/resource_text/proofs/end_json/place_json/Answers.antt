use Rattle.std.proofs.Common.{ap, ◌∙◌}
use Rattle.std.specs.Prelude.{codes}
use Rattle.serde_json.proofs.Views.{view-Object}
use Rattle.serde_json.specs.Data.{Data, object, put}
use Rattle.serde_json.specs.View.{members_view}
use Rattle.config_box.specs.config_record.Record.{record_bytes}
use Rattle.resource_text.specs.ConfigJson.{config_data}
use Rattle.resource_text.specs.EndJson.{place_data, with_layer}
use Rattle.resource_text.proofs.end_json.place_json.Goals as goal

pub returns : goal.returns
unfolding place_data
returns c =
    view-Object c.put_layer.new.members
    ∙ ap object (c.in_ok-put_layer.ensures
    ∙ ap (with_layer c.args.naming.now c.args.layer) (c.in_ok-put.ensures.ok
    ∙ ap (λ (config : Data). put (codes "config") config (members_view c.new-members.result.entries)) c.in_ok-config.ensures
    ∙ ap (put (codes "config") (config_data (record_bytes c.args.config.now))) (ap (λ entries. members_view entries) c.new-members.ensures.empty)))
