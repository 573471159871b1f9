use Rattle.std.proofs.Common.{ap, ◌∙◌}
use Rattle.serde_json.proofs.Views.{view-Object}
use Rattle.serde_json.specs.Data.{object}
use Rattle.serde_json.specs.View.{members_view}
use Rattle.config_box.specs.config_record.Coord.{all_coords}
use Rattle.reference_resolver.specs.config_precedence.config_record.DeviceSeen.{device_numbers}
use Rattle.config_box.specs.config_record.Device.{device_coordinate, device_locale}
use Rattle.config_box.specs.config_record.locales.declared.locale.Locale.{Locale}
use Rattle.resource_text.specs.DeviceJson.{device_data}
use Rattle.resource_text.specs.ConfigJson.{with_locale, with_numbers}
use Rattle.resource_text.proofs.device_json.device_json.Goals as goal

pub returns : goal.returns
unfolding device_data all_coords
returns c =
    let d = device_numbers c.args.device.now in
    view-Object c.put_locale.new.members
    ∙ ap object (c.in_ok-put_locale.ensures
    ∙ ap (λ (locale : Locale). with_locale locale (members_view c.put_numbers.new.members.entries)) c.locale.ensures.value
    ∙ ap (with_locale (device_locale d)) (c.in_ok-put_numbers.ensures
    ∙ ap (with_numbers (device_coordinate d)) (ap (λ entries. members_view entries) c.new-members.ensures.empty)))
