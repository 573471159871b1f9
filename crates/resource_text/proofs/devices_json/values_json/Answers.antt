use Rattle.std.proofs.Common.{List, sym, ap, ◌∙◌}
use Rattle.serde_json.proofs.Views.{view-Array}
use Rattle.serde_json.specs.Data.{Data, array}
use Rattle.serde_json.specs.View.{items_of}
use Rattle.config_box.specs.BoxSeen.{values_seen}
use Rattle.config_box.specs.declared.values.Values.{Values}
use Rattle.resource_text.specs.DevicesJson.{set_data}
use Rattle.resource_text.proofs.devices_json.values_json.Goals as goal

pub returns-in_ok-numbers_json-in-Numbers : goal.returns-in_ok-numbers_json-in-Numbers
unfolding set_data
returns-in_ok-numbers_json-in-Numbers c =
    view-Array c.in_ok-numbers_json-in-Numbers.field-0
    ∙ ap (λ (items : List Data). array (items_of items)) c.in_ok-numbers_json-in-Numbers.ensures
    ∙ sym (ap (λ (values : Values). set_data (values_seen values)) c.in-Numbers.is)

pub returns-in_ok-locales_json-in-Locales : goal.returns-in_ok-locales_json-in-Locales
unfolding set_data
returns-in_ok-locales_json-in-Locales c =
    view-Array c.in_ok-locales_json-in-Locales.field-0
    ∙ ap (λ (items : List Data). array (items_of items)) c.in_ok-locales_json-in-Locales.ensures
    ∙ sym (ap (λ (values : Values). set_data (values_seen values)) c.in-Locales.is)
