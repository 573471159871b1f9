use Rattle.std.proofs.Common.{List, map, sym, ap, ◌∙◌}
use Rattle.std.proofs.lemmas.List.{get_or_default, take_all}
use Rattle.std.proofs.lemmas.Simd.{map-map}
use Rattle.serde_json.specs.View.{view}
use Rattle.config_box.specs.config_record.locales.LocaleNumber.{locale_number}
use Rattle.config_box.specs.config_record.locales.declared.locale.Locale.{Locale}
use Rattle.config_box.specs.config_record.locales.Text.{locale_text}
use Rattle.resource_text.specs.DevicesJson.{locale_data}
use Rattle.resource_text.specs.TextJson.{text_data}
use Rattle.resource_text.proofs.Mapped.{one-more}
use Rattle.resource_text.proofs.devices_json.locales_json.Goals as goal

pub loop-locale-preserved : goal.loop-locale-preserved
loop-locale-preserved c =
    one-more view (λ locale. locale_data (locale_number locale)) c.args.locales.now c.loop-locale.locale-index _ c.loop-locale.values.items _ c.in_ok-value.value c.loop-locale-test.true
    (get_or_default c.args.locales.now c.loop-locale.locale-index _ _ c.loop-locale-test.true) c.loop-locale.invariant c.in_ok-push.ensures.items (c.in_ok-value.ensures ∙ ap (λ (locale : Locale). text_data (locale_text locale)) c.of_number.ensures.value ∙ ap locale_data c.number.ensures.value)

pub returns : goal.returns
returns c =
    c.loop-locale.invariant
    ∙ ap (λ (locales : List Locale). map (λ locale. locale_data (locale_number locale)) locales) (take_all c.loop-locale.locale-index c.args.locales.now c.loop-locale-test.false)
    ∙ sym (map-map locale_data locale_number c.args.locales.now)
