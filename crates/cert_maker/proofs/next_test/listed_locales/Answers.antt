use Rattle.std.proofs.Common.{◌≡◌, Bool, filter, sym, ◌∙◌, ap}
use Rattle.std.proofs.lemmas.List.{take_all}
use Rattle.std.proofs.lemmas.List.Elements.{All-same, All-push}
use Rattle.cert_checker.specs.config_record.DeviceSeen.{device_numbers}
use Rattle.cert_checker.specs.config_record.locales.declared.locale.Locale.{Locale}
use Rattle.cert_checker.specs.config_record.locales.LocaleNumber.{locale_number, locale_of_number}
use Rattle.cert_checker.specs.box_trace.Parting.{answer_of}
use Rattle.cert_maker.specs.Listed.{answer_in}
use Rattle.cert_maker.proofs.Filtered.{kept, passed-over}
use Rattle.cert_maker.proofs.next_test.listed_locales.Goals as goal
use Rattle.cert_maker.proofs.next_test.listed_locales.Goals.{then-answers_yes_in+in_ok-push, else-answers_yes_in}

abbrev IsWhole : Locale → Type 0
IsWhole locale = locale_of_number (locale_number locale) ≡ locale

pub loop-locale-preserved : goal.loop-locale-preserved
loop-locale-preserved c =
    let test : Locale → Bool = answer_in (answer_of c.args.parting.now) (device_numbers c.args.parting.now.pair.yes) in
    let before = c.loop-locale.listed.items in
    let after = c.if-answers_yes_in.listed.items in
    let so_far = c.loop-locale.invariant.listed in
    elim c.if-answers_yes_in.branch [
      | then-answers_yes_in+in_ok-push w ↦
          let is = ap (λ v. v.items) w.listed-is ∙ w.in_ok-push.ensures.items in
          record {
            listed = kept test c.args.locales.now before after c.loop-locale.locale-index _ c.loop-locale-test.true so_far (sym c.answers_yes_in.ensures.value ∙ w.if-answers_yes_in.true) is;
            back = All-same IsWhole _ _ is (All-push IsWhole _ _ c.loop-locale.invariant.back c.answers_yes_in.ensures.back);
          }
      | else-answers_yes_in w ↦
          let is = ap (λ v. v.items) w.listed-is in
          record {
            listed = passed-over test c.args.locales.now before after c.loop-locale.locale-index _ c.loop-locale-test.true so_far (sym c.answers_yes_in.ensures.value ∙ w.if-answers_yes_in.false) is;
            back = All-same IsWhole _ _ is c.loop-locale.invariant.back;
          }
    ]

pub returns-clause-listed : goal.returns-clause-listed
returns-clause-listed c =
    let test : Locale → Bool = answer_in (answer_of c.args.parting.now) (device_numbers c.args.parting.now.pair.yes) in
    c.loop-locale.invariant.listed ∙ ap (filter test) (take_all c.loop-locale.locale-index c.args.locales.now c.loop-locale-test.false)
