use Rattle.std.proofs.Common.{◌+◌, nat_eq, Some, ap, ◌∙◌}
use Rattle.std.specs.Option.{option_eq}
use Rattle.locales.specs.TextNumber.{number_of}
use Rattle.locales.specs.TextNumber.{number_of_text, script_number}
use Rattle.locales.specs.Line.{line_of, first_met, is_near_us_english_of}
use Rattle.locales.proofs.tree.is_near_us_english.Goals as goal

pub returns : goal.returns
unfolding number_of is_near_us_english_of
returns c =
    let english = number_of_text "en" in
    let line = c.deref.ensures.0 ∙ c.line-line.ensures.value ∙ ap (λ region. line_of (english + region) (script_number "Latn")) c.from.ensures in
    let first = c.first_of.ensures ∙ ap (λ locales. first_met locales english (number_of_text "en-001")) line in
    c.eq.ensures ∙ ap (λ found. option_eq nat_eq found (Some english)) first
