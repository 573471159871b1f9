use Rattle.std.proofs.Common.{rules, ap, ◌∙◌}
use Rattle.locales.specs.LocaleNumber.{locale_of_number}
use Rattle.locales.proofs.LocaleGiven.{two_bytes, four_bytes, number_of_bytes, numbered}
use Rattle.locales.proofs.locale.Locale.number.Goals as goal

pub returns-clause-value : goal.returns-clause-value
returns-clause-value c =
    let language = two_bytes c.args.self.language (search rules) (search rules) in
    let region = two_bytes c.args.self.region (search rules) (search rules) in
    let script = four_bytes c.args.self.script (search rules) (search rules) in
    c.from_be_bytes.ensures ∙ number_of_bytes c.args.self language region script

pub returns-clause-back : goal.returns-clause-back
returns-clause-back c =
    let language = two_bytes c.args.self.language (search rules) (search rules) in
    let region = two_bytes c.args.self.region (search rules) (search rules) in
    let script = four_bytes c.args.self.script (search rules) (search rules) in
    ap locale_of_number (c.from_be_bytes.ensures ∙ number_of_bytes c.args.self language region script) ∙ numbered c.args.self language region script
