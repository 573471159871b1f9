use Rattle.std.proofs.Common.{ap, sym, ◌∙◌, eqb-true}
use Rattle.config_precedence.specs.config_match.declared.kind.Numbers.{Numbers}
use Rattle.config_precedence.specs.config_record.Record.{record_bytes}
use Rattle.config_precedence.specs.config_record.ComparedNumber.{record_number}
use Rattle.box_answers.proofs.Everywhere.{same-passes, numbers-same, nothing-passes, are_conditions}
use Rattle.box_answers.proofs.passing.passes_everywhere.Goals as goal

pub returns-in_default : goal.returns-in_default
returns-in_default c = λ same. same-passes c.args.rule (record_number (record_bytes c.args.a.now)) (record_number (record_bytes c.args.b.now))
    c.in_default.not-Equal c.in_default.not-AtMost c.in_default.not-KeysSuit c.in_default.not-LocaleSuits
    (sym c.numbers_of_record-x.ensures ∙ numbers-same c.numbers_of_record-x.result c.numbers_of_record-y.result c.eq.result c.eq.ensures same ∙ c.numbers_of_record-y.ensures)

pub returns-in-Equal : goal.returns-in-Equal
returns-in-Equal c = λ none. nothing-passes c.args.rule (record_number (record_bytes c.args.a.now)) (record_number (record_bytes c.args.b.now))
    (are_conditions c.args.rule.kind c.in-Equal.is)
    (ap (λ (numbers : Numbers). numbers.first) (sym c.numbers_of_record-x.ensures) ∙ eqb-true c.numbers_of_record-x.result.first 0 none)
