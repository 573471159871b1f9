use Rattle.std.proofs.Common.{ap, sym, ◌∙◌}
use Rattle.std.specs.Option.{option_copied}
use Rattle.string_bytes.proofs.ClosingSteps.{closed_ended, closed_open}
use Rattle.string_bytes.specs.Front.{front_of}
use Rattle.string_bytes.proofs.reading.closed_bytes.Goals as goal

pub returns-in-Some-eq0 : goal.returns-in-Some-eq0
returns-in-Some-eq0 c =
    let split = c.split_at.ensures in
    closed_ended (front_of c.args.count) c.split_at.result.0.now c.split_at.result.1.now c.in-Some-eq0.field-0.now split.front split.back c.if-count-size.false
    (sym c.first.ensures.value ∙ ap option_copied c.in-Some-eq0.is) c.in-Some-eq0.field-0-test

pub returns-in-Some : goal.returns-in-Some
returns-in-Some c =
    let split = c.split_at.ensures in
    closed_open (front_of c.args.count) c.split_at.result.1.now c.in-Some.field-0.now split.back c.if-count-size.false
    (sym c.first.ensures.value ∙ ap option_copied c.in-Some.is) c.in-Some.field-0-test.1
