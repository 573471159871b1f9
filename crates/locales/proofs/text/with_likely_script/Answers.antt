use Rattle.std.proofs.Common.{rules}
use Rattle.locales.proofs.ReadBack.{likely_by_rule, likely_back}
use Rattle.locales.proofs.text.with_likely_script.Goals as goal

pub returns-clause-by_rule : goal.returns-clause-by_rule
returns-clause-by_rule c =
    let made = c.in_likely_script.ensures in
    likely_by_rule c.in_ok-locale.locale c.in_likely_script.result (record { made = made.value; number = made.script; some = made.some; four = search rules })

pub returns-clause-given : goal.returns-clause-given
returns-clause-given c =
    let made = c.in_likely_script.ensures in
    likely_back c.args.text.now c.in_ok-locale.locale c.in_likely_script.result c.in_ok-locale.ensures.value (record { made = made.value; number = made.script; some = made.some; four = search rules })
