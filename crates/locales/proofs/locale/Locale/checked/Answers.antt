use Rattle.std.proofs.Common.{rules, ◌≡◌, Ok, refl}
use Rattle.locales.specs.declared.locale.LocaleFault.TheVariants.{RegionAlone, Malformed}
use Rattle.locales.specs.Locale.{checked_locale}
use Rattle.locales.proofs.LocaleLemmas.{not_given}
use Rattle.locales.proofs.LocaleGiven.{two_bytes, four_bytes, given, numbered}
use Rattle.locales.proofs.locale.Locale.checked.Goals as goal
use Rattle.locales.proofs.locale.Locale.checked.Goals.{else-is_zero-via-then-is_zero+else-not-is_zero-2, else-is_zero-via-else-is_zero}

pub returns-then-not-is_zero-clause-not_given : goal.returns-then-not-is_zero-clause-not_given
unfolding checked_locale
returns-then-not-is_zero-clause-not_given c = not_given _ Malformed (rw (← c.if-not-is_zero.ensures) refl)

pub returns-then-not-is_spelled-clause-not_given : goal.returns-then-not-is_spelled-clause-not_given
unfolding checked_locale
returns-then-not-is_spelled-clause-not_given c = not_given _ Malformed (rw (← c.if-not-is_zero.ensures, ← c.if-not-is_spelled.ensures) refl)

pub returns-then-not-is_zero-2-clause-not_given : goal.returns-then-not-is_zero-2-clause-not_given
unfolding checked_locale
returns-then-not-is_zero-2-clause-not_given c =
    not_given _ RegionAlone (rw (← c.if-not-is_zero.ensures, ← c.if-not-is_spelled.ensures, ← c.if-is_zero.ensures, ← c.if-not-is_zero-2.ensures) refl)

pub returns-else-is_zero-clause-given : goal.returns-else-is_zero-clause-given
unfolding checked_locale
returns-else-is_zero-clause-given c =
    let passes : checked_locale c.args.self ≡ Ok c.args.self =
    elim c.else-is_zero.branch [
      | else-is_zero-via-then-is_zero+else-not-is_zero-2 w ↦ rw (← c.if-not-is_zero.ensures, ← c.if-not-is_spelled.ensures, ← w.if-is_zero.ensures, ← w.if-not-is_zero-2.ensures) refl
      | else-is_zero-via-else-is_zero w ↦ rw (← c.if-not-is_zero.ensures, ← c.if-not-is_spelled.ensures, ← w.if-is_zero.ensures) refl
    ] in
    given _ (two_bytes c.args.self.language (search rules) (search rules)) (two_bytes c.args.self.region (search rules) (search rules)) (four_bytes c.args.self.script (search rules) (search rules)) passes

pub returns-else-is_zero-clause-numbered : goal.returns-else-is_zero-clause-numbered
returns-else-is_zero-clause-numbered c =
    numbered _ (two_bytes c.args.self.language (search rules) (search rules)) (two_bytes c.args.self.region (search rules) (search rules)) (four_bytes c.args.self.script (search rules) (search rules))
