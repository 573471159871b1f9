use Rattle.std.proofs.Common.{List, ℕ, subst, map}
use Rattle.std.specs.List.{join_with_byte}
use Rattle.std.specs.Io.KnownBytes.{Appends}
use Rattle.std.proofs.lemmas.List.{drop_all}
use Rattle.config_record.specs.locales.LocaleNumber.{locale_number}
use Rattle.config_record.proofs.SeparatorSteps.{Continues-joined, ContinuesAllBut-none, ContinuesAllBut-next, ContinuesAllBut-end}
use Rattle.notation.specs.LocaleWord.{locale_word}
use Rattle.notation.specs.DevicesNotation.{comma, word_unless}
use Rattle.notation.proofs.ListSteps.{flat_map-seen}
use Rattle.notation.proofs.lists.write_locales_but.Goals as goal

pub loop-locale-init : goal.loop-locale-init
loop-locale-init g c = ContinuesAllBut-none (λ locale. word_unless locale_word (map locale_number c.args.others.now) (locale_number locale)) _ _ _

pub loop-locale-preserved : goal.loop-locale-preserved
loop-locale-preserved g c =
    ContinuesAllBut-next (λ locale. word_unless locale_word (map locale_number c.args.others.now) (locale_number locale)) _ _ _ _ _ _ c.args.locales.now c.loop-locale.locale-index _ c.loop-locale.invariant c.loop-locale-test.true c.in_ok-write_locale_unless.ensures

pub returns : goal.returns
returns g c =
    subst (λ (words : List (List ℕ)). Appends (g.W.Write.contents c.args.out.now) (g.W.Write.contents c.loop-locale.out) (join_with_byte comma words))
    (flat_map-seen (word_unless locale_word (map locale_number c.args.others.now)) locale_number c.args.locales.now)
    (Continues-joined _ _ _ _ _ (ContinuesAllBut-end _ _ _ _ _ _ _ c.loop-locale.invariant (drop_all c.loop-locale.locale-index c.args.locales.now c.loop-locale-test.false)))
