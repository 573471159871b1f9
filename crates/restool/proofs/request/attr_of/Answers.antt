use Rattle.std.proofs.Common.{◌≡◌, ℕ, Bool, true, false, not, List, Ok, Err, codes, refl, ap}
use Rattle.std.proofs.lemmas.Result.{err_from_is_err_and}
use Rattle.clap.specs.Walk.{Row}
use Rattle.clap.specs.Words.{found_of, rows_of}
use Rattle.resource_tool.specs.command_base.answer_text.config_record.locales.declared.locale_rule.LocaleRule.{LocaleRule}
use Rattle.resource_tool.specs.command_base.names.Named.{NamedOf}
use Rattle.resource_tool.specs.command_base.FileWords.{texts_of}
use Rattle.restool.specs.declared.argument_fault.ArgumentFault.{ArgumentFault}
use Rattle.restool.specs.declared.argument_fault.ArgumentFault.TheVariants as faults
use Rattle.restool.specs.declared.request.Request.{Request}
use Rattle.restool.specs.AskedWords.{ReadsWords, named_word}
use Rattle.restool.specs.Given.{IsGiven, ReadsAlong, ReadsByRule, word_at}
use Rattle.restool.specs.Request.{attr_asked, locales_at, resources_at}
use Rattle.restool.proofs.request.attr_of.Goals as goal

-- the attribute is there, and so are the styles
asked : (rows : List Row) (attr : NamedOf) (styles : List (List ℕ)) → named_word (word_at (codes "ATTR") rows) ≡ Ok attr → resources_at (codes "STYLE") rows ≡ Ok styles
    → attr_asked rows ≡ Ok (record { attr = attr; styles = styles })
unfolding attr_asked
asked rows attr styles first second = rw first (rw second refl)

-- the attribute is not
no_attr : (rows : List Row) (fault : ArgumentFault)
    → ReadsByRule {X = Request} (locales_at rows) (λ rule. ReadsAlong (named_word (word_at (codes "ATTR") rows)) (λ asked read. ⊥)) (Err fault)
    → ReadsByRule {X = Request} (locales_at rows) (λ rule. ReadsAlong (attr_asked rows) (λ asked read. ⊥)) (Err fault)
unfolding attr_asked
no_attr rows (faults.BadRule word) p = p
no_attr rows (faults.BadId word) p = (p.0, p.1, rw p.2 refl)
no_attr rows faults.OutOfMemory p = p

-- the styles are not
no_styles : (rows : List Row) (rule : LocaleRule) (attr : NamedOf) (fault : ArgumentFault)
    → locales_at rows ≡ Ok rule → named_word (word_at (codes "ATTR") rows) ≡ Ok attr → ReadsWords (Err fault) (resources_at (codes "STYLE") rows)
    → ReadsByRule {X = Request} (locales_at rows) (λ rule. ReadsAlong (attr_asked rows) (λ asked read. ⊥)) (Err fault)
unfolding attr_asked
no_styles rows rule attr (faults.BadRule word) is first p = absurd p
no_styles rows rule attr (faults.BadId word) is first p = (rule, is, rw first (rw p refl))
no_styles rows rule attr faults.OutOfMemory is first p = (rule, is, tt)

-- what is forced is not kept
kept : (name : List ℕ) (rows : List Row) (flag : Bool) → IsGiven name rows flag → IsGiven name rows (not (not flag))
kept name rows true p = p
kept name rows false p = p

pub returns-in_err-locales : goal.returns-in_err-locales
returns-in_err-locales c =
    let p = err_from_is_err_and c.from_residual.result c.from_residual.ensures.1 in
    rw (p.1, p.2) (no_attr (rows_of (found_of c.args.given.now)) c.in_err-locales.field-0.0 c.in_err-locales.ensures)

pub returns-in_err-styles : goal.returns-in_err-styles
returns-in_err-styles c =
    let p = err_from_is_err_and c.from_residual-in_err-styles.result c.from_residual-in_err-styles.ensures.1 in
    let read = c.in_ok-locales.ensures in
    rw (p.1, p.2) (no_styles (rows_of (found_of c.args.given.now)) read.0 read.2.0 c.in_err-styles.field-0.0 read.1 read.2.1 c.in_err-styles.ensures)

pub returns : goal.returns
returns c =
    let read = c.in_ok-locales.ensures in (
      read.0,
      read.1,
      (
        record { attr = read.2.0; styles = texts_of c.in_ok-styles.styles },
        asked (rows_of (found_of c.args.given.now)) read.2.0 _ read.2.1 c.in_ok-styles.ensures,
        (
          read.2.2.0,
          c.given_word.ensures,
          c.given_word-2.ensures,
          c.given_flag.ensures,
          c.given_answer_form.ensures,
          kept (codes "keep") (rows_of (found_of c.args.given.now)) c.given_flag-2.result c.given_flag-2.ensures,
          ap (λ (attr : NamedOf). record { attr = attr; styles = texts_of c.in_ok-styles.styles }) read.2.2.1,
        ),
      ),
    )
