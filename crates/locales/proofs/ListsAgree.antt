-- The tables of the code have the lines of the lists, in order.
use Rattle.std.proofs.Common.{◌≡◌, ℕ, ◌<◌, ◌==◌, ◌&&◌, true, List, [], ◌∷◌, nat_lt, is_some, option_map, IfSome, inl, inr, refl, sym, ap, ap₂, ◌∙◌, eqb-true, ltb-true}
use Rattle.std.specs.List.{list_any, list_all}
use Rattle.std.proofs.lemmas.Bool.{and_parts, cases_Bool}
use Rattle.locales.specs.declared.lines.ScriptLine.{ScriptLine}
use Rattle.locales.specs.declared.lines.ParentLine.{ParentLine}
use Rattle.locales.specs.declared.tables.likely_scripts.TheConstants.{LIKELY_SCRIPTS}
use Rattle.locales.specs.declared.tables.parents.TheConstants.{PARENTS}
use Rattle.locales.specs.declared.tables.representatives.TheConstants.{REPRESENTATIVES}
use Rattle.locales.specs.TextNumber.{number_of}
use Rattle.locales.specs.LikelyScripts.{likely_scripts}
use Rattle.locales.specs.Parents.{parents}
use Rattle.locales.specs.Representatives.{representatives}
use Rattle.locales.specs.Lines.{script_in, parent_in, has_line, key_of, rises_from, IsRising, AllFit}
use Rattle.locales.proofs.Rising.{list_any-find}
use Rattle.locales.proofs.InOrder.{insert, in_order, by_bits, find-ordered}

abbrev script_key : ScriptLine → ℕ
script_key line = key_of line.script line.locale

abbrev parent_key : ParentLine → ℕ
parent_key line = key_of line.script line.locale

-- a line that has the script and the locale has their key
keyed : (script locale a b : ℕ) → (a == script && b == locale) ≡ true → key_of a b ≡ key_of script locale
keyed script locale a b both =
    let parts = and_parts (a == script) (b == locale) both in ap₂ key_of (eqb-true a script parts.0) (eqb-true b locale parts.1)

-- ---- likely scripts

pub IsRising-LIKELY_SCRIPTS : IsRising (λ line. line.locale) LIKELY_SCRIPTS
unfolding rises_from
IsRising-LIKELY_SCRIPTS = refl

AreNamed-LIKELY_SCRIPTS : list_all (λ line. nat_lt 1 line.script) LIKELY_SCRIPTS ≡ true
AreNamed-LIKELY_SCRIPTS = refl

named_in : (lines : List ScriptLine) (locale : ℕ) → list_all (λ line. nat_lt 1 line.script) lines ≡ true → IfSome (script_in lines locale) (λ script. 1 < script)
named_in [] locale all = tt
named_in (line ∷ lines) locale all =
    let parts = and_parts (nat_lt 1 line.script) (list_all (λ line. nat_lt 1 line.script) lines) all in
    elim (cases_Bool (line.locale == locale)) [
      | inl here ↦ rw here (ltb-true 1 line.script parts.0)
      | inr other ↦ rw other (named_in lines locale parts.1)
    ]

pub named-LIKELY_SCRIPTS : (locale : ℕ) → IfSome (script_in LIKELY_SCRIPTS locale) (λ script. 1 < script)
named-LIKELY_SCRIPTS locale = named_in LIKELY_SCRIPTS locale AreNamed-LIKELY_SCRIPTS

-- two letters before three, and three by the last and the second
abbrev letter_bits : List ℕ
letter_bits = 31 ∷ 30 ∷ 29 ∷ 28 ∷ 27 ∷ 26 ∷ 25 ∷ []

same_likely_scripts : in_order (λ line. line.locale) (by_bits (λ line. line.locale) letter_bits likely_scripts) ≡ LIKELY_SCRIPTS
unfolding by_bits insert in_order number_of likely_scripts
same_likely_scripts = refl

pub script_in-LIKELY_SCRIPTS : (locale : ℕ) → script_in LIKELY_SCRIPTS locale ≡ script_in likely_scripts locale
script_in-LIKELY_SCRIPTS locale =
    ap (λ lines. script_in lines locale) (sym same_likely_scripts)
    ∙ ap (option_map (λ line. line.script)) (find-ordered (λ line. line.locale) (λ line. line.locale == locale) locale (λ line is. eqb-true _ _ is) letter_bits likely_scripts)

-- ---- parents

pub IsRising-PARENTS : IsRising parent_key PARENTS
unfolding rises_from
IsRising-PARENTS = refl

pub AllFit-PARENTS : AllFit (λ line. line.locale) PARENTS
AllFit-PARENTS = refl

same_parents : in_order parent_key (by_bits parent_key [] parents) ≡ PARENTS
unfolding by_bits insert in_order number_of parents
same_parents = refl

pub parent_in-PARENTS : (locale script : ℕ) → parent_in PARENTS locale script ≡ parent_in parents locale script
parent_in-PARENTS locale script =
    ap (λ lines. parent_in lines locale script) (sym same_parents)
    ∙ ap (option_map (λ line. line.parent)) (find-ordered parent_key (λ line. line.script == script && line.locale == locale) (key_of script locale) (λ line. keyed script locale _ _) [] parents)

-- ---- representatives

pub IsRising-REPRESENTATIVES : IsRising script_key REPRESENTATIVES
unfolding rises_from
IsRising-REPRESENTATIVES = refl

pub AllFit-REPRESENTATIVES : AllFit (λ line. line.locale) REPRESENTATIVES
AllFit-REPRESENTATIVES = refl

-- the first letter of the script, and of the locale as above
abbrev script_bits : List ℕ
script_bits = 60 ∷ 59 ∷ 58 ∷ 57 ∷ 56 ∷ 31 ∷ 30 ∷ 29 ∷ 28 ∷ 27 ∷ []

same_representatives : in_order script_key (by_bits script_key script_bits representatives) ≡ REPRESENTATIVES
unfolding by_bits insert in_order number_of representatives
same_representatives = refl

pub has_line-REPRESENTATIVES : (locale script : ℕ) → has_line REPRESENTATIVES locale script ≡ has_line representatives locale script
has_line-REPRESENTATIVES locale script =
    let asked = λ (line : ScriptLine). line.script == script && line.locale == locale in
    ap (list_any asked) (sym same_representatives)
    ∙ list_any-find asked (in_order script_key (by_bits script_key script_bits representatives))
    ∙ ap is_some (find-ordered script_key asked (key_of script locale) (λ line. keyed script locale _ _) script_bits representatives)
    ∙ sym (list_any-find asked representatives)
