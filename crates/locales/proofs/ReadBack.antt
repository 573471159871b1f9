-- What is written of a locale that a text gives reads as this locale.
use Rattle.std.proofs.Common.{◌≡◌, ℕ, ◌+◌, ◌<◌, ◌≤◌, ◌==◌, ◌&&◌, ◌||◌, not, Bool, true, false, List, [], ◌∷◌, ◌++◌, length, get_or, take, drop, position, Option, Some, None, is_some, unwrap_or, Result, Ok, Err, IfOk, refl, sym, ap, subst, ◌∙◌, inl, inr, arith, append_assoc, length-take, length-drop, eqb-true, eq-eqb, lt-ltb}
use Rattle.std.specs.List.{position_or_len}
use Rattle.std.specs.Int.{w32, to_be_bytes}
use Rattle.std.proofs.lemmas.Bool.{cases_Bool, cases_lt, and_parts, not-false}
use Rattle.std.proofs.lemmas.List.{append-nil, append_cancel_left, drop_more, take-append-drop}
use Rattle.std.proofs.lemmas.List.Quantifiers.{position-Some}
use Rattle.std.proofs.lemmas.Nat.{be_bytes_4}
use Rattle.std.proofs.Math.Bool.{and-false}
use Rattle.locales.specs.contract_words.Faults.{◌>>=◌, refuse}
use Rattle.locales.proofs.contract_words.FaultSteps.{checked_by-ok}
use Rattle.locales.specs.declared.locale.Locale.{Locale}
use Rattle.locales.specs.declared.locale.LocaleFault.{LocaleFault}
use Rattle.locales.specs.declared.locale.LocaleFault.TheVariants.{Malformed}
use Rattle.locales.specs.Zero.{is_zero}
use Rattle.locales.specs.Locale.{dash, is_small_letter, is_capital_letter, is_digit, first_letter, first_digit, part_of, language_of, region_of, no_part, without_script, unpacked, without_region, with_region, with_region_faults, cut_at, locale_of, is_spelled, locale_faults, checked_locale, plain_text, language_text, region_text}
use Rattle.locales.proofs.LocaleLemmas.{locale_of-gives}
use Rattle.locales.specs.TextNumber.{number_of}
use Rattle.locales.specs.declared.locale_rule.LocaleRule.TheVariants.{LanguageAndRegion, Android}
use Rattle.locales.specs.LocaleRule.{rule_of}
use Rattle.locales.specs.Words.{number_of_script}
use Rattle.locales.specs.Text.{written_script, likely_number, in_script, in_likely_script, is_dash, language_part, behind_language, text_without_script, with_script, scripted_locale_of, locale_by, language_alone, region_alone, text_with_script, locale_text, IsGivenBy}
use Rattle.locales.proofs.TextLemmas.{position_or_len-le, no_dash_before, language_alone_is, language_and_region_is, written_script-four, behind_script}

-- ---- a text that gives a locale has no script

some_part : (o : Option (List ℕ)) → not (is_some o) ≡ false → o ≡ Some (unwrap_or o no_part)
some_part None e = absurd cc
some_part (Some part) e = refl

same_locale : (language region : List ℕ) (l : Locale) → ◌≡◌ {A = Result Locale LocaleFault} (Ok (without_script language region)) (Ok l) → (language ≡ l.language) × (region ≡ l.region)
same_locale language region l e =
    let made : Locale = without_script language region in
    let same : made ≡ l = cc in
    (ap (λ (m : Locale). m.language) same, ap (λ (m : Locale). m.region) same)

record Parts (before after : List ℕ) (l : Locale) : Type 0 where
  language : language_of before ≡ Some l.language
  region : region_of after ≡ Some l.region

parts_of : (before after : List ℕ) (l : Locale) → with_region before after ≡ Ok l → Parts before after l
parts_of before after l e =
    let language = unwrap_or (language_of before) no_part in
    let region = unwrap_or (region_of after) no_part in
    let all = checked_by-ok (with_region_faults before after) (Ok (without_script language region)) l e in
    let same = same_locale language region l all.1 in
    let wrapped : List ℕ → Option (List ℕ) = λ part. Some part in
    record {
      language = some_part (language_of before) all.0.1.1.0 ∙ ap wrapped same.0;
      region = some_part (region_of after) all.0.0 ∙ ap wrapped same.1;
    }

part_of-short : (two three : ℕ → Bool) (base : ℕ) (text part : List ℕ) → part_of two three base text ≡ Some part → length text ≤ 3
part_of-short two three base [] part e = absurd cc
part_of-short two three base (a ∷ []) part e = absurd cc
part_of-short two three base (a ∷ b ∷ []) part e = omega arith
part_of-short two three base (a ∷ b ∷ c ∷ []) part e = omega arith
part_of-short two three base (a ∷ b ∷ c ∷ d ∷ text) part e = absurd cc

short_is_none : (bytes : List ℕ) → length bytes ≤ 3 → written_script bytes ≡ None
short_is_none [] short = refl
short_is_none (a ∷ []) short = refl
short_is_none (a ∷ b ∷ []) short = refl
short_is_none (a ∷ b ∷ c ∷ []) short = refl
short_is_none (a ∷ b ∷ c ∷ d ∷ bytes) short = absurd (omega arith)

no_written : (text : List ℕ) (l : Locale) → locale_of text ≡ Ok l → written_script (language_part (behind_language text)) ≡ None
no_written text l e =
    let behind = behind_language text in
    short_is_none (language_part behind) (omega (arith, length-take (position_or_len is_dash behind) behind, short))
  where
    short : length (behind_language text) ≤ 3
    short = elim (cases_lt (position_or_len is_dash text) (length text)) [
      | inl within ↦
          let place = position_or_len is_dash text in
          let cut : position is_dash text ≡ Some place = rw (lt-ltb place (length text) within) refl in
          let read : with_region (take place text) (drop (place + 1) text) ≡ Ok l = sym (ap (cut_at text) cut) ∙ e in
          part_of-short is_capital_letter is_digit first_digit (drop (place + 1) text) l.region (parts_of (take place text) (drop (place + 1) text) l read).region
      | inr end ↦ omega (arith, length-drop (position_or_len is_dash text + 1) text, position_or_len-le is_dash text)
    ]

plain : (text : List ℕ) (l : Locale) → locale_of text ≡ Ok l → scripted_locale_of text ≡ Ok (in_likely_script l)
unfolding scripted_locale_of
plain text l e = rw (no_written text l e, e) refl

-- ---- by language and region

-- where no script is written
shows_none : (l : Locale) → is_some (written_script l.script) ≡ false → locale_text l ≡ plain_text l
unfolding locale_text
shows_none l none = rw none refl

zeros_are_not_written : (script : List ℕ) → is_zero script ≡ true → is_some (written_script script) ≡ false
zeros_are_not_written [] zero = refl
zeros_are_not_written (a ∷ []) zero = refl
zeros_are_not_written (a ∷ b ∷ []) zero = refl
zeros_are_not_written (a ∷ b ∷ c ∷ []) zero = refl
zeros_are_not_written (a ∷ b ∷ c ∷ d ∷ []) zero = let first = eqb-true a 0 (and_parts _ _ zero).0 in rw first refl
zeros_are_not_written (a ∷ b ∷ c ∷ d ∷ f ∷ bytes) zero = refl

pub no_script_of : (l : Locale) → checked_locale l ≡ Ok l → is_zero l.script ≡ true
unfolding checked_locale
no_script_of l e = not-false (is_zero l.script) (checked_by-ok (locale_faults l) (Ok l) l e).0.0

pub plain_given : (text : List ℕ) (l : Locale) → locale_of text ≡ Ok l → (rule_of l ≡ LanguageAndRegion) × IsGivenBy LanguageAndRegion l
unfolding locale_by
plain_given text l e =
    let gives = locale_of-gives text l e in
    let zero = no_script_of l gives.passes in
    (rw zero refl, ap locale_of (shows_none l (zeros_are_not_written l.script zero) ∙ gives.printed) ∙ e)

pub plain_by_rule : (text : List ℕ) (r : Result Locale LocaleFault) → r ≡ locale_of text → IfOk r (λ l. rule_of l ≡ LanguageAndRegion)
plain_by_rule text (Err fault) e = tt
plain_by_rule text (Ok l) e = (plain_given text l (sym e)).0

pub plain_back : (text : List ℕ) (r : Result Locale LocaleFault) → r ≡ locale_of text → IfOk r (λ l. IsGivenBy LanguageAndRegion l)
plain_back text (Err fault) e = tt
plain_back text (Ok l) e = (plain_given text l (sym e)).1

-- ---- in the likely script

-- the number of the four bytes of a number, and the same number of a locale in another script
plain_text-in_script : (script : List ℕ) (l : Locale) → plain_text (in_script script l) ≡ plain_text l
unfolding plain_text
plain_text-in_script script l = refl

likely_number-in_script : (script : List ℕ) (l : Locale) → likely_number (in_script script l) ≡ likely_number l
unfolding number_of
likely_number-in_script script l = refl

-- no script is shown where it is the likely one
shows_no_likely : (script : List ℕ) (l : Locale) → number_of_script script ≡ likely_number l → locale_text (in_script script l) ≡ plain_text l
unfolding locale_text
shows_no_likely script l likely =
    rw (likely_number-in_script script l, eq-eqb (number_of_script script) (likely_number l) likely, and-false (is_some (written_script script))) (plain_text-in_script script l)

in_likely : (script : List ℕ) (l : Locale) → length script ≡ 4 → ((i : ℕ) → get_or script i 0 < 256) → number_of_script script ≡ likely_number l → in_likely_script l ≡ in_script script l
unfolding in_likely_script
in_likely script l four fit likely =
    let back : to_be_bytes w32 (likely_number l) ≡ script = be_bytes_4 script (likely_number l) four fit (sym likely) in
    ap (λ (bytes : List ℕ). in_script bytes l) back

-- a locale in its likely script, from a text without one
likely_given : (text script : List ℕ) (l : Locale) → locale_of text ≡ Ok l → number_of_script script ≡ likely_number l → in_likely_script l ≡ in_script script l
    → IsGivenBy Android (in_script script l)
unfolding locale_by
likely_given text script l read likely same =
    let printed = (locale_of-gives text l read).printed in
    let wrapped : Locale → Result Locale LocaleFault = λ given. Ok given in
    ap scripted_locale_of (shows_no_likely script l likely ∙ printed) ∙ plain text l read ∙ ap wrapped same

-- the bytes of the likely script are not zeros
pub zero_number : (script : List ℕ) → length script ≡ 4 → is_zero script ≡ true → number_of_script script ≡ 0
zero_number [] four zero = absurd (omega (arith, four))
zero_number (a ∷ []) four zero = absurd (omega (arith, four))
zero_number (a ∷ b ∷ []) four zero = absurd (omega (arith, four))
zero_number (a ∷ b ∷ c ∷ []) four zero = absurd (omega (arith, four))
zero_number (a ∷ b ∷ c ∷ d ∷ []) four zero =
    let x = and_parts _ _ zero in
    let y = and_parts _ _ x.1 in
    let z = and_parts _ _ y.1 in
    rw (eqb-true a 0 x.0, eqb-true b 0 y.0, eqb-true c 0 z.0, eqb-true d 0 (and_parts _ _ z.1).0) refl
zero_number (a ∷ b ∷ c ∷ d ∷ f ∷ bytes) four zero = absurd (omega (arith, four))

-- what is known of a locale in its likely script
pub record InLikely (l s : Locale) : Type 0 where
  pub made : s ≡ in_likely_script l
  pub number : number_of_script s.script ≡ likely_number l
  pub some : 1 ≤ likely_number l
  pub four : length s.script ≡ 4

pub likely_by_rule : (l s : Locale) → InLikely l s → rule_of s ≡ Android
likely_by_rule l s is = elim (cases_Bool (is_zero s.script)) [
  | inl zero ↦ absurd (omega (arith, zero_number s.script is.four zero, is.number, is.some))
  | inr given ↦ rw given refl
]

pub likely_back : (text : List ℕ) (l s : Locale) → Ok l ≡ locale_of text → InLikely l s → IsGivenBy Android s
unfolding in_likely_script
likely_back text l s read is =
    let script = to_be_bytes w32 (likely_number l) in
    let number : number_of_script script ≡ likely_number l = ap (λ (m : Locale). number_of_script m.script) (sym is.made) ∙ is.number in
    subst (λ (m : Locale). IsGivenBy Android m) (sym is.made) (likely_given text script l (sym read) number refl)

-- ---- in a script of its own

no_script_there : (script : List ℕ) → ◌≡◌ {A = Option (List ℕ)} None (Some script) → ⊥
no_script_there script e = cc

one_script : (bytes script : List ℕ) → ◌≡◌ {A = Option (List ℕ)} (Some bytes) (Some script) → bytes ≡ script
one_script bytes script e = cc

script_is : (bytes script : List ℕ) → written_script bytes ≡ Some script → bytes ≡ script
script_is [] script e = absurd (no_script_there script e)
script_is (a ∷ []) script e = absurd (no_script_there script e)
script_is (a ∷ b ∷ []) script e = absurd (no_script_there script e)
script_is (a ∷ b ∷ c ∷ []) script e = absurd (no_script_there script e)
script_is (a ∷ b ∷ c ∷ d ∷ []) script e =
    elim (cases_Bool (is_capital_letter a && is_small_letter b && is_small_letter c && is_small_letter d)) [
      | inl is ↦ one_script _ script (rw is at e)
      | inr other ↦ absurd (no_script_there script (rw other at e))
    ]
script_is (a ∷ b ∷ c ∷ d ∷ f ∷ bytes) script e = absurd (no_script_there script e)

-- what reading has found of a text with a script
pub record Found (text script : List ℕ) (s : Locale) : Type 0 where
  pub given : (length (language_part text) == 0) ≡ false
  pub plain : Locale
  pub rest : locale_of (text_without_script text) ≡ Ok plain
  pub made : in_script script plain ≡ s

one_locale : (l s : Locale) → ◌≡◌ {A = Result Locale LocaleFault} (Ok l) (Ok s) → l ≡ s
one_locale l s e = cc

no_fault : (fault : LocaleFault) (s : Locale) → ◌≡◌ {A = Result Locale LocaleFault} (Err fault) (Ok s) → ⊥
no_fault fault s e = cc

found_by : (text script : List ℕ) (s : Locale) (none : Bool) (read : Result Locale LocaleFault) → (length (language_part text) == 0) ≡ none → locale_of (text_without_script text) ≡ read
    → (refuse none Malformed >>= λ _. read >>= λ l. Ok (in_script script l)) ≡ Ok s → Found text script s
found_by text script s true read none is e = absurd (no_fault Malformed s e)
found_by text script s false (Err fault) none is e = absurd (no_fault fault s e)
found_by text script s false (Ok l) none is e = record { given = none; plain = l; rest = is; made = one_locale (in_script script l) s e }

pub found_in : (text script : List ℕ) (s : Locale) → with_script text script ≡ Ok s → Found text script s
found_in text script s e = found_by text script s (length (language_part text) == 0) (locale_of (text_without_script text)) refl refl e

-- language and region alone are written as the two pieces of the text
record Pieces (language region : List ℕ) (l : Locale) : Type 0 where
  front : plain_text (language_alone l) ≡ language
  back : plain_text (region_alone l) ≡ region

-- the language is read alone too
alone : (language : List ℕ) (l : Locale) → (length language == 0) ≡ false → position_or_len is_dash language ≡ length language → language_of language ≡ Some l.language → locale_of language ≡ Ok (language_alone l)
alone language l given no_dash read =
    let whole : without_region language ≡ Ok (language_alone l) = rw (given, read) refl in
    ap locale_of (sym (append-nil language)) ∙ language_alone_is language no_dash ∙ whole

pub language_in : (language region : List ℕ) (l : Locale) → (length language == 0) ≡ false → position_or_len is_dash language ≡ length language → position_or_len is_dash region ≡ 0
    → locale_of (language ++ region) ≡ Ok l → language_of language ≡ Some l.language
language_in language [] l given no_dash first e =
    let part = unwrap_or (language_of language) no_part in
    let read : without_region language ≡ Ok l = sym (language_alone_is language no_dash) ∙ e in
    let all = checked_by-ok ((not (length language == 0 || is_some (language_of language)), Malformed) ∷ []) (Ok (without_script part no_part)) l read in
    let wrapped : List ℕ → Option (List ℕ) = λ part. Some part in
    some_part (language_of language) (rw given at all.0.0) ∙ ap wrapped (same_locale part no_part l all.1).0
language_in language (b ∷ region) l given no_dash first e =
    (parts_of language region l (sym (language_and_region_is language b region no_dash first) ∙ e)).language

-- both are spelled where the whole is
alone_texts : (l : Locale) → is_spelled l ≡ true → (plain_text (language_alone l) ≡ language_text l.language) × (plain_text (region_alone l) ≡ region_text l.region) × (plain_text l ≡ language_text l.language ++ region_text l.region)
unfolding plain_text
alone_texts l spelled =
    let both = and_parts (is_zero l.language || is_some (language_of (unpacked first_letter l.language))) (is_zero l.region || is_some (region_of (unpacked first_digit l.region))) spelled in (
      rw both.0 (append-nil (language_text l.language)),
      rw both.1 refl,
      rw spelled refl,
    )

spelled_of : (l : Locale) → checked_locale l ≡ Ok l → is_spelled l ≡ true
unfolding checked_locale
spelled_of l e = not-false (is_spelled l) (checked_by-ok (locale_faults l) (Ok l) l e).0.1.0

pieces_of : (language region : List ℕ) (l : Locale) → (length language == 0) ≡ false → position_or_len is_dash language ≡ length language → position_or_len is_dash region ≡ 0
    → locale_of (language ++ region) ≡ Ok l → Pieces language region l
pieces_of language region l given no_dash first e =
    let gives = locale_of-gives (language ++ region) l e in
    let texts = alone_texts l (spelled_of l gives.passes) in
    let read = alone language l given no_dash (language_in language region l given no_dash first e) in
    let front : plain_text (language_alone l) ≡ language = (locale_of-gives language (language_alone l) read).printed in
    let same : language_text l.language ≡ language = sym texts.0 ∙ front in
    let whole : language ++ region_text l.region ≡ language ++ region = ap (λ (t : List ℕ). t ++ region_text l.region) (sym same) ∙ sym texts.2 ∙ gives.printed in
    record {
      front = front;
      back = texts.1 ∙ append_cancel_left language (region_text l.region) region whole;
    }

dash_between : (text : List ℕ) (place : ℕ) → position is_dash text ≡ Some place → take place text ++ dash ∷ drop (place + 1) text ≡ text
dash_between text place e =
    let at = position-Some is_dash text place 0 e in
    let byte : get_or text place 0 ≡ dash = eqb-true (get_or text place 0) dash at.1 in
    let rest : drop place text ≡ dash ∷ drop (place + 1) text = drop_more text place 0 at.0 ∙ ap (λ (b : ℕ). b ∷ drop (place + 1) text) byte in
    ap (λ (t : List ℕ). take place text ++ t) (sym rest) ∙ take-append-drop place text

-- the text is its language, a dash, its script, and the rest
text_in_pieces : (text script : List ℕ) → written_script (language_part (behind_language text)) ≡ Some script
    → language_part text ++ dash ∷ script ++ drop 4 (behind_language text) ≡ text
text_in_pieces text script written =
    let behind = behind_language text in
    let place = position_or_len is_dash text in
    let four = written_script-four (language_part behind) script written in
    let at : position_or_len is_dash behind ≡ 4 = omega (arith, four, length-take (position_or_len is_dash behind) behind, position_or_len-le is_dash behind) in
    let within : place < length text = omega (arith, four, length-take (position_or_len is_dash behind) behind, length-drop (place + 1) text) in
    let letters : script ≡ take 4 behind = sym (script_is (language_part behind) script written) ∙ ap (λ (n : ℕ). take n behind) at in
    let cut : position is_dash text ≡ Some place = rw (lt-ltb place (length text) within) refl in
    append_assoc (language_part text) (dash ∷ script) (drop 4 behind)
    ∙ ap (λ (t : List ℕ). language_part text ++ dash ∷ t) (ap (λ (t : List ℕ). t ++ drop 4 behind) letters ∙ take-append-drop 4 behind)
    ∙ dash_between text place cut

written_of : (text script : List ℕ) → written_script (language_part (behind_language text)) ≡ Some script → written_script script ≡ Some script
written_of text script written = ap written_script (sym (script_is (language_part (behind_language text)) script written)) ∙ written

own_text : (script : List ℕ) (l : Locale) → written_script script ≡ Some script → (number_of_script script == likely_number l) ≡ false → locale_text (in_script script l) ≡ text_with_script (in_script script l)
unfolding locale_text
own_text script l written other = rw (written, likely_number-in_script script l, other) refl

read_with_script : (text script : List ℕ) → written_script (language_part (behind_language text)) ≡ Some script → scripted_locale_of text ≡ with_script text script
unfolding scripted_locale_of
read_with_script text script written = rw written refl

own_given : (text script : List ℕ) (s : Locale) → written_script (language_part (behind_language text)) ≡ Some script → length script ≡ 4 → ((i : ℕ) → get_or script i 0 < 256)
    → with_script text script ≡ Ok s → IsGivenBy Android s
unfolding locale_by
own_given text script s written four fit read =
    let found = found_in text script s read in
    let l = found.plain in
    subst (λ (m : Locale). IsGivenBy Android m) found.made
    (elim (cases_Bool (number_of_script script == likely_number l)) [
      | inl is ↦
          let likely = eqb-true (number_of_script script) (likely_number l) is in likely_given (text_without_script text) script l found.rest likely (in_likely script l four fit likely)
      | inr other ↦
          let first = behind_script (behind_language text) script written in
          let pieces = pieces_of (language_part text) (drop 4 (behind_language text)) l found.given (no_dash_before text) first found.rest in
          let printed : text_with_script (in_script script l) ≡ text = rw (pieces.front, pieces.back) (text_in_pieces text script written) in
          let wrapped : Locale → Result Locale LocaleFault = λ given. Ok given in
          ap scripted_locale_of (own_text script l (written_of text script written) other ∙ printed) ∙ read_with_script text script written ∙ read ∙ ap wrapped (sym found.made)
    ])

-- ---- which rule it is

-- a script that is written has no zero in front
written_is_not_zero : (bytes script : List ℕ) → written_script bytes ≡ Some script → is_zero bytes ≡ false
written_is_not_zero [] script e = absurd (no_script_there script e)
written_is_not_zero (a ∷ []) script e = absurd (no_script_there script e)
written_is_not_zero (a ∷ b ∷ []) script e = absurd (no_script_there script e)
written_is_not_zero (a ∷ b ∷ c ∷ []) script e = absurd (no_script_there script e)
written_is_not_zero (a ∷ b ∷ c ∷ d ∷ []) script e = elim (cases_Bool (a == 0)) [
  | inl none ↦ let first = eqb-true a 0 none in absurd (no_script_there script (rw first at e))
  | inr some ↦ rw some refl
]
written_is_not_zero (a ∷ b ∷ c ∷ d ∷ f ∷ bytes) script e = absurd (no_script_there script e)

pub own_by_rule : (text script : List ℕ) (r : Result Locale LocaleFault) → written_script (language_part (behind_language text)) ≡ Some script → r ≡ with_script text script → IfOk r (λ s. rule_of s ≡ Android)
own_by_rule text script (Err fault) written read = tt
own_by_rule text script (Ok s) written read =
    let found = found_in text script s (sym read) in
    let zero = written_is_not_zero script script (written_of text script written) in
    subst (λ (m : Locale). rule_of m ≡ Android) found.made (rw zero refl)

pub own_back : (text script : List ℕ) (r : Result Locale LocaleFault) → written_script (language_part (behind_language text)) ≡ Some script → length script ≡ 4 → ((i : ℕ) → get_or script i 0 < 256)
    → r ≡ with_script text script → IfOk r (λ s. IsGivenBy Android s)
own_back text script (Err fault) written four fit read = tt
own_back text script (Ok s) written four fit read = own_given text script s written four fit (sym read)
