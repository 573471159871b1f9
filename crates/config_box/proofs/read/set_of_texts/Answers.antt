use Rattle.std.proofs.Common.{◌≡◌, ◌==◌, ℕ, ◌<◌, List, length, map, nat_lt, false, Result, Ok, sym, ◌∙◌, ap, arith, refl}
use Rattle.std.specs.Borrow.{Bor}
use Rattle.std.specs.List.{list_any}
use Rattle.std.proofs.lemmas.List.{length-map}
use Rattle.std.proofs.lemmas.Bool.Decides.{nat_tests}
use Rattle.box_answers.specs.config_record.locales.declared.locale_rule.LocaleRule.{LocaleRule}
use Rattle.box_answers.specs.NumberSet.{SetOf, LocalesOf, set_of}
use Rattle.box_answers.specs.Members.{most_values}
use Rattle.config_box.specs.declared.box_fault.BoxFault.{BoxFault}
use Rattle.config_box.specs.BoxJson.{is_malformed, is_region_alone, number_of_text, set_of_texts}
use Rattle.config_box.specs.ByRule.{IsOfRule}
use Rattle.config_box.specs.Choices.{rising}
use Rattle.config_box.proofs.ChoiceSteps.{each-by_index}
use Rattle.config_box.proofs.ReadSteps.{locales-fit}
use Rattle.config_box.proofs.read.set_of_texts.Goals as goal

texts_of : List (Bor (List ℕ)) → List (List ℕ)
texts_of texts = map (λ text. text.now) texts

count : (texts : List (Bor (List ℕ))) → length (texts_of texts) ≡ length texts
unfolding texts_of
count texts = simp length-map refl

count-numbers : (rule : LocaleRule) (texts : List (Bor (List ℕ))) → length (map (number_of_text rule) (texts_of texts)) ≡ length texts
unfolding texts_of
count-numbers rule texts = simp length-map refl

pub returns-clause-value : goal.returns-clause-value
unfolding set_of_texts texts_of
returns-clause-value c =
    let texts : List (List ℕ) = texts_of c.args.texts.now in
    let same_count : length texts ≡ length c.args.texts.now = count c.args.texts.now in
    let none : (length c.args.texts.now == 0) ≡ false = sym c.is_empty.ensures ∙ c.if-is_empty.false in
    let some : (length texts == 0) ≡ false = ap (λ n. n == 0) same_count ∙ none in
    let few : nat_lt most_values (length texts) ≡ false = grind (arith, nat_tests, same_count, c.if-texts-gt-MOST_VALUES.false) in
    let spelled : list_any (is_malformed c.args.rule) texts ≡ false = sym c.any_malformed.ensures ∙ c.if-any_malformed.false in
    let whole : list_any (is_region_alone c.args.rule) texts ≡ false = sym c.any_region_alone.ensures ∙ c.if-any_region_alone.false in
    let wrapped : SetOf → Result SetOf BoxFault = λ s. Ok s in
    let same : set_of c.in_ok-locales_set.field-0 ≡ LocalesOf (rising (map (number_of_text c.args.rule) texts)) =
    c.in_ok-locales_set.ensures ∙ ap (λ (xs : List ℕ). LocalesOf (rising xs)) (c.as_slice.ensures.value ∙ c.in_ok-numbers.ensures.value) in
    rw (some, few, spelled, whole) (ap wrapped (sym same))

pub returns-clause-fits : goal.returns-clause-fits
unfolding texts_of
returns-clause-fits c =
    let numbers : List ℕ = c.in_ok-numbers.numbers.items in
    let same_count : length numbers ≡ length c.args.texts.now = ap (λ (xs : List ℕ). length xs) c.in_ok-numbers.ensures.value ∙ count-numbers c.args.rule c.args.texts.now in
    let same : set_of c.in_ok-locales_set.field-0 ≡ LocalesOf (rising numbers) =
    c.in_ok-locales_set.ensures ∙ ap (λ (xs : List ℕ). LocalesOf (rising xs)) c.as_slice.ensures.value in
    let none : (length c.args.texts.now == 0) ≡ false = sym c.is_empty.ensures ∙ c.if-is_empty.false in
    let some : 0 < length numbers = grind (arith, nat_tests, none, same_count) in
    rw same (locales-fit c.args.rule numbers some (omega (arith, same_count, c.if-texts-gt-MOST_VALUES.false)) (each-by_index (IsOfRule c.args.rule) numbers c.in_ok-numbers.ensures.of_rule))
