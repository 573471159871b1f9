use Rattle.std.proofs.Common.{◌≡◌, ◌==◌, ℕ, ◌<◌, List, length, get_or, nat_lt, false, Result, Ok, sym, ◌∙◌, ap, arith}
use Rattle.std.specs.List.{list_any}
use Rattle.std.proofs.lemmas.Bool.Decides.{nat_tests}
use Rattle.box_answers.specs.config_record.Coord.{is_outside}
use Rattle.box_answers.specs.NumberSet.{SetOf, NumbersOf, set_of}
use Rattle.box_answers.specs.Members.{most_values}
use Rattle.config_box.specs.declared.box_fault.BoxFault.{BoxFault}
use Rattle.config_box.specs.BoxJson.{set_of_numbers}
use Rattle.config_box.specs.Choices.{rising}
use Rattle.config_box.proofs.ChoiceSteps.{each-not, at_index}
use Rattle.config_box.proofs.ReadSteps.{inside-small, numbers-fit}
use Rattle.config_box.proofs.read.set_of_numbers.Goals as goal

pub numbers_set-requires : goal.numbers_set-requires
numbers_set-requires c = λ k q.
    inside-small c.args.at (get_or c.args.numbers.now k 0)
    (at_index (λ n. is_outside c.args.at n ≡ false) c.args.numbers.now k (each-not (is_outside c.args.at) c.args.numbers.now (sym c.any_outside.ensures ∙ c.if-any_outside.false)) q)

pub returns-clause-value : goal.returns-clause-value
unfolding set_of_numbers
returns-clause-value c =
    let some : (length c.args.numbers.now == 0) ≡ false = sym c.is_empty.ensures ∙ c.if-is_empty.false in
    let few : nat_lt most_values (length c.args.numbers.now) ≡ false = grind (arith, nat_tests, c.if-numbers-gt-MOST_VALUES.false) in
    let inside : list_any (is_outside c.args.at) c.args.numbers.now ≡ false = sym c.any_outside.ensures ∙ c.if-any_outside.false in
    let wrapped : SetOf → Result SetOf BoxFault = λ s. Ok s in
    let same : set_of c.in_ok-numbers_set.field-0 ≡ NumbersOf (rising c.args.numbers.now) = c.in_ok-numbers_set.ensures in
    rw (some, few, inside) (ap wrapped (sym same))

pub returns-clause-fits : goal.returns-clause-fits
returns-clause-fits c =
    let same : set_of c.in_ok-numbers_set.field-0 ≡ NumbersOf (rising c.args.numbers.now) = c.in_ok-numbers_set.ensures in
    let none : (length c.args.numbers.now == 0) ≡ false = sym c.is_empty.ensures ∙ c.if-is_empty.false in
    let some : 0 < length c.args.numbers.now = grind (arith, nat_tests, none) in
    rw same (numbers-fit c.args.at c.args.numbers.now c.requires some (omega (arith, c.if-numbers-gt-MOST_VALUES.false)) (sym c.any_outside.ensures ∙ c.if-any_outside.false))
