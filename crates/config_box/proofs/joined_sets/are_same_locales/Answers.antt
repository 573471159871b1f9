use Rattle.std.proofs.Common.{ℕ, List, [], length, get_or, ap, sym, ◌∙◌, arith, below_more}
use Rattle.std.proofs.lemmas.Grind.{same_number_lists}
use Rattle.std.proofs.lemmas.List.{length-map}
use Rattle.box_answers.specs.config_record.locales.LocaleNumber.{locale_number}
use Rattle.box_answers.specs.NumberSet.{locale_numbers}
use Rattle.config_box.proofs.JoinSteps.{number-at}
use Rattle.config_box.proofs.joined_sets.are_same_locales.Goals as goal

pub returns-then-locales-others : goal.returns-then-locales-others
returns-then-locales-others c e =
    let same = ap (λ (ns : List ℕ). length ns) e in
    let first = length-map c.args.locales.now locale_number in
    let second = length-map c.args.others.now locale_number in
    c.if-locales-others.true (omega arith)

pub returns-then-number : goal.returns-then-number
returns-then-number c e =
    let first = number-at c.args.locales.now c.loop-place.place c.number.result (record { language = []; region = []; script = [] }) c.loop-place-test.true c.number.ensures.value in
    let second = number-at c.args.others.now c.loop-place.place c.number-in-loop-place.result (record { language = []; region = []; script = [] }) (omega (arith, c.if-locales-others.false)) c.number-in-loop-place.ensures.value in
    c.if-number.true (sym first ∙ ap (λ (ns : List ℕ). get_or ns c.loop-place.place 0) e ∙ second)

pub loop-place-preserved : goal.loop-place-preserved
loop-place-preserved c =
    let first = number-at c.args.locales.now c.loop-place.place c.number.result (record { language = []; region = []; script = [] }) c.loop-place-test.true c.number.ensures.value in
    let second = number-at c.args.others.now c.loop-place.place c.number-in-loop-place.result (record { language = []; region = []; script = [] }) (omega (arith, c.if-locales-others.false)) c.number-in-loop-place.ensures.value in
    below_more _ _ c.loop-place.invariant (first ∙ c.if-number.false ∙ sym second)

pub returns : goal.returns
returns c =
    let first = length-map c.args.locales.now locale_number in
    let second = length-map c.args.others.now locale_number in
    let same = c.if-locales-others.false in
    same_number_lists (locale_numbers c.args.locales.now) (locale_numbers c.args.others.now) (omega arith) (λ k q. c.loop-place.invariant k (omega (arith, c.loop-place-test.false)))
