use Rattle.std.proofs.Common.{◌≡◌, ◌≢◌, ℕ, ◌<◌, get_or, length, arith, refl, sym, ◌∙◌, ap, subst}
use borrow.Author.Count.{below_more}
use Rattle.config_precedence.specs.config_record.Record.{record_bytes}
use Rattle.config_precedence.specs.config_record.ComparedNumber.{record_number, device_number}
use Rattle.config_precedence.specs.config_record.DeviceSeen.{device_numbers}
use Rattle.config_precedence.specs.config_match.Rule.{rule_answer}
use Rattle.box_answers.specs.NumberSet.{SetOf, set_of, IsIn, IsProper}
use Rattle.box_answers.specs.Members.{sets_of, set_at}
use Rattle.box_answers.specs.TriedNumbers.{tried_numbers}
use Rattle.box_answers.specs.Changes.{answer_at}
use Rattle.box_answers.proofs.Sets.{tried-in, change-found, set_count}
use Rattle.box_answers.proofs.SearchSteps.{one_answer, one-none, tried-there, not_so}
use Rattle.box_answers.proofs.rule_search.RuleSearch.find_by_one.Goals as goal

pub set_at-set-requires : goal.set_at-set-requires
set_at-set-requires c = set_count c.args.self.now.sets.now c.requires.search.sets

pub returns-then-says-clause-found : goal.returns-then-says-clause-found
returns-then-says-clause-found c =
    let rule = c.args.self.now.rule in
    let set : SetOf = set_of c.set_at-set.result.now in
    let at : set ≡ set_at (sets_of c.args.self.now.sets.now) rule.coord = c.set_at-set.ensures in
    let proper : IsProper set = subst (λ (s : SetOf). IsProper s) (sym at) (c.requires.search.sets.each rule.coord).proper in
    let on : c.loop-place.place < length (tried_numbers set c.compared_number-a.result c.compared_number-b.result) =
    omega (arith, c.loop-place-test.true, c.tried_count-place-end.ensures c.compared_number-a.result c.compared_number-b.result) in
    let is : IsIn set c.tried_number.result = rw c.tried_number.ensures (tried-in set c.compared_number-a.result c.compared_number-b.result c.loop-place.place proper on) in
    change-found _ rule _ _ _ _ rule.coord c.tried_number.result c.args.want c.requires.search.member (omega arith)
    (subst (λ (s : SetOf). IsIn s c.tried_number.result) at is)
    c.changed-device.ensures.same c.changed-device.ensures.others (c.says.ensures.0 c.if-says.true)

pub loop-place-preserved : goal.loop-place-preserved
loop-place-preserved c =
    let rule = c.args.self.now.rule in
    let a = record_number (record_bytes c.args.self.now.a) in
    let b = record_number (record_bytes c.args.self.now.b) in
    let d = device_number (device_numbers c.changed-device.result) in
    let here : rule_answer rule a b d ≡ answer_at rule a b (get_or (tried_numbers (set_of c.set_at-set.result.now) c.compared_number-a.result c.compared_number-b.result) c.loop-place.place 0) 0 =
    one_answer rule a b d c.requires.one ∙ ap (λ (n : ℕ). answer_at rule a b n 0) (c.changed-device.ensures.same ∙ c.tried_number.ensures) in
    below_more (λ k. answer_at rule a b (get_or (tried_numbers (set_of c.set_at-set.result.now) c.compared_number-a.result c.compared_number-b.result) k 0) 0 ≢ c.args.want)
    c.loop-place.place c.loop-place.invariant
    (λ e. not_so c.says.result c.says.ensures c.if-says.false (here ∙ e))

pub returns-clause-none : goal.returns-clause-none
returns-clause-none c =
    one-none (sets_of c.args.self.now.sets.now) c.args.self.now.rule _ _ (set_of c.set_at-set.result.now) c.compared_number-a.result c.compared_number-b.result c.args.want c.requires.one
    (tried-there _ c.args.self.now.rule _ c.requires.search.sets c.requires.search.in_place refl) c.set_at-set.ensures
    c.compared_number-a.ensures.value c.compared_number-b.ensures.value
    (λ k q. c.loop-place.invariant k (omega (arith, c.loop-place-test.false, c.tried_count-place-end.ensures c.compared_number-a.result c.compared_number-b.result)))
