use Rattle.std.proofs.Common.{◌≡◌, ◌≢◌, ℕ, arith, ap, ◌∙◌, subst}
use Rattle.config_precedence.specs.config_record.Record.{record_bytes}
use Rattle.config_precedence.specs.config_record.ComparedNumber.{record_number, device_number}
use Rattle.config_precedence.specs.config_record.DeviceSeen.{device_numbers}
use Rattle.config_precedence.specs.config_match.Rule.{rule_answer}
use Rattle.box_answers.specs.NumberSet.{SetOf, IsIn, IsLeastIn}
use Rattle.box_answers.specs.SearchedSet.{IsGreatestIn}
use Rattle.box_answers.specs.Members.{sets_of}
use Rattle.box_answers.specs.Changes.{answer_at}
use Rattle.box_answers.proofs.Sets.{before-other, change-found, set_count, proper-there}
use Rattle.box_answers.proofs.SearchSteps.{two_answer, second-none, second-after, not_so}
use Rattle.box_answers.proofs.rule_search.RuleSearch.find_by_second.Goals as goal

pub set_at-set-requires : goal.set_at-set-requires
set_at-set-requires c = set_count c.args.self.now.sets.now c.requires.search.sets

pub least-requires : goal.least-requires
least-requires c = proper-there (sets_of c.args.self.now.sets.now) _ c.args.second c.requires.search.sets c.set_at-set.ensures

pub greatest-requires : goal.greatest-requires
greatest-requires c = proper-there (sets_of c.args.self.now.sets.now) _ c.args.second c.requires.search.sets c.set_at-set.ensures

pub returns-then-says-clause-found : goal.returns-then-says-clause-found
returns-then-says-clause-found c =
    let after = second-after c.args.self.now.rule c.args.second c.requires.two c.requires.search.in_order in
    change-found _ c.args.self.now.rule _ _ _ _ c.args.second c.least.result c.args.want c.requires.search.member (omega arith)
    (subst (λ (s : SetOf). IsIn s c.least.result) c.set_at-set.ensures c.least.ensures.is_in)
    c.changed-low.ensures.same c.changed-low.ensures.others (c.says.ensures.0 c.if-says.true)

pub returns-then-says-2-clause-found : goal.returns-then-says-2-clause-found
returns-then-says-2-clause-found c =
    let after = second-after c.args.self.now.rule c.args.second c.requires.two c.requires.search.in_order in
    change-found _ c.args.self.now.rule _ _ _ _ c.args.second c.greatest.result c.args.want c.requires.search.member (omega arith)
    (subst (λ (s : SetOf). IsIn s c.greatest.result) c.set_at-set.ensures c.greatest.ensures.is_in)
    c.changed-high.ensures.same c.changed-high.ensures.others (c.says-2.ensures.0 c.if-says-2.true)

pub returns-clause-none : goal.returns-clause-none
returns-clause-none c =
    let rule = c.args.self.now.rule in
    let a = record_number (record_bytes c.args.self.now.a) in
    let b = record_number (record_bytes c.args.self.now.b) in
    let from = device_number (device_numbers c.args.self.now.from) in
    let after = second-after rule c.args.second c.requires.two c.requires.search.in_order in
    let first : rule.coord ≢ c.args.second = before-other c.args.second rule.coord after in
    let low : rule_answer rule a b (device_number (device_numbers c.changed-low.result)) ≡ answer_at rule a b (from rule.coord) c.least.result =
    two_answer rule c.args.second a b _ c.requires.two
    ∙ ap (λ (n : ℕ). answer_at rule a b n (device_number (device_numbers c.changed-low.result) c.args.second)) (c.changed-low.ensures.others rule.coord first)
    ∙ ap (λ (n : ℕ). answer_at rule a b (from rule.coord) n) c.changed-low.ensures.same in
    let high : rule_answer rule a b (device_number (device_numbers c.changed-high.result)) ≡ answer_at rule a b (from rule.coord) c.greatest.result =
    two_answer rule c.args.second a b _ c.requires.two
    ∙ ap (λ (n : ℕ). answer_at rule a b n (device_number (device_numbers c.changed-high.result) c.args.second)) (c.changed-high.ensures.others rule.coord first)
    ∙ ap (λ (n : ℕ). answer_at rule a b (from rule.coord) n) c.changed-high.ensures.same in
    second-none (sets_of c.args.self.now.sets.now) rule c.args.second a b c.args.want (from rule.coord) c.least.result c.greatest.result c.requires.two
    (subst (λ (s : SetOf). IsLeastIn s c.least.result) c.set_at-set.ensures c.least.ensures)
    (subst (λ (s : SetOf). IsGreatestIn s c.greatest.result) c.set_at-set.ensures c.greatest.ensures)
    (λ e. not_so c.says.result c.says.ensures c.if-says.false (low ∙ e))
    (λ e. not_so c.says-2.result c.says-2.ensures c.if-says-2.false (high ∙ e))
