use Rattle.std.proofs.Common.{ℕ, subst, ap, ◌∙◌}
use Rattle.config_precedence.specs.config_record.declared.device.Device.{Device}
use Rattle.config_precedence.specs.config_record.Record.{record_bytes}
use Rattle.config_precedence.specs.config_record.ComparedNumber.{record_number}
use Rattle.box_answers.specs.NumberSet.{SetOf, IsIn, IsLeastIn}
use Rattle.box_answers.specs.SearchedSet.{IsGreatestIn}
use Rattle.box_answers.specs.Members.{sets_of}
use Rattle.box_answers.specs.Changes.{answer_at}
use Rattle.box_answers.proofs.Sets.{member-changed, change-twice, set_count, proper-there}
use Rattle.box_answers.proofs.SearchSteps.{both-none, none_by, some_by}
use Rattle.box_answers.proofs.rule_search.RuleSearch.find_by_two.Goals as goal

pub set_at-set-requires : goal.set_at-set-requires
set_at-set-requires c = set_count c.args.self.now.sets.now c.requires.search.sets

pub least-requires : goal.least-requires
least-requires c = proper-there (sets_of c.args.self.now.sets.now) _ c.args.self.now.rule.coord c.requires.search.sets c.set_at-set.ensures

pub greatest-requires : goal.greatest-requires
greatest-requires c = proper-there (sets_of c.args.self.now.sets.now) _ c.args.self.now.rule.coord c.requires.search.sets c.set_at-set.ensures

pub find_by_second-requires-clause-search : goal.find_by_second-requires-clause-search
find_by_second-requires-clause-search c = record {
  sets = c.requires.search.sets;
  member = member-changed _ _ _ c.args.self.now.rule.coord c.least.result c.requires.search.member
      (subst (λ (s : SetOf). IsIn s c.least.result) c.set_at-set.ensures c.least.ensures.is_in)
      c.changed-low.ensures.same c.changed-low.ensures.others;
  in_order = c.requires.search.in_order;
  in_place = c.requires.search.in_place;
}

pub returns-in-Some-clause-found : goal.returns-in-Some-clause-found
returns-in-Some-clause-found c = change-twice _ c.args.self.now.rule _ _ _ _ _ c.args.want c.changed-low.ensures.others c.in-Some.ensures.found

pub find_by_second-requires-2-clause-search : goal.find_by_second-requires-2-clause-search
find_by_second-requires-2-clause-search c = record {
  sets = c.requires.search.sets;
  member = member-changed _ _ _ c.args.self.now.rule.coord c.greatest.result c.requires.search.member
      (subst (λ (s : SetOf). IsIn s c.greatest.result) c.set_at-set.ensures c.greatest.ensures.is_in)
      c.changed-high.ensures.same c.changed-high.ensures.others;
  in_order = c.requires.search.in_order;
  in_place = c.requires.search.in_place;
}

pub returns-clause-found : goal.returns-clause-found
returns-clause-found c =
    some_by c.find_by_second-2.result c.find_by_second-2.ensures.found
    (λ (device : Device). λ found. change-twice _ c.args.self.now.rule _ _ _ _ _ c.args.want c.changed-high.ensures.others found)

pub returns-clause-none : goal.returns-clause-none
returns-clause-none c =
    let rule = c.args.self.now.rule in
    let a = record_number (record_bytes c.args.self.now.a) in
    let b = record_number (record_bytes c.args.self.now.b) in
    none_by c.find_by_second-2.result c.find_by_second-2.ensures.none
    (λ none. both-none (sets_of c.args.self.now.sets.now) rule c.args.second a b c.args.want c.least.result c.greatest.result c.requires.two
    (subst (λ (s : SetOf). IsLeastIn s c.least.result) c.set_at-set.ensures c.least.ensures)
    (subst (λ (s : SetOf). IsGreatestIn s c.greatest.result) c.set_at-set.ensures c.greatest.ensures)
    (λ n is e. c.in_default.ensures.none n is (ap (λ (m : ℕ). answer_at rule a b m n) c.changed-low.ensures.same ∙ e))
    (λ n is e. none n is (ap (λ (m : ℕ). answer_at rule a b m n) c.changed-high.ensures.same ∙ e)))
