use Rattle.std.proofs.Common.{sym, ◌∙◌, subst}
use Rattle.config_precedence.specs.config_record.Record.{record_bytes}
use Rattle.config_precedence.specs.config_record.ComparedNumber.{record_number}
use Rattle.std.proofs.lemmas.List.{drop_more, drop_all}
use Rattle.box_answers.specs.NumberSet.{SetOf, IsIn}
use Rattle.box_answers.specs.Members.{sets_of}
use Rattle.box_answers.specs.Sameness.{AreNeighbours}
use Rattle.box_answers.proofs.OnePass.{one-there, place-there, nothing-passes, always-there, never-there, parts-there, HasPassed-pass, HasPassed-parts, HasPassed-parted, parted-pair, one-decides, none-nowhere}
use Rattle.box_answers.proofs.SearchSteps.{one-fails, tried-there}
use Rattle.box_answers.proofs.Sets.{set_count, proper-there}
use Rattle.box_answers.proofs.matching.pass_all.Goals as goal

pub set_at-requires : goal.set_at-requires
set_at-requires c = set_count c.args.sets.now c.requires.sets

pub loop-rule-preserved-then-number-eq0 : goal.loop-rule-preserved-then-number-eq0
loop-rule-preserved-then-number-eq0 c =
    HasPassed-pass _ _ _ _ _ _ _ c.loop-rule.invariant (drop_more c.args.conditions.now c.loop-rule.rule-index _ c.loop-rule-test.true)
    (λ d m. nothing-passes _ _ (sym c.compared_number-number.ensures.value ∙ c.if-number-eq0.true) _)

pub loop-rule-preserved-in-Always : goal.loop-rule-preserved-in-Always
loop-rule-preserved-in-Always c =
    HasPassed-pass _ _ _ _ _ _ _ c.loop-rule.invariant (drop_more c.args.conditions.now c.loop-rule.rule-index _ c.loop-rule-test.true)
    (always-there _ _ _ _ _ (one-there c.args.conditions.now c.loop-rule.rule-index _ c.requires.one c.loop-rule-test.true) c.numbers_of_record-numbers.ensures c.set_at.ensures c.in-Always.ensures)

pub returns-in-Never-clause-value : goal.returns-in-Never-clause-value
returns-in-Never-clause-value c = λ d m.
    one-decides c.args.conditions.now c.loop-rule.rule-index _ _ _ c.loop-rule-test.true
    (never-there _ _ _ _ _ (one-there c.args.conditions.now c.loop-rule.rule-index _ c.requires.one c.loop-rule-test.true) c.numbers_of_record-numbers.ensures c.set_at.ensures c.in-Never.ensures d m)

pub returns-in-Never-clause-one_side : goal.returns-in-Never-clause-one_side
returns-in-Never-clause-one_side c = λ _.
    one-fails _ c.args.conditions.now _ _ c.loop-rule.rule-index _ c.loop-rule-test.true
    (none-nowhere _ _ _
    (never-there _ _ _ _ _ (one-there c.args.conditions.now c.loop-rule.rule-index _ c.requires.one c.loop-rule-test.true) c.numbers_of_record-numbers.ensures c.set_at.ensures c.in-Never.ensures))

pub loop-rule-preserved : goal.loop-rule-preserved
loop-rule-preserved c =
    HasPassed-parts _ _ _ _ _ _ _ _ c.in-Mixed.passing c.in-Mixed.failing c.loop-rule.invariant (drop_more c.args.conditions.now c.loop-rule.rule-index _ c.loop-rule-test.true)
    (one-there c.args.conditions.now c.loop-rule.rule-index _ c.requires.one c.loop-rule-test.true)
    (parts-there _ _ (record_number (record_bytes c.args.stored.now)) _ _ _ _ c.numbers_of_record-numbers.ensures c.set_at.ensures c.in-Mixed.ensures.0)
    (subst (λ (s : SetOf). AreNeighbours s c.in-Mixed.passing c.in-Mixed.failing) c.set_at.ensures c.in-Mixed.ensures.1)
    c.parted_by.ensures.first c.parted_by.ensures.further

pub returns-in-Some-clause-value : goal.returns-in-Some-clause-value
returns-in-Some-clause-value c =
    let h = HasPassed-parted _ _ _ _ _ c.in-Some.found c.loop-rule.invariant c.in-Some.is in
    parted-pair _ _ _ _ h.0 c.in-Some.found _ h.1 (drop_all c.loop-rule.rule-index c.args.conditions.now c.loop-rule-test.false) c.changed-other.ensures.same c.changed-other.ensures.others

pub suiting-requires-clause-tried : goal.suiting-requires-clause-tried
suiting-requires-clause-tried c =
    tried-there _ _ _ c.requires.sets (place-there c.args.conditions.now c.loop-rule.rule-index _ c.requires.in_place c.loop-rule-test.true) c.set_at.ensures

pub parted_by-requires-clause-passing : goal.parted_by-requires-clause-passing
parted_by-requires-clause-passing c = subst (λ (s : SetOf). IsIn s c.in-Mixed.passing) c.set_at.ensures c.in-Mixed.ensures.0.x_in

pub suiting-requires-clause-set : goal.suiting-requires-clause-set
suiting-requires-clause-set c = proper-there (sets_of c.args.sets.now) _ _ c.requires.sets c.set_at.ensures
