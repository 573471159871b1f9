use Rattle.std.proofs.Common.{◌+◌, List, map, sym, ap, ◌∙◌, subst}
use Rattle.std.proofs.lemmas.Result.{err_from_is_err_and}
use Rattle.json_input.proofs.EachSteps.{EachAllBut, EachAllBut-next_item_seen, EachAllBut-stops_item, EachAllBut-end_item}
use Rattle.box_answers.specs.declared.number_set.NumberSet.{NumberSet}
use Rattle.box_answers.specs.NumberSet.{set_of}
use Rattle.box_answers.specs.Members.{sets_of}
use Rattle.config_box.specs.BoxJson.{set_in}
use Rattle.config_box.specs.BoxSeen.{pair_seen}
use Rattle.config_box.proofs.ReadSteps.{SetsSoFar, SetsSoFar-next, SetsSoFar-end, SetsSoFar-by_rule}
use Rattle.config_box.proofs.read.sets_of_each.Goals as goal

pub returns-in_err-set-clause-value : goal.returns-in_err-set-clause-value
returns-in_err-set-clause-value c =
    let p = err_from_is_err_and c.from_residual-in_err-set.result c.from_residual-in_err-set.ensures.1 in
    rw (p.1, p.2)
    (λ other. EachAllBut-stops_item (set_in c.args.rule) pair_seen _ _ c.args.written.now _ _ c.loop-coord.invariant.read c.loop-coord-test.true
    (ap (λ v. set_in c.args.rule (pair_seen v)) (sym c.loop-coord-item.is) ∙ c.in_err-set.ensures.value other))

pub loop-coord-preserved : goal.loop-coord-preserved
loop-coord-preserved c = record {
  read = subst (λ (xs : List NumberSet). EachAllBut (set_in c.args.rule) (sets_of xs) (c.loop-coord.coord-index + 1) (map pair_seen c.args.written.now)) (sym c.in_ok-push.ensures.items)
      (EachAllBut-next_item_seen (set_in c.args.rule) pair_seen set_of c.loop-coord.sets.items c.loop-coord.coord-index c.args.written.now _ c.in_ok-set.set c.loop-coord.invariant.read c.loop-coord-test.true
      (ap (λ v. set_in c.args.rule (pair_seen v)) (sym c.loop-coord-item.is) ∙ c.in_ok-set.ensures.value));
  sets = subst (λ (xs : List NumberSet). SetsSoFar c.args.rule xs (c.loop-coord.coord-index + 1)) (sym c.in_ok-push.ensures.items)
      (SetsSoFar-next c.args.rule c.loop-coord.sets.items c.in_ok-set.set c.args.written.now c.loop-coord.coord-index c.loop-coord-item.result c.loop-coord.invariant.sets c.requires c.loop-coord-test.true
      c.loop-coord-item.is c.in_ok-set.ensures.fits);
}

pub returns-clause-sets : goal.returns-clause-sets
returns-clause-sets c =
    SetsSoFar-end c.args.rule c.loop-coord.sets.items c.args.written.now c.loop-coord.coord-index c.loop-coord.invariant.sets c.requires c.loop-coord-test.false c.loop-coord.auto.coord-index-end

pub returns-clause-by_rule : goal.returns-clause-by_rule
returns-clause-by_rule c = SetsSoFar-by_rule c.args.rule c.loop-coord.sets.items c.args.written.now c.loop-coord.coord-index c.loop-coord.invariant.sets c.requires c.loop-coord-test.false

pub returns-clause-value : goal.returns-clause-value
returns-clause-value c = EachAllBut-end_item (set_in c.args.rule) pair_seen _ _ c.args.written.now c.loop-coord.invariant.read c.loop-coord-test.false
