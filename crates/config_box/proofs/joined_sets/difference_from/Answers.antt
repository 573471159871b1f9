use Rattle.std.proofs.Common.{◌≡◌, ℕ, inl, inr, arith, sym, subst, ◌∙◌}
use Rattle.std.proofs.lemmas.Bool.{cases_eq}
use Rattle.box_answers.specs.Members.{sets_of}
use Rattle.config_box.proofs.JoinSteps.{at_place, set-read}
use Rattle.config_box.proofs.joined_sets.difference_from.Goals as goal

pub loop-place-preserved : goal.loop-place-preserved
loop-place-preserved c k from below =
    elim (cases_eq k c.loop-place.place) [
      | inl e ↦ subst (λ (i : ℕ). at_place (sets_of c.args.sets.now) i ≡ at_place (sets_of c.args.others.now) i) (sym e)
          (sym (set-read c.args.sets.now c.loop-place.place c.index-sets-place.result c.loop-place-test.true c.index-sets-place.is) ∙ c.if-not-is_same.ensures ∙ set-read c.args.others.now c.loop-place.place c.index-others-place.result (omega arith) c.index-others-place.is)
      | inr ne ↦ c.loop-place.invariant k from (omega arith)
    ]
