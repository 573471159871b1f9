use Rattle.std.proofs.Common.{◌≡◌, [], ◌∷◌, ◌++◌, Option, None, Some, get_or, refl, ap, ◌∙◌}
use Rattle.command_base.specs.answer_text.res_value.declared.res_id.ResId.{ResId}
use Rattle.command_base.specs.declared.pairs.NamedTarget.{NamedTarget}
use Rattle.command_base.proofs.NamedSteps.{PairedAllBut-put, PairedAllBut-skip, PairedAllBut-end}
use Rattle.command_base.proofs.pairs.found_pairs.Goals.{in-Some+in_ok-push, in_default}
use Rattle.command_base.proofs.pairs.found_pairs.Goals as goal

none-from_no_some : (found : Option ResId) → ((own : ResId) → found ≡ Some own → ⊥) → found ≡ None
none-from_no_some None other = refl
none-from_no_some (Some own) other = absurd (other own refl)

pub loop-place-preserved : goal.loop-place-preserved
loop-place-preserved c =
    elim c.match-found-place.branch [
      | in-Some+in_ok-push w ↦
          rw w.pairs-is
          (PairedAllBut-put c.args.targets.now c.args.found.now c.loop-place.pairs.items w.push.new.self.items c.loop-place.place c.index-targets-place.result w.in-Some.own
          c.requires c.loop-place-test.true c.loop-place.invariant w.in-Some.is
          (w.in_ok-push.ensures.items ∙ ap (λ (named : NamedTarget). c.loop-place.pairs.items ++ (named.id, w.in-Some.own) ∷ []) c.index-targets-place.is))
      | in_default w ↦
          rw w.pairs-is
          (PairedAllBut-skip c.args.targets.now c.args.found.now c.loop-place.pairs.items c.loop-place.place c.index-targets-place.result c.requires c.loop-place-test.true
          c.loop-place.invariant (none-from_no_some (get_or c.args.found.now c.loop-place.place None) w.in_default.not-Some))
    ]

pub returns : goal.returns
returns c = PairedAllBut-end c.args.targets.now c.args.found.now c.loop-place.pairs.items c.loop-place.place c.requires c.loop-place-test.false c.loop-place.invariant
