use Rattle.std.proofs.Common.{rules, refl, IsTrue, false}
use Rattle.config_precedence.specs.config_record.ComparedNumber.{device_number}
use Rattle.config_precedence.specs.config_record.DeviceSeen.{device_numbers}
use Rattle.box_answers.specs.NumberSet.{set_of, IsIn}
use Rattle.box_answers.specs.Members.{sets_of, set_at}
use Rattle.box_answers.proofs.Coords.{next-coord, every-coord}
use Rattle.box_answers.proofs.SearchSteps.{not_so}
use Rattle.box_answers.proofs.members.is_member_at.Goals as goal

not_true : IsTrue false → ⊥
not_true e = cc

pub loop-coord-preserved : goal.loop-coord-preserved
loop-coord-preserved c =
    let is : IsIn (set_of c.set_at.result.now) c.compared_number.result = c.contains.ensures.0 (search rules) in
    next-coord (λ k. IsIn (set_at (sets_of c.args.sets.now) k) (device_number (device_numbers c.args.device.now) k)) c.loop-coord.coord-index _ c.args.coords.now _
    c.requires.coords refl c.loop-coord-test.true c.loop-coord.invariant (rw (c.set_at.ensures, c.compared_number.ensures.value) at is)

pub returns-then-not-contains : goal.returns-then-not-contains
returns-then-not-contains c = (
  λ no. absurd (not_true no),
  λ member. absurd (not_so c.contains.result c.contains.ensures c.if-not-contains.true (rw (c.set_at.ensures, c.compared_number.ensures.value) (member _))),
)

pub returns : goal.returns
returns c = (
  λ _. every-coord (λ k. IsIn (set_at (sets_of c.args.sets.now) k) (device_number (device_numbers c.args.device.now) k)) c.loop-coord.coord-index c.args.coords.now
      c.requires.coords c.loop-coord-test.false c.loop-coord.invariant,
  λ _. refl,
)
