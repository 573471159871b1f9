use Rattle.box_answers.specs.NumberSet.{set_of}
use Rattle.box_answers.specs.Members.{sets_of}
use Rattle.config_box.specs.Tests.{test_of}
use Rattle.config_box.proofs.HalfSteps.{half-box, half-members}
use Rattle.config_box.proofs.Lent.{box-count}
use Rattle.config_box.proofs.config_box.half_box.Goals as goal

pub invariant_of-result : goal.invariant_of-result
invariant_of-result c = rw (c.in_ok-with_set.ensures, c.coord.ensures) (half-box (sets_of c.args.sets.now) (test_of c.args.test.now) c.args.answer (set_of c.args.half) c.requires.sets c.requires.half)

pub returns : goal.returns
returns c = rw (c.in_ok-with_set.ensures, c.coord.ensures) (half-members (sets_of c.args.sets.now) (test_of c.args.test.now) c.args.answer (set_of c.args.half) c.requires.sets c.requires.half)

pub with_set-requires : goal.with_set-requires
with_set-requires c = box-count c.args.sets.now c.requires.sets
