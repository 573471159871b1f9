use Rattle.std.proofs.Common.{refl, subst}
use Rattle.std.specs.List.{All}
use Rattle.cert_maker.specs.box_answers.Members.{SomeMember}
use Rattle.stack_diff.proofs.change.Change.joined.Goals as goal

pub returns : goal.returns
returns c = record {
  difference = refl;
  devices = c.in_ok-boxes.ensures.devices;
  some = c.in_ok-boxes.ensures.some;
  kinds = c.in_ok-boxes.ensures.kinds;
  least = c.in_ok-boxes.ensures.least;
  none_empty = subst (All SomeMember) c.deref.ensures.value c.have_devices.ensures;
}
