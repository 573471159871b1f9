use Rattle.std.proofs.Common.{subst}
use Rattle.box_answers.specs.Members.{SomeMember}
use Rattle.box_answers.proofs.SomeMember.{some_member}
use Rattle.config_box.proofs.config_box.ConfigBox.is_never_empty.Goals as goal

pub returns : goal.returns
returns c = subst SomeMember c.self.view_is (some_member _ c.self.invariant)
