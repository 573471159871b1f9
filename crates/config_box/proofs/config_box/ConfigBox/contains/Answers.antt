use Rattle.std.proofs.Common.{List, ap, subst, ◌∙◌}
use Rattle.std.specs.Prelude.{◌↔◌, IsTrue}
use Rattle.box_answers.specs.config_record.DeviceSeen.{device_numbers}
use Rattle.box_answers.specs.NumberSet.{SetOf}
use Rattle.box_answers.specs.Members.{sets_of, IsMember}
use Rattle.config_box.proofs.config_box.ConfigBox.contains.Goals as goal

pub returns : goal.returns
returns c =
    subst (λ (b : List SetOf). IsTrue c.is_member.result ↔ IsMember b (device_numbers c.args.device.now)) (ap sets_of c.as_slice.ensures.value ∙ c.self.view_is) c.is_member.ensures
