use Rattle.std.proofs.Common.{refl}
use Rattle.box_trace.proofs.live.judged_again.Goals as goal

pub returns-then-live : goal.returns-then-live
returns-then-live c =
    let all = c.requires c.if-live.true in
    let member = c.is_never_empty.ensures in
    record {
      some = (member.0, record { member = member.1; answers = all member.0 member.1 });
      mark = ((λ _. all), (λ _. refl));
    }
