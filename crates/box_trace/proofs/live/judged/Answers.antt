use Rattle.std.proofs.Common.{sym, ◌∙◌, refl}
use Rattle.config_box.proofs.box_answers.SomeMember.{some-of-all}
use Rattle.box_trace.proofs.live.judged.Goals as goal

pub returns-in-Always : goal.returns-in-Always
returns-in-Always c = record {
  some = some-of-all _ _ _ c.in-Always.ensures.sets c.in-Always.ensures.value;
  mark = ((λ _. c.in-Always.ensures.value), (λ _. refl));
}

pub returns-in-Mixed : goal.returns-in-Mixed
returns-in-Mixed c =
    let parts = c.in-Mixed.ensures.value.parts in
    record {
      some = (_, parts.yes);
      mark = ((λ no. absurd (cc)), (λ all. let no = sym (all _ parts.no.member) ∙ parts.no.answers in cc));
    }
