use Rattle.std.proofs.Common.{ℕ, List, map, ap, ◌∙◌}
use Rattle.std.specs.Borrow.{Bor}
use Rattle.std.proofs.lemmas.List.{take_all}
use Rattle.config_box.specs.BoxJson.{number_of_text}
use Rattle.config_box.specs.ByRule.{IsOfRule}
use Rattle.config_box.proofs.ReadSteps.{texts-next, each-next}
use Rattle.config_box.proofs.read.numbers_of_texts.Goals as goal

pub loop-text-preserved : goal.loop-text-preserved
loop-text-preserved c = record {
  same = texts-next c.args.rule c.loop-text.numbers.items c.push.new.self.items c.args.texts.now c.loop-text.text-index c.number_of_text.result _ c.loop-text.invariant.same c.loop-text-test.true
      c.in_ok-push.ensures.items c.number_of_text.ensures.value;
  of_rule = each-next (IsOfRule c.args.rule) c.loop-text.numbers.items c.push.new.self.items c.number_of_text.result c.loop-text.invariant.of_rule
      c.in_ok-push.ensures.items c.number_of_text.ensures.of_rule;
}

pub returns-clause-value : goal.returns-clause-value
returns-clause-value c =
    c.loop-text.invariant.same
    ∙ ap (λ (texts : List (Bor (List ℕ))). map (number_of_text c.args.rule) (map (λ text. text.now) texts)) (take_all c.loop-text.text-index c.args.texts.now c.loop-text-test.false)
