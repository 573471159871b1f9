use Rattle.std.proofs.Common.{rules, ◌≡◌, true, false, sym, subst, ◌∙◌, arith}
use Rattle.box_answers.specs.NumberSet.{set_of, IsIn}
use Rattle.box_answers.proofs.OnePass.{all-suit, none-suits}
use Rattle.box_answers.proofs.Sets.{tried-in}
use Rattle.box_answers.proofs.condition.Condition.suiting.Goals as goal

pub nearest-requires : goal.nearest-requires
nearest-requires c =
    let set = set_of c.args.self.now.set.now in
    let number = c.args.self.now.stored.first in
    let other_fails : c.passes.result ≡ false = search rules in record {
      parts = record {
        x_in = subst (IsIn set) (sym c.tried_number-first.ensures) (tried-in set number number 0 c.requires.set (omega (arith, c.tried_count-place-end.ensures number number)));
        y_in = subst (IsIn set) (sym c.tried_number-other.ensures) (tried-in set number number c.loop-place.place c.requires.set (omega (arith, c.tried_count-place-end.ensures number number)));
        x_passes = sym c.passes-passes.ensures ∙ c.if-passes-2.true;
        y_fails = sym c.passes.ensures ∙ other_fails;
      };
    }

pub nearest-requires-else-passes-2 : goal.nearest-requires-else-passes-2
nearest-requires-else-passes-2 c =
    let set = set_of c.args.self.now.set.now in
    let number = c.args.self.now.stored.first in
    let other_passes : c.passes.result ≡ true = search rules in record {
      parts = record {
        x_in = subst (IsIn set) (sym c.tried_number-other.ensures) (tried-in set number number c.loop-place.place c.requires.set (omega (arith, c.tried_count-place-end.ensures number number)));
        y_in = subst (IsIn set) (sym c.tried_number-first.ensures) (tried-in set number number 0 c.requires.set (omega (arith, c.tried_count-place-end.ensures number number)));
        x_passes = sym c.passes.ensures ∙ other_passes;
        y_fails = sym c.passes-passes.ensures ∙ c.if-passes-2.false;
      };
    }

pub returns-then-passes-3 : goal.returns-then-passes-3
returns-then-passes-3 c =
    let x = c.args.self.now.stored in
    all-suit c.args.self.now.kind x (set_of c.args.self.now.set.now) c.requires.one c.requires.tried
    (λ k q. c.loop-place.invariant k (omega (arith, c.loop-place-test.false, c.tried_count-place-end.ensures x.first x.first)) ∙ c.if-passes-3.true)

pub returns-else-passes-3 : goal.returns-else-passes-3
returns-else-passes-3 c =
    let x = c.args.self.now.stored in
    none-suits c.args.self.now.kind x (set_of c.args.self.now.set.now) c.requires.one c.requires.tried
    (λ k q. c.loop-place.invariant k (omega (arith, c.loop-place-test.false, c.tried_count-place-end.ensures x.first x.first)) ∙ c.if-passes-3.false)
