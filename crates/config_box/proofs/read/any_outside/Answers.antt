use Rattle.std.proofs.Common.{List, Bool, ℕ, refl, sym, ◌∙◌}
use Rattle.std.specs.List.{list_any}
use Rattle.box_answers.specs.config_record.Coord.{is_outside}
use Rattle.config_box.proofs.Filters.{any-here, any-next, any-end}
use Rattle.config_box.proofs.read.any_outside.Goals as goal

pub loop-number-preserved : goal.loop-number-preserved
loop-number-preserved c =
    any-next (is_outside c.args.at) (list_any (is_outside c.args.at)) c.args.numbers.now c.loop-number.number-index 0 (λ x rest. refl) c.loop-number.invariant c.loop-number-test.true
    (sym c.is_outside.ensures.value ∙ c.if-is_outside.false)

pub returns-then-is_outside : goal.returns-then-is_outside
returns-then-is_outside c =
    any-here (is_outside c.args.at) (list_any (is_outside c.args.at)) c.args.numbers.now c.loop-number.number-index 0 (λ x rest. refl) c.loop-number.invariant c.loop-number-test.true
    (sym c.is_outside.ensures.value ∙ c.if-is_outside.true)

pub returns : goal.returns
returns c = any-end (list_any (is_outside c.args.at)) c.args.numbers.now c.loop-number.number-index refl c.loop-number.invariant c.loop-number-test.false
