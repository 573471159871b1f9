use Rattle.std.proofs.Common.{ap, ◌∙◌}
use Rattle.std.specs.Str.Iter.{encode_utf16_rest, encode_utf16_pending}
use Rattle.string_pool.proofs.UnitSteps.{Compares-none, Compares-next, Compares-stops, Compares-differs, Compares-end}
use Rattle.string_pool.proofs.units.are_units_of.Goals as goal

pub returns-in_default : goal.returns-in_default
returns-in_default c = Compares-stops _ _ _ _ c.next.new.self _ c.loop-unit.invariant c.in_default.ensures.first c.in-Some.ensures.steps

pub returns-then-first-unit : goal.returns-then-first-unit
returns-then-first-unit c =
    Compares-differs _ _ _ c.in-Some-first_unit.behind.now _ c.next.new.self _ _ c.loop-unit.invariant c.in-Some-first_unit.ensures.first c.if-first-unit.true c.in-Some.ensures.steps

pub loop-unit-preserved : goal.loop-unit-preserved
loop-unit-preserved c =
    Compares-next _ _ _ _ _ _ _ _ c.loop-unit.invariant c.in-Some-first_unit.ensures.first c.if-first-unit.false c.in-Some.ensures.steps

pub returns : goal.returns
returns c = Compares-end _ _ _ _ c.loop-unit.invariant c.in-None.ensures.steps.0 c.in-None.ensures.steps.1

pub loop-unit-init : goal.loop-unit-init
loop-unit-init c =
    let units = c.into_iter-unit-iterator.result in
    let given = c.into_iter-unit-iterator.ensures.into_iter_gives in
    Compares-none c.args.bytes.now c.args.text.now units c.utf8.text (ap encode_utf16_rest given ∙ c.encode_utf16-unit-items.ensures.text) (ap encode_utf16_pending given ∙ c.encode_utf16-unit-items.ensures.pending)
