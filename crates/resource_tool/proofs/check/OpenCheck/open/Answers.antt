use Rattle.std.proofs.Common.{◌≡◌, ℕ, ◌+◌, List, length, map, take, ap, arith, refl}
use Rattle.std.proofs.lemmas.List.{length-map}
use Rattle.std.proofs.lemmas.Result.{err_from_is_err_and}
use Rattle.command_base.specs.overlay_map.Layer.{LayerOf}
use Rattle.resource_text.specs.cert_maker.cert_tree.Certificate.{goal_of}
use Rattle.command_base.specs.Stop.{tool}
use Rattle.resource_text.specs.cert_maker.res_value.Goal.{GoalSeen}
use Rattle.resource_tool.specs.Check.{OpenCheckOf, check_opened, with_first}
use Rattle.resource_tool.specs.CheckOutput.{CheckInputs}
use Rattle.resource_tool.specs.OpenedSeen.{opened_cert}
use Rattle.resource_tool.proofs.FirstOf.{none-stops, opened-first, opened-none}
use Rattle.resource_tool.proofs.check.OpenCheck.open.Goals as goal

abbrev made : CheckInputs → List GoalSeen → OpenCheckOf
made inputs goals = record { opened = inputs; goals = goals }

abbrev stack_of : CheckInputs → List LayerOf
stack_of inputs = inputs.stack

pub returns-in_err-named : goal.returns-in_err-named
unfolding check_opened
returns-in_err-named c =
    let p = err_from_is_err_and c.from_residual.result c.from_residual.ensures.1 in
    rw (p.1, p.2) (λ told.
    let stopped = rw c.deref.ensures.value at (c.in_err-named.ensures told) in rw stopped refl)

pub returns-in_err-opened : goal.returns-in_err-opened
unfolding check_opened
returns-in_err-opened c =
    let p = err_from_is_err_and c.from_residual-in_err-opened.result c.from_residual-in_err-opened.ensures.1 in
    let named = rw c.deref.ensures.value at c.in_ok-named.ensures in
    rw (p.1, p.2) (λ told.
    let stopped = rw (c.deref-2.ensures.value, c.in_ok-layers.ensures, c.deref-3.ensures.value, c.deref-4.ensures.value) at (c.in_err-opened.ensures.value (λ same. told (ap tool same))) in
    rw (named, stopped) refl)

pub returns-in_err-goals : goal.returns-in_err-goals
unfolding check_opened
returns-in_err-goals c =
    let named = rw c.deref.ensures.value at c.in_ok-named.ensures in
    let read = rw (c.deref-2.ensures.value, c.in_ok-layers.ensures, c.deref-3.ensures.value, c.deref-4.ensures.value) at c.in_ok-opened.ensures.value in
    let p = err_from_is_err_and c.from_residual-in_err-goals.result c.from_residual-in_err-goals.ensures.1 in
    rw (p.1, p.2) (
    none-stops _ c.in_err-goals.field-0.0
    (λ other.
    let none = rw c.deref-5.ensures.value at (c.in_err-goals.ensures other) in
    opened-none _ _ _ _ stack_of made with_first (c.len-most.result + 1) _ named read none)
    )

pub returns : goal.returns
unfolding check_opened
returns c =
    let named = rw c.deref.ensures.value at c.in_ok-named.ensures in
    let read = rw (c.deref-2.ensures.value, c.in_ok-layers.ensures, c.deref-3.ensures.value, c.deref-4.ensures.value) at c.in_ok-opened.ensures.value in
    let found = rw c.deref-5.ensures.value at c.in_ok-goals.ensures in
    let trees = c.in_ok-opened.opened.certificate.goals.items in
    let inputs = opened_cert c.in_ok-opened.opened in
    let count : length (map goal_of trees) ≡ c.len-most.result = omega (arith, length-map trees goal_of) in
    opened-first _ _ _ inputs stack_of made with_first (c.len-most.result + 1) _ (λ all. ap (λ (n : ℕ). made inputs (take (n + 1) all)) count)
    named read found
