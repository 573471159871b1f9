use Rattle.std.proofs.Common.{List, ap, refl, arith}
use Rattle.std.proofs.lemmas.List.{length-map}
use Rattle.std.proofs.lemmas.Result.{err_from_is_err_and}
use Rattle.command_base.specs.overlay_map.Layer.{LayerOf}
use Rattle.command_base.specs.Stop.{tool}
use Rattle.resource_text.specs.cert_maker.res_value.Goal.{GoalSeen, goal_seen}
use Rattle.resource_tool.specs.BoxFiles.{asked_box_held}
use Rattle.resource_tool.specs.Make.{OpenMakeOf, make_opened, most_goals, with_first}
use Rattle.resource_tool.specs.MakeOutput.{MakeInputs}
use Rattle.resource_tool.proofs.FirstGoals.{none-looked_at, opened-looked_at}
use Rattle.resource_tool.proofs.FirstOf.{none-stops, opened-first, opened-none}
use Rattle.resource_tool.proofs.make.OpenMake.open.Goals as goal

abbrev made : MakeInputs → List GoalSeen → OpenMakeOf
made inputs goals = record { opened = inputs; goals = goals }

abbrev stack_of : MakeInputs → List LayerOf
stack_of inputs = inputs.stack

pub returns-in_err-named : goal.returns-in_err-named
unfolding make_opened
returns-in_err-named c =
    let asked = c.args.asked.now in
    let files = asked_box_held c.args.files.now in
    let p = err_from_is_err_and c.from_residual.result c.from_residual.ensures.1 in
    rw (p.1, p.2) (λ told.
    let stopped = rw c.deref.ensures.value at (c.in_err-named.ensures told) in
    none-looked_at asked.omit asked.max_nodes (make_opened asked.locales files.layers files.box_json files.words) _ (rw stopped refl))

pub returns-in_err-opened : goal.returns-in_err-opened
unfolding make_opened
returns-in_err-opened c =
    let asked = c.args.asked.now in
    let files = asked_box_held c.args.files.now in
    let p = err_from_is_err_and c.from_residual-in_err-opened.result c.from_residual-in_err-opened.ensures.1 in
    let named = rw c.deref.ensures.value at c.in_ok-named.ensures in
    rw (p.1, p.2) (λ told.
    let stopped = rw (c.deref-2.ensures.value, c.in_ok-layers.ensures, c.deref-3.ensures.value) at (c.in_err-opened.ensures.value (λ same. told (ap tool same))) in
    none-looked_at asked.omit asked.max_nodes (make_opened asked.locales files.layers files.box_json files.words) _ (rw (named, stopped) refl))

pub returns-in_err-goals : goal.returns-in_err-goals
unfolding make_opened
returns-in_err-goals c =
    let asked = c.args.asked.now in
    let files = asked_box_held c.args.files.now in
    let most = most_goals asked.omit asked.max_nodes in
    let named = rw c.deref.ensures.value at c.in_ok-named.ensures in
    let read = rw (c.deref-2.ensures.value, c.in_ok-layers.ensures, c.deref-3.ensures.value) at c.in_ok-opened.ensures.value in
    let p = err_from_is_err_and c.from_residual-in_err-goals.result c.from_residual-in_err-goals.ensures.1 in
    rw (p.1, p.2) (
    none-stops _ c.in_err-goals.field-0.0
    (λ other.
    let none = rw (c.deref-4.ensures.value, c.most_goals-most.ensures) at (c.in_err-goals.ensures other) in
    none-looked_at asked.omit asked.max_nodes (make_opened asked.locales files.layers files.box_json files.words) _
    (opened-none _ _ _ _ stack_of made (with_first most) most _ named read none))
    )

pub returns : goal.returns
unfolding make_opened
returns c =
    let asked = c.args.asked.now in
    let files = asked_box_held c.args.files.now in
    let most = most_goals asked.omit asked.max_nodes in
    let named = rw c.deref.ensures.value at c.in_ok-named.ensures in
    let read = rw (c.deref-2.ensures.value, c.in_ok-layers.ensures, c.deref-3.ensures.value) at c.in_ok-opened.ensures.value in
    let goals = c.in_ok-goals.goals in
    let count = length-map goals.items goal_seen in
    let found = rw (c.deref-4.ensures.value, c.most_goals-most.ensures) at c.in_ok-goals.ensures in
    opened-looked_at asked.omit asked.max_nodes (make_opened asked.locales files.layers files.box_json files.words) _
    (opened-first _ _ _ _ stack_of made (with_first most) most _ (λ all. refl) named read found) (omega (arith, count, goals.ok, goals.small))
