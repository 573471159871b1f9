use Rattle.std.proofs.Common.{◌≢◌, ℕ, [], List, Option, map, subst, ap, ◌∙◌}
use Rattle.std.specs.Prelude.{Contains}
use Rattle.reference_resolver.specs.res_value.declared.res_id.ResId.{ResId}
use Rattle.reference_resolver.specs.overlay_map.Layer.{LayerOf}
use Rattle.stack_diff.specs.RowPlaces.{row_places}
use Rattle.stack_diff.specs.LayersSeen.{layers_of}
use Rattle.stack_diff.specs.Raising.{cells_of, KeepsReach, ids_more, no_more}
use Rattle.stack_diff.proofs.AskSteps.{begun-over}
use Rattle.stack_diff.proofs.UsesSteps.{are-uses}
use Rattle.stack_diff.proofs.RaisedRows.{some-of}
use Rattle.stack_diff.specs.UsesLimit.{IdsLeave}
use Rattle.stack_diff.proofs.LimitSteps.{is-within, is-above}
use Rattle.stack_diff.proofs.all_uses.row_uses.Goals as goal

pub returns-in-Some-clause-uses : goal.returns-in-Some-clause-uses
returns-in-Some-clause-uses c =
    let ids = map (λ (id : ResId). id.0) c.in_ok-ids.ids.items in
    let stack = c.args.stack.now in
    let complete = subst (λ (layers : List LayerOf). (id : ℕ) → row_places layers id ≢ [] → Contains ids id) (ap layers_of c.deref-2.ensures.value ∙ c.in_ok-layers.ensures) c.in_ok-ids.ensures.all in
    let begun = begun-over _ _ _ _ (ap layers_of c.deref.ensures.value ∙ c.in_ok-layers.ensures) c.in_ok-uses.ensures in
    let keeps =
    subst (λ (some : List ResId). KeepsReach (cells_of c.in_ok-uses.uses) (ids_more stack c.args.members.now (map (λ (id : ResId). id.0) some)) (cells_of c.raise_ids.new.uses) no_more) c.deref-4.ensures.value
    (some-of c.in_ok-raised.raised c.in-Some.field-0 _ c.in-Some.is c.in_ok-raised.ensures.keeps) in
    are-uses stack c.args.members.now ids complete _ (cells_of c.in_ok-uses.uses) (cells_of c.raise_ids.new.uses) begun keeps

pub returns-in-Some-clause-within : goal.returns-in-Some-clause-within
returns-in-Some-clause-within c =
    let ids = map (λ (id : ResId). id.0) c.in_ok-ids.ids.items in
    let stack = c.args.stack.now in
    let sets = c.args.members.now in
    let start = cells_of c.in_ok-uses.uses in
    let complete = subst (λ (layers : List LayerOf). (id : ℕ) → row_places layers id ≢ [] → Contains ids id) (ap layers_of c.deref-2.ensures.value ∙ c.in_ok-layers.ensures) c.in_ok-ids.ensures.all in
    let begun = begun-over _ _ _ _ (ap layers_of c.deref.ensures.value ∙ c.in_ok-layers.ensures) c.in_ok-uses.ensures in
    let keeps = some-of c.in_ok-raised.raised c.in-Some.field-0 _ c.in-Some.is c.in_ok-raised.ensures.keeps in
    let tree =
    subst (λ (some : List ResId). IdsLeave stack sets start (map (λ (id : ResId). id.0) some) c.args.max_nodes c.in_ok-raised.raised) c.deref-4.ensures.value c.in_ok-raised.ensures.tree in
    is-within stack sets _ start (cells_of c.raise_ids.new.uses) _ _ ids c.args.max_nodes c.in-Some.field-0 begun keeps c.in_ok-ids.ensures.once complete
    (subst (λ (found : Option ℕ). IdsLeave stack sets start ids c.args.max_nodes found) c.in-Some.is tree)

pub returns-clause-within : goal.returns-clause-within
returns-clause-within c =
    let ids = map (λ (id : ResId). id.0) c.in_ok-ids.ids.items in
    let stack = c.args.stack.now in
    let sets = c.args.members.now in
    let start = cells_of c.in_ok-uses.uses in
    let begun = begun-over _ _ _ _ (ap layers_of c.deref.ensures.value ∙ c.in_ok-layers.ensures) c.in_ok-uses.ensures in
    let tree =
    subst (λ (some : List ResId). IdsLeave stack sets start (map (λ (id : ResId). id.0) some) c.args.max_nodes c.in_ok-raised.raised) c.deref-4.ensures.value c.in_ok-raised.ensures.tree in
    is-above stack sets _ start ids c.args.max_nodes begun c.in_ok-ids.ensures.once (subst (λ (found : Option ℕ). IdsLeave stack sets start ids c.args.max_nodes found) c.in-None.is tree)
