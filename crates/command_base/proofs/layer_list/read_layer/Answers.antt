use Rattle.std.proofs.Common.{◌≡◌, length, arith, ap, sym, ◌∙◌, Some, None, ok_or, option_map, refl}
use Rattle.json_tokens.specs.Fields.{fields_seen}
use Rattle.command_base.specs.declared.layers_fault.LayersFault.TheVariants.{Shape}
use Rattle.command_base.specs.LayerListSeen.{lent_paths_of}
use Rattle.command_base.proofs.LayerSteps.{layer_of_members, layer-read, two-members}
use Rattle.command_base.proofs.layer_list.read_layer.Goals as goal

pub returns-then-not-branch-clause-value : goal.returns-then-not-branch-clause-value
returns-then-not-branch-clause-value c = layer-read _ _ _ c.in_ok-fields.ensures.value ∙ ap (λ only. Some (layer_of_members (fields_seen c.fields.new.slots only), c.fields.new.self)) c.if-not-branch.true

pub returns-in_ok-owned_layer-in-Some-clause-value : goal.returns-in_ok-owned_layer-in-Some-clause-value
returns-in_ok-owned_layer-in-Some-clause-value c =
    let two : length c.fields.new.slots ≡ 2 = grind arith in
    layer-read _ _ _ c.in_ok-fields.ensures.value
    ∙ ap (λ only. Some (layer_of_members (fields_seen c.fields.new.slots only), c.fields.new.self)) c.if-not-branch.false
    ∙ ap (λ layer. Some (layer, c.fields.new.self))
    (two-members c.fields.new.slots two ∙ ap (λ paths. ok_or paths Shape) (sym c.layer_paths.ensures ∙ ap (option_map lent_paths_of) c.in-Some.is ∙ ap (λ paths. Some paths) (sym c.in_ok-owned_layer-in-Some.ensures)))

pub returns-in-None-clause-value : goal.returns-in-None-clause-value
returns-in-None-clause-value c =
    let two : length c.fields.new.slots ≡ 2 = grind arith in
    layer-read _ _ _ c.in_ok-fields.ensures.value
    ∙ ap (λ only. Some (layer_of_members (fields_seen c.fields.new.slots only), c.fields.new.self)) c.if-not-branch.false
    ∙ ap (λ layer. Some (layer, c.fields.new.self))
    (two-members c.fields.new.slots two ∙ ap (λ paths. ok_or paths Shape) (sym c.layer_paths.ensures ∙ ap (option_map lent_paths_of) c.in-None.is))
