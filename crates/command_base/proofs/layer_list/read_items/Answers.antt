use Rattle.std.proofs.Common.{◌≡◌, ◌≤◌, ◌<◌, length, Some, None, option_map, ok_or, arith, ap, sym, ◌∙◌, Ok, Err, [], ◌∷◌, refl}
use Rattle.std.proofs.lemmas.List.{length-map, map-append}
use Rattle.std.proofs.lemmas.Result.{err_from_is_err_and}
use Rattle.json.specs.Json.{parse_map, after_end_array}
use Rattle.json_tokens.specs.Standing.{value_at}
use Rattle.command_base.specs.LayerList.{layer_paths_in}
use Rattle.command_base.specs.LayerListSeen.{paths_of, all_paths_of}
use Rattle.command_base.specs.LayerKinds.{layer_seen}
use Rattle.command_base.specs.declared.layers_fault.LayersFault.TheVariants.{Shape}
use Rattle.command_base.proofs.LayerSteps.{KeptWalked-none, KeptWalked-next, KeptWalked-over, KeptWalked-end, KeptWalked-stops, KeptWalked-malformed, KeptWalked-not_passed}
use Rattle.command_base.proofs.layer_list.read_items.Goals as goal

pub items-init : goal.items-init
items-init c = (rw c.new-layers.ensures.items (KeptWalked-none _ _), omega arith)

pub returns-in_err-layer : goal.returns-in_err-layer
returns-in_err-layer c =
    let p = err_from_is_err_and c.from_residual.result c.from_residual.ensures.1 in
    let going : (after_end_array c.items.tokens ≡ None) × (c.next_item.new.self ≡ c.items.tokens) = grind arith in
    rw (p.1, p.2) (λ other. let q = c.in_err-layer.ensures.value other in (q.0, KeptWalked-malformed _ _ _ _ c.items.invariant.0 going.0 (rw (← going.1) q.1)))

pub returns-in_err-pass_items : goal.returns-in_err-pass_items
returns-in_err-pass_items c =
    let p = err_from_is_err_and c.from_residual-in_err-pass_items.result c.from_residual-in_err-pass_items.ensures.1 in
    let going : (after_end_array c.items.tokens ≡ None) × (c.next_item.new.self ≡ c.items.tokens) = grind arith in
    let read : parse_map layer_paths_in (value_at 126 c.items.tokens) ≡ Some (layer_seen c.in_ok-layer.field-0, c.read_layer.new.tokens) = rw (← going.1) c.in_ok-layer.ensures.value in
    rw (p.1, p.2) (λ other. (refl, KeptWalked-not_passed _ _ _ _ _ _ c.items.invariant.0 going.0 read c.in_err-pass_items.ensures.value))

pub returns-in_default : goal.returns-in_default
returns-in_default c =
    let going : (after_end_array c.items.tokens ≡ None) × (c.next_item.new.self ≡ c.items.tokens) = grind arith in
    let none : c.in_ok-layer.field-0 ≡ None = grind arith in
    let read : parse_map layer_paths_in (value_at 126 c.items.tokens) ≡ Some (layer_seen c.in_ok-layer.field-0, c.read_layer.new.tokens) = rw (← going.1) c.in_ok-layer.ensures.value in
    KeptWalked-stops _ _ _ _ _ _ Shape c.items.invariant.0 going.0 (read ∙ ap (λ layer. Some (layer_seen layer, c.read_layer.new.tokens)) none) c.in_ok-pass_items.ensures.value

pub items-preserved-in-Continue-branch-4 : goal.items-preserved-in-Continue-branch-4
items-preserved-in-Continue-branch-4 c =
    let going : (after_end_array c.items.tokens ≡ None) × (c.next_item.new.self ≡ c.items.tokens) = grind arith in
    let read : parse_map layer_paths_in (value_at 126 c.items.tokens) ≡ Some (layer_seen c.in_ok-layer.field-0, c.read_layer.new.tokens) = rw (← going.1) c.in_ok-layer.ensures.value in
    let count : length (all_paths_of c.items.layers) ≡ length c.items.layers.items = length-map c.items.layers.items paths_of in
    let few : length (all_paths_of c.items.layers) ≤ 64 = grind (arith, count, c.if-len-le-MOST_LAYERS.true, c.len.ensures) in
    let next = KeptWalked-next _ _ _ _ _ (paths_of c.in-Some.layer) c.items.invariant.0 going.0 (read ∙ ap (λ layer. Some (layer_seen layer, c.read_layer.new.tokens)) c.in-Some.is) few in
    (rw (c.in_ok-push.ensures.items, map-append paths_of c.items.layers.items (c.in-Some.layer ∷ [])) next, grind (arith, going.1, c.items.invariant.1, c.in_ok-layer.ensures.shorter))

pub items-preserved-else-len-le-MOST_LAYERS : goal.items-preserved-else-len-le-MOST_LAYERS
items-preserved-else-len-le-MOST_LAYERS c =
    let going : (after_end_array c.items.tokens ≡ None) × (c.next_item.new.self ≡ c.items.tokens) = grind arith in
    let read : parse_map layer_paths_in (value_at 126 c.items.tokens) ≡ Some (layer_seen c.in_ok-layer.field-0, c.read_layer.new.tokens) = rw (← going.1) c.in_ok-layer.ensures.value in
    let count : length (all_paths_of c.items.layers) ≡ length c.items.layers.items = length-map c.items.layers.items paths_of in
    let many : 64 < length (all_paths_of c.items.layers) = grind (arith, count, c.if-len-le-MOST_LAYERS.false, c.len.ensures) in (
      KeptWalked-over _ _ _ _ _ (paths_of c.in-Some.layer) c.items.invariant.0 going.0 (read ∙ ap (λ layer. Some (layer_seen layer, c.read_layer.new.tokens)) c.in-Some.is) many,
      grind (arith, going.1, c.items.invariant.1, c.in_ok-layer.ensures.shorter),
    )

pub items-preserved : goal.items-preserved
items-preserved c =
    let going : (after_end_array c.items.tokens ≡ None) × (c.next_item.new.self ≡ c.items.tokens) = grind arith in
    let read : parse_map layer_paths_in (value_at 126 c.items.tokens) ≡ Some (layer_seen c.in_ok-layer.field-0, c.read_layer.new.tokens) = rw (← going.1) c.in_ok-layer.ensures.value in
    let count : length (all_paths_of c.items.layers) ≡ length c.items.layers.items = length-map c.items.layers.items paths_of in
    let many : 64 < length (all_paths_of c.items.layers) = grind (arith, count, c.if-len-le-MOST_LAYERS.false, c.len.ensures) in (
      KeptWalked-over _ _ _ _ _ (paths_of c.in-Some.layer) c.items.invariant.0 going.0 (read ∙ ap (λ layer. Some (layer_seen layer, c.read_layer.new.tokens)) c.in-Some.is) many,
      grind (arith, going.1, c.items.invariant.1, c.in_ok-layer.ensures.shorter),
    )

pub returns : goal.returns
returns c =
    let over : after_end_array c.items.tokens ≡ Some c.next_item.new.self = grind arith in
    KeptWalked-end _ _ _ _ _ c.items.invariant.0 over
