use Rattle.std.proofs.Common.{◌≡◌, [], ◌∷◌, ◌++◌, ◌∙◌, All, List, map, ap, append_assoc, subst, sym, length, length-append, arith}
use Rattle.std.proofs.lemmas.List.{append-nil, nil_from_length, length-map}
use Rattle.std.proofs.lemmas.List.Elements.{All-tail}
use Rattle.overlay_map.specs.Layer.{LayerOf, by_itself, HasFewRows}
use Rattle.overlay_map.proofs.stack.Stack.apart.Goals as goal

pub loop-layer-preserved : goal.loop-layer-preserved
loop-layer-preserved c =
    let left = c.next.new.self.rest.items in
    let before = c.loop-layer.stacks.items in
    let pushed : c.push.new.self.items ≡ before ++ by_itself c.in-Some.layer ∷ [] = c.in_ok-push.ensures.items ∙ ap (λ stack. before ++ stack ∷ []) c.in_ok-by_itself.ensures in
    let split = c.in-Some.ensures.steps.0 in record {
      can = tt;
      ends = tt;
      apart = ap (λ stacks. stacks ++ map by_itself left) pushed ∙ append_assoc before (by_itself c.in-Some.layer ∷ []) (map by_itself left)
          ∙ ap (λ layers. before ++ map by_itself layers) (sym split) ∙ c.loop-layer.invariant.apart;
      few_rows = All-tail HasFewRows c.in-Some.layer left (subst (λ (layers : List LayerOf). All HasFewRows layers) split c.loop-layer.invariant.few_rows);
    }

pub loop-layer-init : goal.loop-layer-init
loop-layer-init c =
    let all = c.into_iter-layer-iterator.ensures.into_iter_gives.0 in record {
      can = tt;
      ends = tt;
      apart = ap (λ stacks. stacks ++ map by_itself c.into_iter-layer-iterator.result.rest.items) c.new-stacks.ensures.items ∙ ap (λ layers. map by_itself layers) (all ∙ c.self.view_is);
      few_rows = subst (λ (layers : List LayerOf). All HasFewRows layers) (sym all) c.self.inside.few_rows;
    }

pub by_itself-requires : goal.by_itself-requires
by_itself-requires c =
    let few : All HasFewRows (c.in-Some.layer ∷ c.next.new.self.rest.items) = subst (λ (layers : List LayerOf). All HasFewRows layers) c.in-Some.ensures.steps.0 c.loop-layer.invariant.few_rows in
    few 0 c.in-Some.layer (omega arith)

pub returns-clause-apart : goal.returns-clause-apart
returns-clause-apart c =
    let left = c.loop-layer.layer-iterator.rest in
    let none : left.items ≡ [] = nil_from_length left.items (omega (arith, left.ok.0, c.in-None.ensures.steps.0)) in
    sym (append-nil c.loop-layer.stacks.items) ∙ ap (λ layers. c.loop-layer.stacks.items ++ map by_itself layers) (sym none) ∙ c.loop-layer.invariant.apart

pub returns-clause-few : goal.returns-clause-few
returns-clause-few c =
    let all : length (c.loop-layer.stacks.items ++ map by_itself c.loop-layer.layer-iterator.rest.items) ≡ length (map by_itself c.args.self) = ap (λ stacks. length stacks) c.loop-layer.invariant.apart in
    let front = length-append c.loop-layer.stacks.items (map by_itself c.loop-layer.layer-iterator.rest.items) in
    let count = length-map c.args.self by_itself in
    let same : length c.self.inside.layers.items ≡ length c.args.self = ap (λ (layers : List LayerOf). length layers) c.self.view_is in
    omega (arith, c.self.inside.few)
