use Rattle.std.proofs.Common.{◌≡◌, ◌+◌, ◌-◌, ◌<◌, [], ◌∷◌, ◌++◌, length, take, sym, ap, ◌∙◌, arith}
use Rattle.std.proofs.lemmas.List.{take_more}
use Rattle.bag_rows.specs.Merge.{merge}
use Rattle.bags_themes.specs.declared.found_bag.FoundBag.{FoundBag}
use Rattle.bags_themes.specs.FoundBag.{found_bag_of}
use Rattle.bags_themes.proofs.ChainSteps.{merged_next, found_bags_of-last}
use Rattle.bags_themes.proofs.bags.merged.Goals as goal

pub bags-preserved : goal.bags-preserved
bags-preserved c =
    let chain = c.args.chain.now in
    let place = c.bags.left - 1 in
    let bag = c.index-chain-left.result in
    let within : place < length chain = omega (arith, c.bags.invariant.within, c.bags-test.true) in
    let last : c.bags.left ≡ place + 1 = omega (arith, c.bags-test.true) in
    let here : take (place + 1) chain ≡ take place chain ++ bag ∷ [] =
    take_more chain place bag within ∙ ap (λ (there : FoundBag). take place chain ++ there ∷ []) (sym c.index-chain-left.is) in
    record {
      within = omega (arith, c.bags.invariant.within);
      others = merged_next _ _ (found_bag_of bag) _ _ _ c.bags.invariant.others
          (found_bags_of-last (take c.bags.left chain) (take place chain) bag (ap (λ n. take n chain) last ∙ here))
          (c.in_ok-rows.ensures ∙ ap (λ t. merge t (found_bag_of bag).rows) c.deref.ensures.value);
    }
