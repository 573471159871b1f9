use Rattle.std.proofs.Common.{◌≡◌, ◌+◌, ◌<◌, ◌++◌, arith, Bool, List, ap, drop, false, fold, get_or, length, map, string_bytes, subst, sym, unwrap_or, ◌∙◌}
use Rattle.std.specs.List.{zip}
use Rattle.std.proofs.lemmas.List.{drop_all}
use Rattle.std.proofs.lemmas.Option.{unwrap_or-slice_get}
use Rattle.resource_tool.specs.UnusedOutput.{layer_lines, used_rows, with_row}
use Rattle.resource_tool.proofs.Got.{got}
use Rattle.resource_tool.proofs.UsedRows.{both-next, found-layer, layer-counted, layers-counted, layers-end, seen-next, text-end, text-next, within-more, zip-none}
use Rattle.resource_tool.proofs.unused_rows.push_layers.Goals as goal

pub loop-of_layer-preserved : goal.loop-of_layer-preserved
loop-of_layer-preserved c =
    let place = c.loop-of_layer.place in
    let before = c.loop-of_layer.invariant in
    let item = c.of_layer-item.result in
    let there = c.in-Some.ensures.lookup in
    let apart = c.deref.ensures.value ∙ before.apart in
    let found = found-layer c.args.stack place c.in-Some.layer.now (subst (λ layers. place < length layers) apart there.3.0)
    (subst (λ layers. c.in-Some.layer.now ≡ get_or layers place c.in-Some.layer.now) apart there.1) in
    let second = seen-next (λ of_layer. of_layer.items) c.args.uses.now place item (omega (arith, before.place, c.loop-of_layer-test.true))
    (subst (λ i. item ≡ get_or c.args.uses.now i item) (sym before.place) c.of_layer-item.is) in
    let split = both-next _ _ _ _ found.0 item.items found.1 second in
    let own = c.deref-in-loop-of_layer-2.ensures.value in
    let lines = layer_lines c.args.form (map string_bytes c.args.paths.now) in
    let overlays = c.deref-in-loop-of_layer.result.now in
    let at = got _ c.get-in-loop-of_layer.result overlays place c.get-in-loop-of_layer.ensures.lookup.1 c.get-in-loop-of_layer.ensures.lookup.3 in
    let told = c.unwrap_or.ensures ∙ ap (λ found. unwrap_or found false) (c.copied.ensures ∙ at) ∙ unwrap_or-slice_get overlays place false in
    let overlay = told ∙ ap (λ overlays. get_or overlays place false) (c.deref-in-loop-of_layer.ensures.value ∙ before.overlays) ∙ found.3 in record {
      apart = before.apart;
      overlays = before.overlays;
      place = ap (λ i. i + 1) before.place;
      few = omega (arith, there.3.0, ap length c.deref.ensures.value, c.in_ok-layers.ensures.few);
      text = text-next lines _ _ _ place _ _ (found.0, item.items) before.text
          (subst (λ uses. c.push_layer.new.text.items ≡ c.loop-of_layer.text.items ++ lines (place, (found.0, uses))) own (c.in_ok-push_layer.ensures.text found.0 found.2 overlay)) split;
      counted = layer-counted _ _ _ _ _ (found.0, item.items) before.counted
          (subst (λ uses. c.push_layer.new.totals ≡ fold with_row c.loop-of_layer.totals (used_rows (found.0, uses))) own (c.in_ok-push_layer.ensures.counted found.0 found.2)) split;
      within = c.in_ok-push_layer.ensures.within;
    }

pub returns : goal.returns
returns c =
    let place = c.loop-of_layer.place in
    let before = c.loop-of_layer.invariant in
    let gone = ap (map (λ of_layer. of_layer.items)) (drop_all place c.args.uses.now (omega (arith, before.place, c.loop-of_layer-test.false))) in
    let none = ap (zip (drop place c.args.stack)) gone ∙ zip-none (drop place c.args.stack) in
    (text-end (layer_lines c.args.form (map string_bytes c.args.paths.now)) _ _ place _ none before.text, layers-counted _ _ _ none before.counted, within-more _ _ _ (omega (arith, before.few)) before.within)

pub returns-in_default : goal.returns-in_default
returns-in_default c =
    let place = c.loop-of_layer.place in
    let before = c.loop-of_layer.invariant in
    let none = layers-end c.args.stack _ place c.deref.result.now (c.deref.ensures.value ∙ before.apart) c.in_default.ensures.lookup.0 in
    (text-end (layer_lines c.args.form (map string_bytes c.args.paths.now)) _ _ place _ none before.text, layers-counted _ _ _ none before.counted, within-more _ _ _ (omega (arith, before.few)) before.within)
