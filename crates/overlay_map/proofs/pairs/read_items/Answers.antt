use Rattle.std.proofs.Common.{◌≡◌, None, arith}
use Rattle.json_tokens.specs.json.Json.{after_end_array}
use Rattle.json_tokens.proofs.EachWalked.{EachWalked-end, EachWalked-stops, EachWalked-malformed, EachWalked-not_passed}
use Rattle.overlay_map.specs.IdMap.{pair_item}
use Rattle.overlay_map.proofs.pairs.read_items.Goals as goal

pub returns-in_err-pair : goal.returns-in_err-pair
returns-in_err-pair c =
    let l = c.items in
    let going : (after_end_array l.tokens ≡ None) × (c.next_item.new.self ≡ l.tokens) = grind arith in
    let none = EachWalked-malformed pair_item 126 c.args.tokens.now l.tokens l.pairs.items l.invariant going.0 (rw (← going.1) c.in_err-pair.ensures.value) in
    grind (arith, none)

pub returns-in_err-pass_items-in-Err : goal.returns-in_err-pass_items-in-Err
returns-in_err-pass_items-in-Err c =
    let l = c.items in
    let going : (after_end_array l.tokens ≡ None) × (c.next_item.new.self ≡ l.tokens) = grind arith in
    let none = EachWalked-not_passed pair_item 126 c.args.tokens.now l.tokens c.read_pair.new.tokens l.pairs.items c.in_ok-pair.field-0 l.invariant going.0 (rw (← going.1) c.in_ok-pair.ensures.value) c.in_err-pass_items-in-Err.ensures.value in
    grind (arith, none)

pub returns-in-Err : goal.returns-in-Err
returns-in-Err c =
    let l = c.items in
    let going : (after_end_array l.tokens ≡ None) × (c.next_item.new.self ≡ l.tokens) = grind arith in
    EachWalked-stops pair_item 126 c.args.tokens.now l.tokens c.read_pair.new.tokens c.pass_items.new.self l.pairs.items c.in-Err.fault l.invariant going.0 (rw (← going.1, ← c.in-Err.is) c.in_ok-pair.ensures.value) c.in_ok-pass_items-in-Err.ensures.value

pub returns : goal.returns
returns c =
    let l = c.items in
    EachWalked-end pair_item 126 c.args.tokens.now l.tokens c.next_item.new.self l.pairs.items l.invariant (grind arith)
