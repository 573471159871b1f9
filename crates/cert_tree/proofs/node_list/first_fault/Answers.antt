use Rattle.std.proofs.Common.{◌≡◌, ◌≤◌, [], ◌∷◌, ◌++◌, length, None, Some, arith, length-append}
use Rattle.json.specs.Json.{after_end_array}
use Rattle.json.proofs.Grammar.{left_some}
use Rattle.json_tokens.specs.Standing.{value_at}
use Rattle.json_tokens.proofs.Walked.{Walked-next, Walked-malformed}
use Rattle.cert_tree.proofs.NodesWalked.{fault-more, fault-few}
use Rattle.cert_tree.proofs.node_list.first_fault.Goals as goal

pub returns-then-count-most-clause-value : goal.returns-then-count-most-clause-value
returns-then-count-most-clause-value c =
    let l = c.items in
    let going : (after_end_array l.tokens ≡ None) × (c.next_item.new.self ≡ l.tokens) = grind arith in
    let full : c.args.most ≤ length l.invariant.0 = omega (arith, l.invariant.2, c.if-count-most.true) in
    fault-more c.args.depth c.args.tokens.now l.tokens c.pass_items.new.self l.invariant.0 l.invariant.1 c.args.most c.args.fault going.0 (rw (← going.1) c.in_ok-pass_items.ensures.value) full

pub returns-in_err-pass-clause-value : goal.returns-in_err-pass-clause-value
returns-in_err-pass-clause-value c =
    let l = c.items in
    let going : (after_end_array l.tokens ≡ None) × (c.next_item.new.self ≡ l.tokens) = grind arith in
    let none = Walked-malformed c.args.depth c.args.tokens.now l.tokens l.invariant.0 l.invariant.1 going.0 (rw (← going.1) c.in_err-pass.ensures.value) in
    grind (arith, none)

pub items-preserved : goal.items-preserved
items-preserved c =
    let l = c.items in
    let r = c.pass.new.self in
    let going : (after_end_array l.tokens ≡ None) × (c.next_item.new.self ≡ l.tokens) = grind arith in
    let d = left_some (value_at c.args.depth l.tokens) r (rw (← going.1) c.in_ok-pass.ensures.value) in (
      l.invariant.0 ++ d.0 ∷ [],
      Walked-next c.args.depth c.args.tokens.now l.tokens r l.invariant.0 d.0 l.invariant.1 going.0 d.1,
      omega (arith, length-append l.invariant.0 (d.0 ∷ []), l.invariant.2),
      grind (arith, l.invariant.3, c.if-count-most.false),
      grind (arith, l.invariant.4, going.1, c.in_ok-pass.ensures.shorter),
    )

pub returns-clause-value : goal.returns-clause-value
returns-clause-value c =
    let l = c.items in
    let over : after_end_array l.tokens ≡ Some c.next_item.new.self = grind arith in
    fault-few c.args.depth c.args.tokens.now l.tokens c.next_item.new.self l.invariant.0 l.invariant.1 c.args.most c.args.fault over (omega (arith, l.invariant.2, l.invariant.3))
