use Rattle.std.proofs.Common.{◌≡◌, ◌+◌, ◌-◌, ◌≤◌, List, [], ◌∷◌, map, length, None, Some, Ok, Err, sym, ap, subst, arith, length-append}
use Rattle.std.proofs.lemmas.List.{length-map, map-append}
use Rattle.std.proofs.lemmas.Result.{err_from_is_err_and}
use Rattle.json.specs.Json.{parse_map, after_end_array}
use Rattle.serde_json.specs.Data.{Data}
use Rattle.json_input.specs.Each.{list_of}
use Rattle.json_tokens.specs.Standing.{value_at, items_at}
use Rattle.cert_tree.specs.declared.cert_fault.CertFault.TheVariants.{Shape}
use Rattle.cert_tree.specs.declared.node.Node.{Node}
use Rattle.cert_tree.specs.Certificate.{NodeOf, node_of, most_nodes}
use Rattle.cert_tree.specs.CertJson.{node_in, node_after}
use Rattle.cert_tree.proofs.NodesWalked.{ReadOnWalked, ReadOnWalked-none, ReadOnWalked-next, node-after, nodes-no_list, nodes-end, nodes-wrong, nodes-full, nodes-malformed, nodes-not_passed}
use Rattle.cert_tree.proofs.node_list.read_nodes.Goals as goal

pub returns-then-not-branch-clause-value : goal.returns-then-not-branch-clause-value
returns-then-not-branch-clause-value c =
    let r = c.enter_list.new.self in
    let other : parse_map list_of (value_at c.args.depth c.args.tokens.now) ≡ Some (None, r) = grind arith in
    nodes-no_list c.args.rule c.args.goal c.args.nodes_before c.args.depth c.args.tokens.now r other

pub items-init : goal.items-init
items-init c =
    let start = c.enter_list.new.self in
    let none = ap (λ (nodes : List Node). length nodes) c.new-nodes.ensures.items in
    record {
      read = subst (λ (nodes : List Node). ReadOnWalked (node_after c.args.rule c.args.goal) (c.args.depth - 1) start (map node_of nodes) start) (sym c.new-nodes.ensures.items)
          (ReadOnWalked-none (node_after c.args.rule c.args.goal) (c.args.depth - 1) start);
      few = omega (arith, none);
      shorter = omega arith;
    }

pub returns-then-len-room-clause-value : goal.returns-then-len-room-clause-value
returns-then-len-room-clause-value c =
    let l = c.items in
    let inner = c.args.depth - 1 in
    let start = c.enter_list.new.self in
    let entered : parse_map list_of (value_at c.args.depth c.args.tokens.now) ≡ parse_map {A = List Data} Some (items_at inner start) = grind arith in
    let going : (after_end_array l.tokens ≡ None) × (c.next_item.new.self ≡ l.tokens) = grind arith in
    let full : most_nodes ≤ c.args.nodes_before + length (map node_of l.nodes.items) = omega (arith, length-map l.nodes.items node_of, c.requires, c.if-len-room.true, c.len.ensures) in
    nodes-full c.args.rule c.args.goal c.args.nodes_before c.args.depth inner c.args.tokens.now start entered l.tokens (map node_of l.nodes.items) l.invariant.read c.pass_items.new.self going.0
    (rw (← going.1) c.in_ok-pass_items.ensures.value) full

pub returns-in_err-node-clause-value : goal.returns-in_err-node-clause-value
returns-in_err-node-clause-value c =
    let l = c.items in
    let inner = c.args.depth - 1 in
    let start = c.enter_list.new.self in
    let p = err_from_is_err_and c.from_residual-in_err-node.result c.from_residual-in_err-node.ensures.1 in
    let entered : parse_map list_of (value_at c.args.depth c.args.tokens.now) ≡ parse_map {A = List Data} Some (items_at inner start) = grind arith in
    let going : (after_end_array l.tokens ≡ None) × (c.next_item.new.self ≡ l.tokens) = grind arith in
    rw (p.1, p.2)
    (λ other. (
      (c.in_err-node.ensures.value other).0,
      nodes-malformed c.args.rule c.args.goal c.args.nodes_before c.args.depth inner c.args.tokens.now start entered l.tokens (map node_of l.nodes.items) l.invariant.read going.0
          (rw (← going.1) (c.in_err-node.ensures.value other).1),
    ))

pub items-preserved : goal.items-preserved
items-preserved c =
    let l = c.items in
    let inner = c.args.depth - 1 in
    let start = c.enter_list.new.self in
    let r = c.read_node.new.tokens in
    let node = c.in-Ok.node in
    let place = c.len-in-items.result in
    let f = node_after c.args.rule c.args.goal in
    let going : (after_end_array l.tokens ≡ None) × (c.next_item.new.self ≡ l.tokens) = grind arith in
    let read : parse_map (node_in c.args.rule (Shape c.args.goal place)) (value_at inner l.tokens) ≡ Some (Ok (node_of node), r) = rw (← going.1) (rw c.in-Ok.is at c.in_ok-node.ensures.value) in
    let next =
    ReadOnWalked-next f inner start l.tokens r (map node_of l.nodes.items) (node_of node) l.invariant.read going.0
    (node-after c.args.rule c.args.goal place l.nodes.items (value_at inner l.tokens) (Ok (node_of node)) r (omega (arith, c.len-in-items.ensures)) read) in
    let more = ap (λ (nodes : List Node). length nodes) c.in_ok-push-in-Ok.ensures.items in
    record {
      read = subst (λ (nodes : List Node). ReadOnWalked f inner start (map node_of nodes) r) (sym c.in_ok-push-in-Ok.ensures.items)
          (subst (λ (nodes : List NodeOf). ReadOnWalked f inner start nodes r) (sym (map-append node_of l.nodes.items (node ∷ []))) next);
      few = omega (arith, more, length-append l.nodes.items (node ∷ []), l.invariant.few, c.if-len-room.false, c.len.ensures);
      shorter = grind (arith, l.invariant.shorter, going.1, c.in_ok-node.ensures.shorter);
    }

pub returns-in_err-first-in-Err-clause-value : goal.returns-in_err-first-in-Err-clause-value
returns-in_err-first-in-Err-clause-value c =
    let l = c.items in
    let inner = c.args.depth - 1 in
    let start = c.enter_list.new.self in
    let s = c.read_node.new.tokens in
    let fault = c.in-Err.fault in
    let place = c.len-in-items.result in
    let entered : parse_map list_of (value_at c.args.depth c.args.tokens.now) ≡ parse_map {A = List Data} Some (items_at inner start) = grind arith in
    let going : (after_end_array l.tokens ≡ None) × (c.next_item.new.self ≡ l.tokens) = grind arith in
    let read : parse_map (node_in c.args.rule (Shape c.args.goal place)) (value_at inner l.tokens) ≡ Some (Err fault, s) = rw (← going.1) (rw c.in-Err.is at c.in_ok-node.ensures.value) in
    let none =
    nodes-not_passed c.args.rule c.args.goal c.args.nodes_before c.args.depth inner c.args.tokens.now start entered l.tokens (map node_of l.nodes.items) l.invariant.read s (Err fault) going.0
    (node-after c.args.rule c.args.goal place l.nodes.items (value_at inner l.tokens) (Err fault) s (omega (arith, c.len-in-items.ensures)) read)
    c.in_err-first-in-Err.ensures.value in
    grind (arith, none)

pub returns-in-Err-clause-value : goal.returns-in-Err-clause-value
returns-in-Err-clause-value c =
    let l = c.items in
    let inner = c.args.depth - 1 in
    let start = c.enter_list.new.self in
    let s = c.read_node.new.tokens in
    let r = c.first_fault.new.tokens in
    let fault = c.in-Err.fault in
    let place = c.len-in-items.result in
    let entered : parse_map list_of (value_at c.args.depth c.args.tokens.now) ≡ parse_map {A = List Data} Some (items_at inner start) = grind arith in
    let going : (after_end_array l.tokens ≡ None) × (c.next_item.new.self ≡ l.tokens) = grind arith in
    let read : parse_map (node_in c.args.rule (Shape c.args.goal place)) (value_at inner l.tokens) ≡ Some (Err fault, s) = rw (← going.1) (rw c.in-Err.is at c.in_ok-node.ensures.value) in
    nodes-wrong c.args.rule c.args.goal c.args.nodes_before c.args.depth inner c.args.tokens.now start entered l.tokens (map node_of l.nodes.items) l.invariant.read _ s r fault c.in_ok-first-in-Err.first going.0
    (node-after c.args.rule c.args.goal place l.nodes.items (value_at inner l.tokens) (Err fault) s (omega (arith, c.len-in-items.ensures)) read)
    c.in_ok-first-in-Err.ensures.value
    (omega (arith, length-map l.nodes.items node_of, c.requires, l.invariant.few, c.if-len-room.false, c.len.ensures, c.len-in-Err.ensures))

pub returns-clause-value : goal.returns-clause-value
returns-clause-value c =
    let l = c.items in
    let inner = c.args.depth - 1 in
    let start = c.enter_list.new.self in
    let entered : parse_map list_of (value_at c.args.depth c.args.tokens.now) ≡ parse_map {A = List Data} Some (items_at inner start) = grind arith in
    let over : after_end_array l.tokens ≡ Some c.next_item.new.self = grind arith in
    nodes-end c.args.rule c.args.goal c.args.nodes_before c.args.depth inner c.args.tokens.now start entered l.tokens (map node_of l.nodes.items) l.invariant.read c.next_item.new.self over
    (omega (arith, length-map l.nodes.items node_of, c.requires, l.invariant.few))
