use Rattle.std.proofs.Common.{◌≡◌, length, refl, sym, ◌∙◌, arith}
use Rattle.json_tokens.specs.ShortList.{short_list_seen}
use Rattle.cert_tree.proofs.NodeKindsLemmas.{node-tests, node-is}
use Rattle.cert_tree.proofs.read_node.node_of_members.Goals as goal

pub returns-then-hold : goal.returns-then-hold
returns-then-hold c =
    let count : length c.args.members ≡ 6 = grind arith in
    let tests =
    node-tests c.args.rule c.args.shape c.args.members (short_list_seen c.args.kinds.now) c.args.list _ _ _ _ _ _ _ count c.is_none.ensures c.is_none-2.ensures c.is_none-4.ensures c.is_none-5.ensures c.is_none-6.ensures c.is_none-3.ensures c.is_none-no_list.ensures in
    let t0 = sym c.hold.ensures ∙ c.if-hold.true in
    node-is c.at_most_of.result _ _ c.at_most_of.ensures (tests ∙ rw (t0) refl)

pub returns-then-hold-2 : goal.returns-then-hold-2
returns-then-hold-2 c =
    let count : length c.args.members ≡ 6 = grind arith in
    let tests =
    node-tests c.args.rule c.args.shape c.args.members (short_list_seen c.args.kinds.now) c.args.list _ _ _ _ _ _ _ count c.is_none.ensures c.is_none-2.ensures c.is_none-4.ensures c.is_none-5.ensures c.is_none-6.ensures c.is_none-3.ensures c.is_none-no_list.ensures in
    let t0 = sym c.hold.ensures ∙ c.if-hold.false in
    let t1 = sym c.hold-else-hold.ensures ∙ c.if-hold-2.true in
    rw (tests, t0, t1) c.among_of.ensures

pub returns-then-hold-3 : goal.returns-then-hold-3
returns-then-hold-3 c =
    let count : length c.args.members ≡ 6 = grind arith in
    let tests =
    node-tests c.args.rule c.args.shape c.args.members (short_list_seen c.args.kinds.now) c.args.list _ _ _ _ _ _ _ count c.is_none.ensures c.is_none-2.ensures c.is_none-4.ensures c.is_none-5.ensures c.is_none-6.ensures c.is_none-3.ensures c.is_none-no_list.ensures in
    let t0 = sym c.hold.ensures ∙ c.if-hold.false in
    let t1 = sym c.hold-else-hold.ensures ∙ c.if-hold-2.false in
    let t2 = sym c.hold-else-hold-2.ensures ∙ c.if-hold-3.true in
    node-is c.value_of.result _ _ c.value_of.ensures (tests ∙ rw (t0, t1, t2) refl)

pub returns-then-hold-4 : goal.returns-then-hold-4
returns-then-hold-4 c =
    let count : length c.args.members ≡ 6 = grind arith in
    let tests =
    node-tests c.args.rule c.args.shape c.args.members (short_list_seen c.args.kinds.now) c.args.list _ _ _ _ _ _ _ count c.is_none.ensures c.is_none-2.ensures c.is_none-4.ensures c.is_none-5.ensures c.is_none-6.ensures c.is_none-3.ensures c.is_none-no_list.ensures in
    let t0 = sym c.hold.ensures ∙ c.if-hold.false in
    let t1 = sym c.hold-else-hold.ensures ∙ c.if-hold-2.false in
    let t2 = sym c.hold-else-hold-2.ensures ∙ c.if-hold-3.false in
    let t3 = sym c.hold-else-hold-3.ensures ∙ c.if-hold-4.true in
    node-is c.bag_of.result _ _ c.bag_of.ensures (tests ∙ rw (t0, t1, t2, t3) refl)

pub returns-else-hold-4 : goal.returns-else-hold-4
returns-else-hold-4 c other =
    let count : length c.args.members ≡ 6 = grind arith in
    let tests =
    node-tests c.args.rule c.args.shape c.args.members (short_list_seen c.args.kinds.now) c.args.list _ _ _ _ _ _ _ count c.is_none.ensures c.is_none-2.ensures c.is_none-4.ensures c.is_none-5.ensures c.is_none-6.ensures c.is_none-3.ensures c.is_none-no_list.ensures in
    let t0 = sym c.hold.ensures ∙ c.if-hold.false in
    let t1 = sym c.hold-else-hold.ensures ∙ c.if-hold-2.false in
    let t2 = sym c.hold-else-hold-2.ensures ∙ c.if-hold-3.false in
    let t3 = sym c.hold-else-hold-3.ensures ∙ c.if-hold-4.false in
    tests ∙ rw (t0, t1, t2, t3) refl
