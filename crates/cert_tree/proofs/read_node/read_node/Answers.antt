use Rattle.std.proofs.Common.{◌≢◌, length, None, Err, refl, arith}
use Rattle.json_input.specs.Shape.{is_among}
use Rattle.json_tokens.specs.ShortList.{short_list_seen}
use Rattle.json_tokens.specs.Fields.{slots_seen}
use Rattle.std.specs.Option.{option_map}
use Rattle.cert_tree.specs.declared.cert_fault.CertFault.TheVariants.{OutOfMemory}
use Rattle.cert_tree.specs.NodeKinds.{node_kinds}
use Rattle.cert_tree.proofs.NodeKindsLemmas.{node-read, given}
use Rattle.cert_tree.proofs.read_node.read_node.Goals as goal

pub fields_and_list-requires-clause-other_name : goal.fields_and_list-requires-clause-other_name
unfolding is_among
fields_and_list-requires-clause-other_name c = refl

pub returns-in_default-clause-value : goal.returns-in_default-clause-value
returns-in_default-clause-value c =
    node-read c.args.rule c.args.shape c.args.depth (length c.args.kinds.now) c.args.tokens.now c.fields_and_list.new.self None (Err c.args.shape) c.requires (rw c.in_default.is at c.in_ok-list.ensures.value) refl

pub returns-clause-value : goal.returns-clause-value
returns-clause-value c =
    let node = c.node_of_members-node.result in
    let list = option_map (short_list_seen c.fields_and_list.new.kinds) c.in-Only.list in
    let other : node ≢ Err OutOfMemory = grind arith in
    let meant = given node (node_kinds c.args.rule c.args.shape (slots_seen c.fields_and_list.new.slots) list) c.node_of_members-node.ensures other in
    node-read c.args.rule c.args.shape c.args.depth (length c.args.kinds.now) c.args.tokens.now c.fields_and_list.new.self _ _ c.requires (rw c.in-Only.is at c.in_ok-list.ensures.value) meant
