use Rattle.std.proofs.Common.{Some, arith}
use Rattle.std.proofs.lemmas.Grind.{common_steps}
use Rattle.std.proofs.lemmas.Map.Text.{btree_map_updates_str}
use Rattle.std.specs.BTreeMap.Entry.{map_with_value}
use Rattle.names.proofs.places.Places.push.Goals as goal

pub returns : goal.returns
returns c = λ bytes.
    let after = btree_map_updates_str c.args.entry.now c.args.self.now.by_entry (map_with_value c.in_ok-self.field-0 c.push.new.self) (Some c.push.new.self) (c.in_ok-self.ensures.update.0 c.push.new.self) bytes in
    grind (arith, common_steps, after, c.in_ok-self.ensures.value, c.or_insert-places.ensures.value, c.in_ok-push.ensures.items, c.new.ensures.items)
