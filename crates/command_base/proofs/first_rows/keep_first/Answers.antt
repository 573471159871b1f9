use Rattle.std.proofs.Common.{rules, sym, ap, ◌∙◌}
use Rattle.std.specs.Map.{keys_of}
use Rattle.command_base.proofs.FirstRowSteps.{keys-insert_entry, keys-there}
use Rattle.command_base.proofs.first_rows.keep_first.Goals as goal

pub returns-in_ok-insert : goal.returns-in_ok-insert
returns-in_ok-insert c = (
  ap keys_of c.in_ok-insert.ensures.entries ∙ keys-insert_entry c.args.rows.now.entries c.args.row.id.0 c.args.row,
  search rules,
  search rules,
)

pub returns-else-not-contains_key : goal.returns-else-not-contains_key
returns-else-not-contains_key c = (
  keys-there c.args.rows.now c.args.row.id.0 c.requires (sym c.contains_key.ensures ∙ c.if-not-contains_key.false),
  search rules,
  c.requires,
)
