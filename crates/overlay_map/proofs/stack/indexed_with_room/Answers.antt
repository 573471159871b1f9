use Rattle.std.proofs.Common.{rules, refl, arith}
use Rattle.overlay_map.proofs.stack.indexed_with_room.Goals as goal

pub returns-then-len-eq-MOST_LAYERS-clause-refused : goal.returns-then-len-eq-MOST_LAYERS-clause-refused
returns-then-len-eq-MOST_LAYERS-clause-refused c = record { refused = (omega (arith, c.args.layers.now.ok.0), refl); back = refl }

pub returns-then-is_err-clause-refused : goal.returns-then-is_err-clause-refused
returns-then-is_err-clause-refused c = record { refused = (omega (arith, c.args.layers.now.ok.0), c.reserve.ensures.items); back = refl }

pub returns-in-Err-clause-refused : goal.returns-in-Err-clause-refused
returns-in-Err-clause-refused c = record { refused = (omega (arith, c.args.layers.now.ok.0), c.reserve.ensures.items); back = c.in-Err.ensures.back }

pub returns-in-Ok-clause-given : goal.returns-in-Ok-clause-given
returns-in-Ok-clause-given c = record {
  room = search rules;
  below = omega (arith, c.args.layers.now.ok.0);
  same = c.in-Ok.ensures.made;
  few_rows = c.in-Ok.ensures.few;
}
