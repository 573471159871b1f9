use Rattle.std.proofs.Common.{ℕ, ◌<◌, length, ap, ◌∙◌, arith}
use Rattle.std.specs.Prelude.{◌==◌, ◌&&◌, if◌then◌else◌}
use Rattle.std.proofs.lemmas.Result.{on_ok_weaker}
use Rattle.overlay_map.specs.Heads.{head_of_entry}
use Rattle.overlay_map.proofs.HeadSteps.{number_at, number_at-changed}
use Rattle.overlay_map.proofs.heads.TypeHeads.set.Goals as goal

pub returns : goal.returns
returns c = on_ok_weaker c.set.result (λ sets other at.
    let made = c.make_type.new.self.by_type.items in
    let within : c.from.result < length made = omega (arith, c.in_ok-make_type.ensures.there, c.from.ensures) in
    let changed = number_at-changed (λ entry found. head_of_entry found entry) (λ entry. c.args.entry == entry) made c.from.result c.index_mut.result.now c.set.new.self c.args.head within c.index_mut.ensures.value sets other at in
    changed
    ∙ ap (λ (n : ℕ). if n == other && c.args.entry == at then c.args.head else number_at (λ found. head_of_entry found at) made other) c.from.ensures
    ∙ ap (λ (n : ℕ). if c.args.type_id == other && c.args.entry == at then c.args.head else n) (c.in_ok-make_type.ensures.same other at)) c.set.ensures
