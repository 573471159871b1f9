use Rattle.std.proofs.Common.{ℕ, ◌<◌, length, ◌∙◌, arith}
use Rattle.overlay_map.specs.declared.heads.EntryHeads.{EntryHeads}
use Rattle.overlay_map.specs.Heads.{head_of_entry}
use Rattle.overlay_map.proofs.HeadSteps.{on-ok, number_at-kept}
use Rattle.overlay_map.proofs.heads.TypeHeads.make_room.Goals as goal

pub returns : goal.returns
returns c = on-ok c.make_room.result (λ other entry.
    let head : EntryHeads → ℕ = λ found. head_of_entry found entry in
    let within : c.from.result < length c.make_type.new.self.by_type.items = omega (arith, c.in_ok-make_type.ensures.there, c.from.ensures) in
    number_at-kept head c.make_type.new.self.by_type.items c.from.result other c.index_mut.result.now c.make_room.new.self within c.index_mut.ensures.value (c.make_room.ensures entry) ∙ c.in_ok-make_type.ensures.same other entry)
