use Rattle.std.proofs.Common.{ℕ, ◌<◌, length, ◌∙◌, arith}
use Rattle.std.proofs.lemmas.Result.{on_ok_weaker}
use Rattle.overlay_map.specs.declared.heads.TypeHeads.{TypeHeads}
use Rattle.type_chunks.specs.res_value.ResId.{package_of, type_of, entry_of}
use Rattle.overlay_map.specs.Heads.{head_of_type}
use Rattle.overlay_map.proofs.HeadSteps.{number_at-kept}
use Rattle.overlay_map.proofs.heads.Heads.make_room.Goals as goal

pub returns : goal.returns
returns c = on_ok_weaker c.make_room.result (λ same id.
    let p = package_of (record { 0 = id }) in
    let t = type_of (record { 0 = id }) in
    let e = entry_of (record { 0 = id }) in
    let head : TypeHeads → ℕ = λ found. head_of_type found t e in
    let within : c.from.result < length c.make_package.new.self.by_package.items = omega (arith, c.in_ok-make_package.ensures.there, c.from.ensures) in
    number_at-kept head c.make_package.new.self.by_package.items c.from.result p c.index_mut.result.now c.make_room.new.self within c.index_mut.ensures.value (same t e) ∙ c.in_ok-make_package.ensures.same id) c.make_room.ensures
