use Rattle.std.proofs.Common.{ℕ, ◌≡◌, List, ap, ◌∙◌}
use Rattle.overlay_map.specs.declared.heads.EntryHeads.{EntryHeads}
use Rattle.overlay_map.specs.declared.heads.TypeHeads.{TypeHeads}
use Rattle.overlay_map.specs.Heads.{head_of_entry, head_of_type}
use Rattle.overlay_map.proofs.HeadSteps.{number_at, number_at-push}
use Rattle.overlay_map.proofs.heads.Heads.make_package.Goals as goal

pub loop-alloc-preserved : goal.loop-alloc-preserved
loop-alloc-preserved c package_id type_id entry =
    let head : TypeHeads → ℕ = λ found. head_of_type found type_id entry in
    let none : head (record { by_type = c.new-by_type.result }) ≡ 0 = ap (λ (types : List EntryHeads). number_at (λ found. head_of_entry found entry) types type_id) c.new-by_type.ensures.items in
    ap (λ (packages : List TypeHeads). number_at head packages package_id) c.in_ok-push.ensures.items
    ∙ number_at-push head c.loop-alloc.self.by_package.items (record { by_type = c.new-by_type.result }) package_id none
    ∙ c.loop-alloc.invariant package_id type_id entry
