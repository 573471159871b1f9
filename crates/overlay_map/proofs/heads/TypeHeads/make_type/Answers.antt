use Rattle.std.proofs.Common.{ℕ, ◌≡◌, List, ap, ◌∙◌}
use Rattle.overlay_map.specs.declared.heads.EntryHeads.{EntryHeads}
use Rattle.overlay_map.specs.Heads.{head_of_entry}
use Rattle.overlay_map.proofs.HeadSteps.{number_at, number_at-push}
use Rattle.overlay_map.proofs.heads.TypeHeads.make_type.Goals as goal

pub loop-alloc-preserved : goal.loop-alloc-preserved
loop-alloc-preserved c type_id entry =
    let head : EntryHeads → ℕ = λ found. head_of_entry found entry in
    let none : head (record { heads = c.new-heads.result }) ≡ 0 = ap (λ (heads : List ℕ). number_at (λ n. n) heads entry) c.new-heads.ensures.items in
    ap (λ (types : List EntryHeads). number_at head types type_id) c.in_ok-push.ensures.items
    ∙ number_at-push head c.loop-alloc.self.by_type.items (record { heads = c.new-heads.result }) type_id none
    ∙ c.loop-alloc.invariant type_id entry
