use Rattle.std.proofs.Common.{ℕ, ◌≤◌, List, length, refl, ap, ◌∙◌, arith}
use Rattle.overlay_map.proofs.HeadSteps.{number_at, number_at-longer}
use Rattle.overlay_map.proofs.heads.EntryHeads.make_room.Goals as goal

pub returns-in_ok-resize : goal.returns-in_ok-resize
returns-in_ok-resize c entry =
    let itself : ℕ → ℕ = λ n. n in
    let kept : List ℕ = c.reserve_exact.new.self.items in
    let count = ap (λ (l : List ℕ). length l) c.in_ok-reserve_exact.ensures.items in
    let few : length kept ≤ c.args.entries = omega (arith, count, c.args.self.now.heads.ok.0) in
    number_at-longer itself kept c.resize.new.self.items c.args.entries _ 0 entry c.in_ok-resize.ensures.items few refl
    ∙ ap (λ (l : List ℕ). number_at itself l entry) c.in_ok-reserve_exact.ensures.items
