use Rattle.std.proofs.Common.{ℕ, ◌≡◌, ◌<◌, ◌+◌, List, length, refl, ap, ◌∙◌, arith}
use Rattle.std.specs.Prelude.{◌==◌, if◌then◌else◌}
use Rattle.overlay_map.specs.declared.heads.EntryHeads.{EntryHeads}
use Rattle.overlay_map.proofs.HeadSteps.{number_at, number_at-longer, number_at-put}
use Rattle.overlay_map.proofs.heads.EntryHeads.set.Goals.{then-len-index+in_ok-resize, else-len-index}
use Rattle.overlay_map.proofs.heads.EntryHeads.set.Goals as goal

pub returns : goal.returns
returns c other =
    let itself : ℕ → ℕ = λ n. n in
    let old : List ℕ = c.args.self.now.heads.items in
    let made : List ℕ = c.if-len-index.self.heads.items in
    let index : ℕ = c.from-index.result in
    let within : index < length made = elim c.if-len-index.branch [
      | then-len-index+in_ok-resize w ↦ omega (arith, ap (λ (s : EntryHeads). length s.heads.items) w.self-is, w.in_ok-resize.ensures.len, w.resize.new.self.ok.0)
      | else-len-index w ↦ omega (arith, ap (λ (s : EntryHeads). length s.heads.items) w.self-is, w.if-len-index.false, c.len.ensures, c.args.self.now.heads.ok.0)
    ] in
    let same : number_at itself made other ≡ number_at itself old other = elim c.if-len-index.branch [
      | then-len-index+in_ok-resize w ↦ ap (λ (s : EntryHeads). number_at itself s.heads.items other) w.self-is
          ∙ number_at-longer itself old w.resize.new.self.items (index + 1) _ 0 other w.in_ok-resize.ensures.items (omega (arith, w.if-len-index.true, c.len.ensures, c.args.self.now.heads.ok.0)) refl
      | else-len-index w ↦ ap (λ (s : EntryHeads). number_at itself s.heads.items other) w.self-is
    ] in
    number_at-put itself made index other c.args.head within
    ∙ ap (λ (n : ℕ). if index == other then c.args.head else n) same
    ∙ ap (λ (n : ℕ). if n == other then c.args.head else number_at itself old other) c.from-index.ensures
