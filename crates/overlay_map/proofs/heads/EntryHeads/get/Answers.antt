use Rattle.std.proofs.Common.{ℕ, List, sym, ap, ◌∙◌}
use Rattle.overlay_map.proofs.HeadSteps.{number_at, number_at-read, number_at-past}
use Rattle.overlay_map.proofs.heads.EntryHeads.get.Goals as goal

pub returns-in-Some : goal.returns-in-Some
returns-in-Some c =
    let itself : ℕ → ℕ = λ n. n in
    let lookup = c.in-Some.ensures.lookup in
    sym (number_at-read itself c.deref.result.now c.from.result c.in-Some.head.now lookup.3.0 lookup.1)
    ∙ ap (number_at itself c.deref.result.now) c.from.ensures
    ∙ ap (λ (heads : List ℕ). number_at itself heads c.args.entry) c.deref.ensures.value

pub returns-in-None : goal.returns-in-None
returns-in-None c =
    let itself : ℕ → ℕ = λ n. n in
    sym (number_at-past itself c.deref.result.now c.from.result c.in-None.ensures.lookup.3)
    ∙ ap (number_at itself c.deref.result.now) c.from.ensures
    ∙ ap (λ (heads : List ℕ). number_at itself heads c.args.entry) c.deref.ensures.value
