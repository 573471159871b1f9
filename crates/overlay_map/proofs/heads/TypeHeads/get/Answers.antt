use Rattle.std.proofs.Common.{ℕ, List, sym, ap, ◌∙◌}
use Rattle.overlay_map.specs.declared.heads.EntryHeads.{EntryHeads}
use Rattle.overlay_map.specs.Heads.{head_of_entry}
use Rattle.overlay_map.proofs.HeadSteps.{number_at, number_at-read, number_at-past}
use Rattle.overlay_map.proofs.heads.TypeHeads.get.Goals as goal

pub returns-in-Some : goal.returns-in-Some
returns-in-Some c =
    let head : EntryHeads → ℕ = λ found. head_of_entry found c.args.entry in
    let lookup = c.in-Some.ensures.lookup in
    c.get-in-Some.ensures
    ∙ sym (number_at-read head c.deref.result.now c.from.result c.in-Some.of.now lookup.3.0 lookup.1)
    ∙ ap (number_at head c.deref.result.now) c.from.ensures
    ∙ ap (λ (types : List EntryHeads). number_at head types c.args.type_id) c.deref.ensures.value

pub returns-in-None : goal.returns-in-None
returns-in-None c =
    let head : EntryHeads → ℕ = λ found. head_of_entry found c.args.entry in
    sym (number_at-past head c.deref.result.now c.from.result c.in-None.ensures.lookup.3)
    ∙ ap (number_at head c.deref.result.now) c.from.ensures
    ∙ ap (λ (types : List EntryHeads). number_at head types c.args.type_id) c.deref.ensures.value
