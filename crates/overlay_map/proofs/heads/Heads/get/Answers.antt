use Rattle.std.proofs.Common.{ℕ, List, sym, ap, ◌∙◌}
use Rattle.overlay_map.specs.declared.heads.TypeHeads.{TypeHeads}
use Rattle.type_chunks.specs.res_value.ResId.{package_of, type_of, entry_of}
use Rattle.overlay_map.specs.Heads.{head_of_type}
use Rattle.overlay_map.proofs.HeadSteps.{number_at, number_at-read, number_at-past}
use Rattle.overlay_map.proofs.heads.Heads.get.Goals as goal

pub returns-in-Some : goal.returns-in-Some
returns-in-Some c =
    let head : TypeHeads → ℕ = λ found. head_of_type found (type_of c.args.id) (entry_of c.args.id) in
    let lookup = c.in-Some.ensures.lookup in
    c.get-in-Some.ensures
    ∙ ap (λ (n : ℕ). head_of_type c.in-Some.of.now n c.entry.result) c.type_id.ensures
    ∙ ap (head_of_type c.in-Some.of.now (type_of c.args.id)) c.entry.ensures
    ∙ sym (number_at-read head c.deref.result.now c.from.result c.in-Some.of.now lookup.3.0 lookup.1)
    ∙ ap (number_at head c.deref.result.now) (c.from.ensures ∙ c.package.ensures)
    ∙ ap (λ (packages : List TypeHeads). number_at head packages (package_of c.args.id)) c.deref.ensures.value

pub returns-in-None : goal.returns-in-None
returns-in-None c =
    let head : TypeHeads → ℕ = λ found. head_of_type found (type_of c.args.id) (entry_of c.args.id) in
    sym (number_at-past head c.deref.result.now c.from.result c.in-None.ensures.lookup.3)
    ∙ ap (number_at head c.deref.result.now) (c.from.ensures ∙ c.package.ensures)
    ∙ ap (λ (packages : List TypeHeads). number_at head packages (package_of c.args.id)) c.deref.ensures.value
