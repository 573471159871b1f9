use Rattle.std.proofs.Common.{◌≡◌, ℕ, List, map, subst, sym, ap, ◌∙◌, arith}
use Rattle.std.proofs.lemmas.Grind.{common_steps}
use Rattle.std.proofs.lemmas.Result.{IfOk-weaker}
use Rattle.names.specs.declared.sought.Sought.{Sought}
use Rattle.names.specs.Sought.{entry_names, noted_in, ArePlacesOf}
use Rattle.names.proofs.SoughtSteps.{entry_names-unfound, found-all}
use Rattle.names.proofs.search.find_each.Goals as goal

pub look_in_each-requires : goal.look_in_each-requires
look_in_each-requires c =
    subst (λ (names : List (List ℕ)). ArePlacesOf c.in_ok-places.places names)
    (sym (ap (λ (s : List Sought). entry_names s) (c.deref_mut.ensures.value ∙ c.in_ok-sought.ensures) ∙ entry_names-unfound c.args.packages c.args.wanted.now)) c.in_ok-places.ensures

pub returns : goal.returns
returns c =
    let tables = map (λ table. table.now) c.args.tables.now in
    let whole : c.deref.result.now ≡ c.look_in_each.new.sought = grind (arith, common_steps, c.deref.ensures.value, c.look_in_each.auto.sought, c.deref_mut.ensures.value, c.deref_mut.ensures.len, c.in_ok-sought.sought.ok) in
    let sought = whole ∙ c.in_ok-look_in_each.ensures ∙ ap (λ (s : List Sought). map (noted_in tables) s) (c.deref_mut.ensures.value ∙ c.in_ok-sought.ensures) in
    IfOk-weaker c.found.result _ _ (λ found is. is ∙ ap (λ (s : List Sought). map (λ one. one.found) s) sought ∙ found-all c.args.packages tables c.args.wanted.now) c.found.ensures
