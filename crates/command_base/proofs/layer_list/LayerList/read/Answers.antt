use Rattle.std.proofs.Common.{◌≡◌, length, None, Some, Err, arith, ap, sym, ◌∙◌}
use Rattle.std.proofs.lemmas.List.{length-map}
use Rattle.std.proofs.lemmas.Result.{err_from_is_err_and}
use Rattle.command_base.specs.declared.layers_fault.LayersFault.TheVariants.{Shape}
use Rattle.command_base.specs.LayerListSeen.{paths_of, all_paths_of}
use Rattle.command_base.specs.LayerKinds.{kept_seen}
use Rattle.command_base.proofs.LayerSteps.{counted, layers-malformed, layers-followed, layers-mean, counted-by}
use Rattle.command_base.proofs.layer_list.LayerList.read.Goals as goal

pub returns-in_err-layers : goal.returns-in_err-layers
returns-in_err-layers c =
    let p = err_from_is_err_and c.from_residual-in_err-layers.result c.from_residual-in_err-layers.ensures.1 in
    rw (p.1, p.2) (λ other. let q = c.in_err-layers.ensures other in layers-malformed _ _ c.in_ok-tokens.ensures.1 q.1 ∙ ap (λ fault. Err fault) (sym q.0))

pub returns-in_err-end : goal.returns-in_err-end
returns-in_err-end c =
    let p = err_from_is_err_and c.from_residual-in_err-end.result c.from_residual-in_err-end.ensures.1 in
    rw (p.1, p.2) (λ _. layers-followed _ _ _ _ c.in_ok-tokens.ensures.1 c.in_ok-layers.ensures c.in_err-end.ensures)

pub returns-in_err-paths : goal.returns-in_err-paths
returns-in_err-paths c =
    let p = err_from_is_err_and c.from_residual-in_err-paths.result c.from_residual-in_err-paths.ensures.1 in
    let none : c.in_ok-layers.layers ≡ None = grind arith in
    let shape : c.in_err-paths.field-0.0 ≡ Shape = grind arith in
    rw (p.1, p.2, shape) (λ _. layers-mean _ _ _ _ c.in_ok-tokens.ensures.0 c.in_ok-tokens.ensures.1 c.in_ok-layers.ensures c.in_ok-end.ensures ∙ ap (λ layers. counted (kept_seen layers)) none)

pub returns-in_err-check_count : goal.returns-in_err-check_count
returns-in_err-check_count c =
    let p = err_from_is_err_and c.from_residual-in_err-check_count.result c.from_residual-in_err-check_count.ensures.1 in
    let some : c.in_ok-layers.layers ≡ Some c.in_ok-paths.paths = grind arith in
    let count : length (all_paths_of c.in_ok-paths.paths) ≡ c.len.result = grind (arith, c.len.ensures, length-map c.in_ok-paths.paths.items paths_of) in
    rw (p.1, p.2) (λ _. layers-mean _ _ _ _ c.in_ok-tokens.ensures.0 c.in_ok-tokens.ensures.1 c.in_ok-layers.ensures c.in_ok-end.ensures
    ∙ ap (λ layers. counted (kept_seen layers)) some ∙ counted-by _ _ _ count c.in_err-check_count.ensures)

pub returns : goal.returns
returns c =
    let some : c.in_ok-layers.layers ≡ Some c.in_ok-paths.paths = grind arith in
    let count : length (all_paths_of c.in_ok-paths.paths) ≡ c.len.result = grind (arith, c.len.ensures, length-map c.in_ok-paths.paths.items paths_of) in
    layers-mean _ _ _ _ c.in_ok-tokens.ensures.0 c.in_ok-tokens.ensures.1 c.in_ok-layers.ensures c.in_ok-end.ensures
    ∙ ap (λ layers. counted (kept_seen layers)) some ∙ counted-by _ _ _ count c.in_ok-check_count.ensures
