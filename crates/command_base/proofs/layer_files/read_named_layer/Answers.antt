use Rattle.std.proofs.Common.{ℕ, List, [], Result, length, map, ap, sym, ◌∙◌}
use Rattle.std.proofs.lemmas.List.{length-map}
use Rattle.std.proofs.lemmas.Option.{IfSome_then}
use Rattle.std.proofs.lemmas.Result.{err_from_is_err_and}
use Rattle.command_base.specs.FilesSeen.{layer_held}
use Rattle.command_base.specs.ListWordSeen.{listed_of}
use Rattle.command_base.specs.MadeOver.{MadeOf, made_over}
use Rattle.command_base.specs.Stop.{tool}
use Rattle.command_base.specs.declared.fault.ToolFault.{ToolFault}
use Rattle.command_base.proofs.MadeOverSteps.{over-json, part_of}
use Rattle.command_base.proofs.ReadSteps.{of-named_base, of-named_map, of-named_table}
use Rattle.command_base.proofs.layer_files.read_named_layer.Goals as goal

abbrev json_of : Result MadeOf ToolFault → Result (List ℕ) ToolFault
json_of made = part_of (λ made. made.json) made

pub returns-in_err-table : goal.returns-in_err-table
returns-in_err-table g c =
    let before = c.args.before.now in
    let p = err_from_is_err_and c.from_residual-in_err-table.result c.from_residual-in_err-table.ensures.1 in
    rw (p.1, p.2)
    (IfSome_then (g.I.Inputs.places c.args.inputs.now) c.in_err-table.ensures
    (λ places is other. of-named_table places (map layer_held before) (listed_of c.args.layer) (length before) _ _ (sym (length-map before layer_held)) c.in_ok-path.ensures.ok (is other)))

pub returns-in_err-made-in-Some : goal.returns-in_err-made-in-Some
returns-in_err-made-in-Some g c =
    let before = c.args.before.now in
    let target = c.table_at_place-target.result.now in
    let made = made_over [] c.in-Some.base target (length before) in
    let p = err_from_is_err_and c.from_residual-in_err-made-in-Some.result c.from_residual-in_err-made-in-Some.ensures.1 in
    rw (p.1, p.2)
    (IfSome_then (g.I.Inputs.places c.args.inputs.now) c.in_ok-table.ensures
    (λ places table other.
    of-named_map places (map layer_held before) (listed_of c.args.layer) (length before) c.in-Some.base _ _ _ _ (sym (length-map before layer_held)) c.in_ok-path.ensures.ok table
    c.in-Some.is c.table_at_place-target.ensures
    (over-json [] c.in-Some.base target (length before) _
    ∙ ap json_of (ap made (sym c.table-in-Some.ensures) ∙ c.in_err-made-in-Some.ensures (λ want. other (ap (λ (fault : ToolFault). tool fault) want))))))

pub returns-in_ok-made-in-Some : goal.returns-in_ok-made-in-Some
returns-in_ok-made-in-Some g c =
    let before = c.args.before.now in
    let target = c.table_at_place-target.result.now in
    let made = made_over [] c.in-Some.base target (length before) in
    IfSome_then (g.I.Inputs.places c.args.inputs.now) c.in_ok-table.ensures
    (λ places table.
    of-named_map places (map layer_held before) (listed_of c.args.layer) (length before) c.in-Some.base _ _ _ _ (sym (length-map before layer_held)) c.in_ok-path.ensures.ok table
    c.in-Some.is c.table_at_place-target.ensures
    (over-json [] c.in-Some.base target (length before) _ ∙ ap json_of (ap made (sym c.table-in-Some.ensures) ∙ c.in_ok-made-in-Some.ensures)))

pub returns-in-None : goal.returns-in-None
returns-in-None g c =
    let before = c.args.before.now in
    IfSome_then (g.I.Inputs.places c.args.inputs.now) c.in_ok-table.ensures
    (λ places table. of-named_base places (map layer_held before) (listed_of c.args.layer) (length before) _ _ (sym (length-map before layer_held)) c.in_ok-path.ensures.ok table c.in-None.is)
