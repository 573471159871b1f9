use Rattle.std.proofs.Common.{Result, Ok, sym, ap, ◌∙◌, arith}
use Rattle.std.proofs.lemmas.Result.{err_from_is_err_and}
use Rattle.res_value.specs.declared.res_id.ResId.{ResId}
use Rattle.names.specs.Named.{named_of}
use Rattle.names.specs.NameFault.{NameFaultOf}
use Rattle.names.proofs.WordSteps.{alone-found, alone-missing}
use Rattle.names.proofs.named_ids.id_named.Goals as goal

pub index-requires : goal.index-requires
index-requires c =
    let some = (alone-found c.args.stack.now (named_of c.args.named) c.in_ok-ids.ids.items c.in_ok-ids.ensures).0 in
    omega (arith, some, c.in_ok-ids.ids.ok.0)

pub returns-in_err-ids : goal.returns-in_err-ids
returns-in_err-ids c =
    let p = err_from_is_err_and c.from_residual.result c.from_residual.ensures.1 in
    rw (p.1, p.2) (λ other. alone-missing c.args.stack.now (named_of c.args.named) _ (c.in_err-ids.ensures other))

pub returns : goal.returns
returns c =
    let found = (alone-found c.args.stack.now (named_of c.args.named) c.in_ok-ids.ids.items c.in_ok-ids.ensures).1 in
    let wrapped : ResId → Result ResId NameFaultOf = λ id. Ok id in
    found c.index.result.now ∙ ap wrapped (sym c.index.ensures)
