use Rattle.std.proofs.Common.{sym, subst}
use Rattle.std.proofs.lemmas.Option.{IfSome_then}
use Rattle.box_trace.specs.declared.parting.Parting.{Parting}
use Rattle.box_trace.specs.Parting.{IsToldApart}
use Rattle.box_trace.proofs.Told.{told_or_first}
use Rattle.box_trace.proofs.walk.Walk.weightiest_parting.Goals as goal

pub returns-clause-told : goal.returns-clause-told
returns-clause-told c = λ stack trace walked told.
    let members = c.args.members.now in
    let found = IfSome_then c.parting_of-parting.result c.parting_of-parting.ensures (λ parting ahead. ahead stack trace (record { ahead = walked.ahead; come = walked.come; left_out = walked.left_out })) in
    subst (λ (parting : Parting). IsToldApart parting members trace) (sym c.unwrap_or.ensures) (told_or_first members trace c.parting_of-parting.result c.args.first found told)
