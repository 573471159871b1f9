use Rattle.std.proofs.Common.{OnOk, sym, subst}
use Rattle.std.specs.Io.KnownBytes.{Appends}
use Rattle.std.specs.Option.{option_map}
use Rattle.answer_text.specs.overlay_map.Candidates.{cand_of}
use Rattle.reference_resolver.specs.declared.end.End.{End}
use Rattle.resource_text.specs.EndNotation.{end_notation}
use Rattle.resource_text.proofs.ends.write_end.Goals as goal

pub returns-in-TooLong : goal.returns-in-TooLong
unfolding end_notation
returns-in-TooLong g c =
    let contents = g.W.Write.contents in
    let call = c.write_behind-in-TooLong in
    subst (λ (end : End). OnOk call.result (Appends (contents c.args.out.now) (contents call.new.out) (end_notation c.args.naming.now (option_map cand_of c.args.last.now) end))) (sym c.in-TooLong.is) call.ensures
