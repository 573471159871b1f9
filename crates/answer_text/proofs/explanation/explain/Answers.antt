use Rattle.std.proofs.Common.{subst}
use Rattle.std.proofs.KnownBytes.{Appends-trans}
use Rattle.std.specs.Io.KnownBytes.{Appends}
use Rattle.bags_themes.specs.reference_resolver.declared.end.End.{End}
use Rattle.answer_text.specs.EndText.{named_end_line}
use Rattle.answer_text.specs.ExplainText.{explain_text}
use Rattle.answer_text.proofs.Cited.{is_traced}
use Rattle.answer_text.proofs.explanation.explain.Goals as goal

pub returns-clause-text : goal.returns-clause-text
unfolding explain_text
returns-clause-text g c =
    let contents = g.W.Write.contents in
    Appends-trans _ _ _ _ _ c.in_ok-write_look_ups.ensures
    (subst (λ (end : End). Appends (contents c.write_look_ups.new.out) (contents c.write_named_end_line.new.out) (named_end_line c.args.names.now.stack end c.args.names.now.asked)) (rw c.stack.ensures at c.resolve-end.ensures.value) c.in_ok-write_named_end_line.ensures)

pub returns-in_err-write_look_ups-clause-trace : goal.returns-in_err-write_look_ups-clause-trace
returns-in_err-write_look_ups-clause-trace g c = is_traced _ _ _ _

pub returns-in_err-write_named_end_line-clause-trace : goal.returns-in_err-write_named_end_line-clause-trace
returns-in_err-write_named_end_line-clause-trace g c = is_traced _ _ _ _

pub returns-clause-trace : goal.returns-clause-trace
returns-clause-trace g c = is_traced _ _ _ _

pub returns-clause-end : goal.returns-clause-end
returns-clause-end g c = rw c.stack.ensures at c.resolve-end.ensures.value
