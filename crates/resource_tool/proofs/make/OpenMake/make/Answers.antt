use Rattle.std.proofs.Common.{◌∙◌, ap, map, None, Ok, refl}
use Rattle.std.proofs.lemmas.Result.{err_from_is_err_and}
use Rattle.resource_tool.specs.res_value.Goal.{goal_seen}
use Rattle.command_base.specs.answer_text.NameText.{NamesBesideOf}
use Rattle.resource_tool.specs.MakeOutput.{IsMakeOutputAbout, IsMakeAnswer}
use Rattle.resource_tool.specs.OpenedSeen.{opened_box}
use Rattle.resource_tool.proofs.MakeSteps.{told-beside}
use Rattle.resource_tool.proofs.ToldAnswers.{nothing-told}
use Rattle.resource_tool.proofs.make.OpenMake.make.Goals as goal

pub returns-in_err-names-clause-told : goal.returns-in_err-names-clause-told
returns-in_err-names-clause-told g c =
    let p = err_from_is_err_and c.from_residual.result c.from_residual.ensures.1 in (c.args.errors.now, λ plain. refl, rw (p.1, p.2) (refl, refl))

pub returns-in_err-answered-clause-told : goal.returns-in_err-answered-clause-told
returns-in_err-answered-clause-told g c =
    let asked = map goal_seen c.args.self.now.goals.items in
    let p = err_from_is_err_and c.from_residual-in_err-answered.result c.from_residual-in_err-answered.ensures.1 in
    rw (p.1, p.2) (
      c.make_shown.new.errors,
      c.make_shown.ensures.quiet,
      nothing-told (IsMakeOutputAbout asked c.args.max_nodes None) (IsMakeAnswer asked c.args.max_nodes c.args.names) g.W.Write.contents g.E.Write.contents c.args.out.now c.make_shown.new.out
          c.make_shown.new.errors _ (Ok (opened_box c.args.self.now.opened)) c.in_err-answered.ensures.about,
    )

pub returns-in_err-write_goal_told-clause-told : goal.returns-in_err-write_goal_told-clause-told
returns-in_err-write_goal_told-clause-told g c =
    let p = err_from_is_err_and c.from_residual-in_err-write_goal_told.result c.from_residual-in_err-write_goal_told.ensures.1 in
    (c.make_shown.new.errors, c.make_shown.ensures.quiet, rw (p.1, p.2) refl)

pub returns-in_err-write_goal_told-clause-quiet : goal.returns-in_err-write_goal_told-clause-quiet
returns-in_err-write_goal_told-clause-quiet g c = λ still unnamed.
    c.write_goal_told.ensures.quiet (ap (λ (names : NamesBesideOf). names.asked) c.in_ok-names.ensures ∙ unnamed) ∙ c.make_shown.ensures.quiet still

pub returns-clause-quiet : goal.returns-clause-quiet
returns-clause-quiet g c = λ still unnamed.
    c.write_goal_told.ensures.quiet (ap (λ (names : NamesBesideOf). names.asked) c.in_ok-names.ensures ∙ unnamed) ∙ c.make_shown.ensures.quiet still

pub returns-clause-told : goal.returns-clause-told
returns-clause-told g c = (
  c.make_shown.new.errors,
  c.make_shown.ensures.quiet,
  told-beside g.W.Write.contents g.E.Write.contents c.args.out.now c.make_shown.new.out c.make_shown.new.errors c.write_goal_told.new.out
      _ c.args.max_nodes c.args.names _ _ _ c.in_ok-answered.ensures.about (rw (c.in_ok-names.ensures, c.deref.ensures.value) at c.in_ok-write_goal_told.ensures.text),
)
