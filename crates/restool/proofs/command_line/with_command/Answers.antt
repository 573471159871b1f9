use Rattle.std.proofs.Common.{◌||◌, ◌∙◌, Bool, ap}
use Rattle.std.proofs.lemmas.Result.{IfOk-weaker}
use Rattle.clap.specs.Simple.{App, app_of, app_of_fields, with_subcommand}
use Rattle.clap.specs.declared.builder.command.Command.TheViews.{out-Command}
use Rattle.restool.specs.ArgumentsSeen.{with_arguments}
use Rattle.restool.proofs.command_line.with_command.Goals as goal

pub returns : goal.returns
returns c =
    let named = ap app_of_fields c.about-command.ensures ∙ c.new.ensures.app in
    let built = c.in_ok-with_arguments.ensures in
    let command = c.in_ok-with_arguments.field-0 in
    IfOk-weaker c.subcommand.result _ _
    (λ whole added. (
      added.shape built.1
          ∙ ap (λ (app : App). with_subcommand (app_of c.args.program) app.top) (built.0 ∙ ap (λ (app : App). with_arguments app c.args.usage.now.arguments.now) named),
      added.globals ∙ ap (λ (before : Bool). before || (out-Command command).has_globals) c.requires ∙ built.1,
    ))
    c.subcommand.ensures
