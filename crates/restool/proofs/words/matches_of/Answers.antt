use Rattle.std.proofs.Common.{ap, map, string_bytes, ◌∙◌}
use Rattle.std.proofs.lemmas.Result.{IfOk-weaker}
use Rattle.clap.specs.Simple.{App, app_of}
use Rattle.clap.proofs.CallerLemmas.{subcommand_required}
use Rattle.restool.proofs.CommandLineFacts.{command_line_needs_command, fails_by_kinds, has_subcommand_of}
use Rattle.restool.proofs.NamedCommand.{met_is_named}
use Rattle.restool.proofs.words.matches_of.Goals as goal

pub returns-clause-kinds : goal.returns-clause-kinds
returns-clause-kinds c =
    fails_by_kinds (app_of c.in_ok-program.program) (map string_bytes c.args.words.now) c.try_get_matches_from.result
    c.in_ok-program.ensures.0 c.try_get_matches_from.ensures.kinds

pub returns-clause-command : goal.returns-clause-command
returns-clause-command c =
    IfOk-weaker c.try_get_matches_from.result _ _
    (λ m has. has_subcommand_of (app_of c.in_ok-program.program) (map string_bytes c.args.words.now) m c.in_ok-program.ensures.0 has)
    c.try_get_matches_from.ensures.matches

pub returns-clause-required : goal.returns-clause-required
returns-clause-required c =
    IfOk-weaker c.try_get_matches_from.result _ _
    (λ m parsed. subcommand_required c.in_ok-program.program m parsed c.in_ok-program.ensures.1
    (ap (λ (a : App). a.top.subcommand_required) c.in_ok-program.ensures.0 ∙ command_line_needs_command))
    c.try_get_matches_from.ensures.parsed

pub returns-clause-named : goal.returns-clause-named
returns-clause-named c =
    met_is_named (map string_bytes c.args.words.now) c.try_get_matches_from.result (returns-clause-kinds c) (returns-clause-command c)
