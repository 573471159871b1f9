-- What clap's contracts ask of the command line.
use Rattle.std.proofs.Common.{◌≡◌, ℕ, true, List, Result, refl, ap, subst, ◌∙◌}
use Rattle.clap.specs.Faults.{fault_of, is_simple_and_free}
use Rattle.clap.specs.Kinds.{FailsBy}
use Rattle.clap.specs.Simple.{App, HasMatchesOf, is_simple, subcommand_of, subcommand_rows_of}
use Rattle.clap.specs.declared.error.Error.{Error}
use Rattle.clap.specs.declared.parser.matches.ArgMatches.{ArgMatches}
use Rattle.restool.specs.Request.{command_line}

pub command_line_is_simple : is_simple command_line ≡ true
unfolding command_line
command_line_is_simple = refl

pub command_line_is_free : is_simple_and_free command_line ≡ true
unfolding command_line
command_line_is_free = refl

pub command_line_needs_command : command_line.top.subcommand_required ≡ true
unfolding command_line
command_line_needs_command = refl

-- so these contracts hold of a parse by it

pub fails_by_kinds : (app : App) (words : List (List ℕ)) (result : Result ArgMatches Error) → app ≡ command_line
    → (is_simple_and_free app ≡ true → FailsBy (fault_of app words) result) → FailsBy (fault_of command_line words) result
fails_by_kinds app words result is_ours kinds =
    subst (λ (a : App). FailsBy (fault_of a words) result) is_ours (kinds (ap is_simple_and_free is_ours ∙ command_line_is_free))

pub has_subcommand_of : (app : App) (words : List (List ℕ)) (matches : ArgMatches) → app ≡ command_line
    → HasMatchesOf app words matches → subcommand_rows_of matches ≡ subcommand_of command_line words
has_subcommand_of app words matches is_ours has =
    (has (ap is_simple is_ours ∙ command_line_is_simple)).1 ∙ ap (λ (a : App). subcommand_of a words) is_ours
