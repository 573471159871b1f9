use Rattle.std.proofs.Common.{◌≡◌, ◌∙◌, refl, ap, subst}
use Rattle.std.specs.Prelude.{fold}
use Rattle.clap.specs.Simple.{App, with_subcommand}
use Rattle.restool.specs.ArgumentsSeen.{Builds}
use Rattle.restool.specs.Request.{command_line, commands, program_alone}
use Rattle.restool.proofs.command_line.command_line.Goals as goal

-- a program with these commands too
unfoldable with_all : App → App
with_all app = fold with_subcommand app commands

whole : with_all program_alone ≡ command_line
unfolding with_all program_alone command_line
whole = refl

pub returns : goal.returns
unfolding with_all
returns c =
    subst (λ (app : App). Builds app c.with_commands.result) (ap with_all c.program_alone.ensures.0 ∙ whole) c.with_commands.ensures
