-- How contracts within this crate see the table of usages.
use Rattle.std.specs.Prelude.{◌≡◌, ℕ, false, List, map, fold, Result, IfOk}
use Rattle.clap.specs.Walk.{Rule}
use Rattle.clap.specs.Simple.{App, Shape, app_of, new_app, with_rule, with_subcommand}
use Rattle.clap.specs.declared.builder.command.Command.{Command}
use Rattle.clap.specs.declared.builder.command.Command.TheViews.{out-Command}
use Rattle.restool.specs.declared.command_line.Usage.{Usage}
use Rattle.restool.specs.declared.command_line.Argument.{Argument}
use Rattle.restool.specs.declared.command_line.Takes.TheVariants.{Word, Words, Nothing, OptionWord, Nodes, GoalNumber}
use Rattle.restool.specs.declared.command_line.Takes.{Takes}
use Rattle.restool.specs.CommandLine.{maybe_one_word, maybe_words, flag, option_word, nodes, goal_number}

abbrev pub rule_taking : Takes → List ℕ → Rule
rule_taking (Word is_required) name = record (maybe_one_word name) { required = is_required }
rule_taking (Words is_required) name = record (maybe_words name) { required = is_required }
rule_taking Nothing name = flag name
rule_taking OptionWord name = option_word name
rule_taking Nodes name = nodes name
rule_taking GoalNumber name = goal_number name

abbrev pub rule_seen : Argument → Rule
rule_seen argument = rule_taking argument.takes argument.name.now

-- a command with these arguments too
abbrev pub with_arguments : App → List Argument → App
with_arguments app arguments = fold with_rule app (map rule_seen arguments)

abbrev pub command_seen : Usage → Shape
command_seen usage = (with_arguments (new_app usage.name.now) usage.arguments.now).top

-- a program with these commands too
abbrev pub with_commands : App → List Usage → App
with_commands app usages = fold with_subcommand app (map command_seen usages)

-- no argument belongs to more commands than this one
abbrev pub IsLocal : Command → Type 0
IsLocal command = (out-Command command).has_globals ≡ false

-- a command is that of an app, and has no argument of more commands
abbrev pub IsBuilt : App → Command → Type 0
IsBuilt app command = (app_of command ≡ app) × IsLocal command

-- a call built it, or memory ran out
abbrev pub Builds : {E : Type 0} → App → Result Command E → Type 0
Builds app result = IfOk result (IsBuilt app)
