use Rattle.std.proofs.Common.{◌≡◌, drop}
use Rattle.clap.specs.Simple.{app_of}
use Rattle.restool.specs.ArgumentsSeen.{IsLocal, with_arguments}
use Rattle.restool.proofs.command_line.with_arguments.Given as goal

-- the command with the arguments that are left is the command with all
abbrev pub invariant-loop-argument : goal.invariant-loop-argument
invariant-loop-argument l = record {
  local : IsLocal l.command;
  whole : with_arguments (app_of l.command) (drop l.argument-index l.arguments) ≡ with_arguments (app_of l.initial.command) l.arguments;
}
