use Rattle.std.proofs.Common.{◌≡◌, drop}
use Rattle.clap.specs.Simple.{app_of}
use Rattle.restool.specs.ArgumentsSeen.{IsLocal, with_commands}
use Rattle.restool.proofs.command_line.with_commands.Given as goal

-- the program with the commands that are left is the program with all
abbrev pub invariant-loop-usage : goal.invariant-loop-usage
invariant-loop-usage l = record {
  local : IsLocal l.program;
  whole : with_commands (app_of l.program) (drop l.usage-index l.usages) ≡ with_commands (app_of l.initial.program) l.usages;
}
