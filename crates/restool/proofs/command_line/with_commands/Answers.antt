use Rattle.std.proofs.Common.{◌≡◌, ℕ, ◌+◌, ◌<◌, List, drop, get_or, length, sym, ap, ◌∙◌, arith}
use Rattle.std.proofs.lemmas.List.{drop_all, drop_more}
use Rattle.clap.specs.Simple.{App, app_of, with_subcommand}
use Rattle.restool.specs.declared.command_line.Usage.{Usage}
use Rattle.restool.specs.ArgumentsSeen.{command_seen, with_commands}
use Rattle.restool.proofs.command_line.with_commands.Goals as goal

-- the first of the commands that are left goes first
next_command : (app : App) (place : ℕ) (all : List Usage) (d : Usage) → place < length all
    → with_commands (with_subcommand app (command_seen (get_or all place d))) (drop (place + 1) all) ≡ with_commands app (drop place all)
next_command app place all d on = sym (ap (with_commands app) (drop_more all place d on))

pub loop-usage-preserved : goal.loop-usage-preserved
loop-usage-preserved c = record {
  local = c.in_ok-program.ensures.1;
  whole =
      rw c.in_ok-program.ensures.0
      (next_command (app_of c.loop-usage.program) c.loop-usage.usage-index c.args.usages.now _ (omega arith)
      ∙ c.loop-usage.invariant.whole);
}

pub returns : goal.returns
returns c = (
  sym (ap (with_commands (app_of c.loop-usage.program)) (drop_all c.loop-usage.usage-index c.args.usages.now c.loop-usage-test.false))
      ∙ c.loop-usage.invariant.whole,
  c.loop-usage.invariant.local,
)
