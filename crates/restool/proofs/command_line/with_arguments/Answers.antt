use Rattle.std.proofs.Common.{◌≡◌, ◌||◌, ℕ, ◌+◌, ◌<◌, Bool, List, drop, get_or, length, sym, ap, ◌∙◌, arith}
use Rattle.std.proofs.lemmas.List.{drop_all, drop_more}
use Rattle.clap.specs.Simple.{App, app_of, with_rule}
use Rattle.restool.specs.declared.command_line.Argument.{Argument}
use Rattle.restool.specs.ArgumentsSeen.{rule_seen, with_arguments}
use Rattle.restool.proofs.command_line.with_arguments.Goals as goal

-- the first of the arguments that are left goes first
next_argument : (app : App) (place : ℕ) (all : List Argument) (d : Argument) → place < length all
    → with_arguments (with_rule app (rule_seen (get_or all place d))) (drop (place + 1) all) ≡ with_arguments app (drop place all)
next_argument app place all d on = sym (ap (with_arguments app) (drop_more all place d on))

pub loop-argument-preserved : goal.loop-argument-preserved
loop-argument-preserved c =
    let added = c.in_ok-command.ensures in
    let built = c.built_argument.ensures in
    record {
      local = added.globals ∙ ap (λ (before : Bool). before || c.built_argument.result.global) c.loop-argument.invariant.local ∙ built.1;
      whole =
          rw (added.shape built.1, built.0)
          (next_argument (app_of c.loop-argument.command) c.loop-argument.argument-index c.args.arguments.now _ (omega arith)
          ∙ c.loop-argument.invariant.whole);
    }

pub returns : goal.returns
returns c = (
  sym (ap (with_arguments (app_of c.loop-argument.command)) (drop_all c.loop-argument.argument-index c.args.arguments.now c.loop-argument-test.false))
      ∙ c.loop-argument.invariant.whole,
  c.loop-argument.invariant.local,
)
