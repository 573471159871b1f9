use Rattle.std.proofs.Common.{◌≡◌, Option, Some, None, pos, refl, sym, ap, ◌∙◌}
use Rattle.std.specs.Option.{IsSomeAnd}
use Rattle.clap.specs.Lexer.{usize_max}
use Rattle.clap.specs.Walk.{Rule}
use Rattle.clap.specs.declared.builder.value_parser.ValueParser.TheVariants.{Signed}
use Rattle.clap.specs.declared.builder.action.ArgAction.TheVariants.{Set, Append, SetTrue}
use Rattle.restool.specs.declared.command_line.Takes.{Takes}
use Rattle.restool.specs.CommandLine.{greatest_goal, most_nodes}
use Rattle.restool.specs.ArgumentsSeen.{rule_taking}
use Rattle.restool.proofs.command_line.built_argument.Goals as goal

some_and : {X : Type 0} {Q : X → Type 0} (found : Option X) → IsSomeAnd found Q → (x : X) × (found ≡ Some x) × Q x
some_and None is = absurd is
some_and (Some x) is = (x, refl, is)

pub returns-in-Word : goal.returns-in-Word
returns-in-Word c =
    rw (c.action.ensures, c.required.ensures, c.help-arg.ensures) (
      ap (λ (r : Rule). record r { action = Some Set; required = c.in-Word.is_required }) c.new.ensures.rule ∙ ap (λ (takes : Takes). rule_taking takes c.args.argument.now.name.now) (sym c.in-Word.is),
      c.new.ensures.optional.1,
    )

pub returns-in-Words : goal.returns-in-Words
returns-in-Words c =
    let range = some_and c.num_args.result.num_vals c.num_args.ensures.1 in
    rw (c.action-in-Words.ensures, c.num_args.ensures.0, range.1, range.2, c.required-in-Words.ensures, c.help-arg.ensures) (
      ap (λ (r : Rule). record r { action = Some Append; required = c.in-Words.is_required; range = Some (record { start_inclusive = 1; end_inclusive = usize_max }) }) c.new.ensures.rule ∙ ap (λ (takes : Takes). rule_taking takes c.args.argument.now.name.now) (sym c.in-Words.is),
      c.new.ensures.optional.1,
    )

pub returns-in-Nothing : goal.returns-in-Nothing
returns-in-Nothing c =
    rw (c.action-in-Nothing.ensures, c.long.ensures, c.help-arg.ensures) (
      ap (λ (r : Rule). record r { action = Some SetTrue; long = Some c.args.argument.now.name.now }) c.new.ensures.rule ∙ ap (λ (takes : Takes). rule_taking takes c.args.argument.now.name.now) (sym c.in-Nothing.is),
      c.new.ensures.optional.1,
    )

pub returns-in-OptionWord : goal.returns-in-OptionWord
returns-in-OptionWord c =
    rw (c.value_name.ensures, c.long-in-OptionWord.ensures, c.help-arg.ensures) (
      ap (λ (r : Rule). record r { long = Some c.args.argument.now.name.now; value_names = 1 }) c.new.ensures.rule ∙ ap (λ (takes : Takes). rule_taking takes c.args.argument.now.name.now) (sym c.in-OptionWord.is),
      c.new.ensures.optional.1,
    )

pub returns-in-Nodes : goal.returns-in-Nodes
returns-in-Nodes c =
    let parser = c.value_parser-in-Nodes.ensures.given in
    let number = rw (c.value_parser.ensures, c.new-in-Nodes.ensures.start, c.new-in-Nodes.ensures.end, c.from.ensures) at c.range-number.ensures in
    rw (c.value_parser-in-Nodes.ensures.others, parser.1, parser.2, number, c.value_name-in-Nodes.ensures, c.long-in-Nodes.ensures, c.help-arg.ensures) (
      ap (λ (r : Rule). record r { long = Some c.args.argument.now.name.now; value_names = 1; parser = Some (Signed (pos 1) (pos most_nodes)) }) c.new.ensures.rule ∙ ap (λ (takes : Takes). rule_taking takes c.args.argument.now.name.now) (sym c.in-Nodes.is),
      c.new.ensures.optional.1,
    )

pub returns-in-GoalNumber : goal.returns-in-GoalNumber
returns-in-GoalNumber c =
    let parser = c.value_parser-in-GoalNumber-2.ensures.given in
    let number = rw (c.value_parser-in-GoalNumber.ensures, c.new-in-GoalNumber.ensures.start, c.new-in-GoalNumber.ensures.end, c.from-in-GoalNumber.ensures) at c.range-number-in-GoalNumber.ensures in
    rw (c.value_parser-in-GoalNumber-2.ensures.others, parser.1, parser.2, number, c.value_name-in-GoalNumber.ensures, c.long-in-GoalNumber.ensures, c.help-arg.ensures) (
      ap (λ (r : Rule). record r { long = Some c.args.argument.now.name.now; value_names = 1; parser = Some (Signed (pos 0) (pos greatest_goal)) }) c.new.ensures.rule ∙ ap (λ (takes : Takes). rule_taking takes c.args.argument.now.name.now) (sym c.in-GoalNumber.is),
      c.new.ensures.optional.1,
    )
