use Rattle.std.proofs.Common.{Bool, Option, None, Some, ap, ◌∙◌}
use Rattle.std.specs.Option.{option_map}
use Rattle.std.specs.Prelude.{if◌then◌else◌}
use Rattle.stack_diff.specs.declared.difference.Difference.TheVariants.{Contents}
use Rattle.stack_diff.specs.Difference.{DifferenceOf}
use Rattle.stack_diff.specs.DifferenceSeen.{difference_of}
use Rattle.stack_diff.proofs.RowSteps.{some-unless}
use Rattle.stack_diff.proofs.difference.of_contents.Goals as goal

pub returns : goal.returns
returns c =
    let both = Contents c.args.before c.args.after in
    let told : Bool → Option DifferenceOf = λ same. if same then None else Some (difference_of both) in
    ap (option_map difference_of) c.then_some.ensures ∙ some-unless difference_of both c.say_same-say_same.result ∙ ap told c.say_same-say_same.ensures
