use Rattle.std.proofs.Common.{Bool, List, Option, [], ◌∷◌, map, ap, ◌∙◌}
use Rattle.std.specs.Option.{option_to_list}
use Rattle.std.specs.Prelude.{if◌then◌else◌}
use Rattle.stack_diff.specs.declared.difference.RowDifference.{RowDifference}
use Rattle.stack_diff.specs.declared.difference.RowDifference.TheVariants.{Changed}
use Rattle.stack_diff.specs.Difference.{RowDifferenceOf}
use Rattle.stack_diff.specs.DifferenceSeen.{row_difference_of}
use Rattle.stack_diff.proofs.RowSteps.{told-unless}
use Rattle.stack_diff.proofs.difference.changed_row.Goals as goal

pub returns : goal.returns
returns c =
    let changed = Changed c.args.before.key c.args.before.value c.args.after.value in
    let told : Bool → List RowDifferenceOf = λ alike. if alike then [] else row_difference_of changed ∷ [] in
    ap (λ (row : Option RowDifference). map row_difference_of (option_to_list row)) c.then_some.ensures
    ∙ told-unless row_difference_of changed c.is_alike-are_alike.result
    ∙ ap told c.is_alike-are_alike.ensures
