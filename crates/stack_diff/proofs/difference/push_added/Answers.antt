use Rattle.std.proofs.Common.{◌++◌, map, Option, sym, ◌∙◌, ap}
use Rattle.std.specs.Option.{option_to_list}
use Rattle.answer_text.specs.declared.content.RowContent.{RowContent}
use Rattle.stack_diff.specs.declared.difference.RowDifference.TheVariants.{Added}
use Rattle.stack_diff.proofs.difference.push_added.Goals as goal

pub returns-in_ok-push : goal.returns-in_ok-push
returns-in_ok-push c = c.in_ok-push.ensures.items ∙ ap (λ (row : Option RowContent). c.args.rows.now.items ++ map Added (option_to_list row)) (sym c.in-Some.is)
