use Rattle.std.proofs.Common.{sym, ap, ◌∙◌}
use Rattle.answer_text.specs.ContentSeen.{content_of}
use Rattle.answer_text.specs.declared.content.Content.{Content}
use Rattle.answer_text.specs.declared.content.Content.TheVariants.{Bag}
use Rattle.stack_diff.specs.Difference.{difference, of_rows}
use Rattle.stack_diff.proofs.difference.difference_between.Goals as goal

pub returns-in_ok-row_differences-in-Bag-Bag : goal.returns-in_ok-row_differences-in-Bag-Bag
unfolding difference
returns-in_ok-row_differences-in-Bag-Bag c =
    c.of_rows.ensures
    ∙ ap of_rows c.in_ok-row_differences-in-Bag-Bag.ensures
    ∙ sym (ap (λ (before : Content). difference (content_of before) (content_of c.args.after)) c.in-Bag-Bag.is-0
    ∙ ap (λ (after : Content). difference (content_of (Bag c.in-Bag-Bag.before)) (content_of after)) c.in-Bag-Bag.is-1)
