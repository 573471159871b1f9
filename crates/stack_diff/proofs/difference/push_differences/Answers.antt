use Rattle.stack_diff.proofs.RowSteps.{rows-done, no-rows, first-is, takes-first, row-removed_alone, row-added_alone, row-removed, row-added, row-both}
use Rattle.std.proofs.Common.{◌++◌, arith, length, map, Option, None, refl, sym, ◌∙◌, ap}
use Rattle.answer_text.specs.declared.content.RowContent.{RowContent}
use Rattle.stack_diff.specs.DifferenceSeen.{row_difference_of, changed_rows}
use Rattle.stack_diff.proofs.difference.push_differences.Goals as goal

pub returns-in-None-None : goal.returns-in-None-None
returns-in-None-None c =
    rows-done c.rows.rows.items c.rows.before.items c.rows.after.items _ (no-rows _ _ c.rows.before.ok.0 c.in-None-None.ensures.variant.1) (no-rows _ _ c.rows.after.ok.0 c.in-None-None.ensures'.variant.1) c.rows.invariant

pub rows-preserved-in-Continue-1 : goal.rows-preserved-in-Continue-1
rows-preserved-in-Continue-1 c =
    let other = c.in-None-Some.field-0-1.now in
    let first = c.in-None-Some.ensures' in
    row-added_alone c.rows.rows.items _ other _ c.rows.before.items c.rows.after.items _ _ (takes-first other _ _ _ first.lookup (c.pop_front.ensures.value other (first.variant.0 refl)) c.pop_front.ensures.items)
    (no-rows _ _ c.rows.before.ok.0 c.in-None-Some.ensures.variant.1) c.in_ok-push_added-in-None-Some.ensures c.rows.invariant

pub rows-preserved-in-Continue-branch-2 : goal.rows-preserved-in-Continue-branch-2
rows-preserved-in-Continue-branch-2 c =
    let row = c.in-Some-None.field-0-0.now in
    let first = c.in-Some-None.ensures in
    row-removed_alone c.rows.rows.items _ row _ c.rows.before.items c.rows.after.items _ _ (takes-first row _ _ _ first.lookup (c.pop_front-in-Some-None.ensures.value row (first.variant.0 refl)) c.pop_front-in-Some-None.ensures.items)
    (no-rows _ _ c.rows.after.ok.0 c.in-Some-None.ensures'.variant.1) c.in_ok-push_removed-in-Some-None.ensures c.rows.invariant

pub rows-preserved-in-Continue-branch-3 : goal.rows-preserved-in-Continue-branch-3
rows-preserved-in-Continue-branch-3 c =
    let row = c.in-Some-Some.row.now in
    let other = c.in-Some-Some.other.now in
    let first = c.in-Some-Some.ensures in
    let first_after = c.in-Some-Some.ensures' in
    row-removed c.rows.rows.items _ row other _ None c.rows.before.items c.rows.after.items _ _ _ (sym c.in-Less.ensures)
    (takes-first row _ _ _ first.lookup (c.pop_front-in-Less.ensures.value row (first.variant.0 refl)) c.pop_front-in-Less.ensures.items)
    (first-is other _ _ c.rows.after.ok.0 (first_after.variant.0 refl) first_after.lookup) c.in_ok-push_removed-in-Less.ensures c.rows.invariant

pub rows-preserved-in-Continue-branch-4 : goal.rows-preserved-in-Continue-branch-4
rows-preserved-in-Continue-branch-4 c =
    let row = c.in-Some-Some.row.now in
    let other = c.in-Some-Some.other.now in
    let first = c.in-Some-Some.ensures in
    let first_after = c.in-Some-Some.ensures' in
    row-added c.rows.rows.items _ row other None _ c.rows.before.items c.rows.after.items _ _ _ (sym c.in-Greater.ensures)
    (first-is row _ _ c.rows.before.ok.0 (first.variant.0 refl) first.lookup)
    (takes-first other _ _ _ first_after.lookup (c.pop_front-in-Greater.ensures.value other (first_after.variant.0 refl)) c.pop_front-in-Greater.ensures.items) c.in_ok-push_added-in-Greater.ensures c.rows.invariant

pub rows-preserved : goal.rows-preserved
rows-preserved c =
    let row = c.in-Some-Some.row.now in
    let other = c.in-Some-Some.other.now in
    let first = c.in-Some-Some.ensures in
    let first_after = c.in-Some-Some.ensures' in
    row-both c.rows.rows.items _ row other _ _ c.rows.before.items c.rows.after.items _ _ _ (sym c.in-Equal.ensures)
    (takes-first row _ _ _ first.lookup (c.pop_front-in-Equal.ensures.value row (first.variant.0 refl)) c.pop_front-in-Equal.ensures.items)
    (takes-first other _ _ _ first_after.lookup (c.pop_front-in-Equal-2.ensures.value other (first_after.variant.0 refl)) c.pop_front-in-Equal-2.ensures.items)
    (c.in_ok-push_changed-in-Equal.ensures ∙ ap (λ (both : Option (RowContent × RowContent)). map row_difference_of c.rows.rows.items ++ changed_rows both) c.zip.ensures) c.rows.invariant

pub rows-smaller-in-Continue-1 : goal.rows-smaller-in-Continue-1
rows-smaller-in-Continue-1 c =
    let count = ap length (takes-first _ _ _ _ c.in-None-Some.ensures'.lookup (c.pop_front.ensures.value _ (c.in-None-Some.ensures'.variant.0 refl)) c.pop_front.ensures.items).left_is in
    omega (arith, count)

pub rows-smaller-in-Continue-branch-2 : goal.rows-smaller-in-Continue-branch-2
rows-smaller-in-Continue-branch-2 c =
    let count = ap length (takes-first _ _ _ _ c.in-Some-None.ensures.lookup (c.pop_front-in-Some-None.ensures.value _ (c.in-Some-None.ensures.variant.0 refl)) c.pop_front-in-Some-None.ensures.items).left_is in
    omega (arith, count)

pub rows-smaller-in-Continue-branch-3 : goal.rows-smaller-in-Continue-branch-3
rows-smaller-in-Continue-branch-3 c =
    let count = ap length (takes-first _ _ _ _ c.in-Some-Some.ensures.lookup (c.pop_front-in-Less.ensures.value _ (c.in-Some-Some.ensures.variant.0 refl)) c.pop_front-in-Less.ensures.items).left_is in
    omega (arith, count)

pub rows-smaller-in-Continue-branch-4 : goal.rows-smaller-in-Continue-branch-4
rows-smaller-in-Continue-branch-4 c =
    let count = ap length (takes-first _ _ _ _ c.in-Some-Some.ensures'.lookup (c.pop_front-in-Greater.ensures.value _ (c.in-Some-Some.ensures'.variant.0 refl)) c.pop_front-in-Greater.ensures.items).left_is in
    omega (arith, count)

pub rows-smaller : goal.rows-smaller
rows-smaller c =
    let count = ap length (takes-first _ _ _ _ c.in-Some-Some.ensures.lookup (c.pop_front-in-Equal.ensures.value _ (c.in-Some-Some.ensures.variant.0 refl)) c.pop_front-in-Equal.ensures.items).left_is in
    let others = ap length (takes-first _ _ _ _ c.in-Some-Some.ensures'.lookup (c.pop_front-in-Equal-2.ensures.value _ (c.in-Some-Some.ensures'.variant.0 refl)) c.pop_front-in-Equal-2.ensures.items).left_is in
    omega (arith, count, others)
