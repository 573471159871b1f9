use Rattle.std.proofs.Common.{refl}
use Rattle.resource_tool.proofs.rows.rows_printed.Goals as goal

pub returns : goal.returns
returns g c =
    (_, rw (c.if-android.false, c.in_ok-table.ensures) refl, c.in_ok-rows_text.ensures)

pub returns-then-android : goal.returns-then-android
returns-then-android g c =
    let text = rw (c.deref.ensures.value, c.in_ok-text.ensures) at c.print_text.ensures in
    rw (c.if-android.true, c.in_ok-table.ensures) text
