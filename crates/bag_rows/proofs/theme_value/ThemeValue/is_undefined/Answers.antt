use Rattle.std.proofs.Common.{refl}
use Rattle.bag_rows.proofs.theme_value.ThemeValue.is_undefined.Goals as goal

pub returns-then-self-eq-NULL : goal.returns-then-self-eq-NULL
returns-then-self-eq-NULL c = rw c.if-self-eq-NULL.true refl
