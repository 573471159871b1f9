use Rattle.std.proofs.Common.{ℕ, drop}
use Rattle.std.specs.Prelude.{◌||◌, IsTrue}
use Rattle.std.specs.BTreeSet.{contains}
use Rattle.std.specs.Ordering.{nat_cmp}
use Rattle.stack_diff.specs.PlacesSeen.{is_among}
use Rattle.stack_diff.proofs.looked_up.put_each.Given as goal

abbrev pub invariant-loop-id : goal.invariant-loop-id
invariant-loop-id l =
    (id : ℕ) → IsTrue (contains nat_cmp l.fn.numbers id || is_among l.ids id) → IsTrue (contains nat_cmp l.numbers id || is_among (drop l.id-index l.ids) id)
