use Rattle.std.proofs.Common.{◌≡◌, ◌++◌, [], length}
use Rattle.std.specs.Option.{unwrap_or}
use Rattle.std.specs.Slice.Iter.{iter_rest}
use Rattle.overlay_map.specs.Package.{packages_of, rows_of_packages}
use Rattle.overlay_map.proofs.rows.AllRowsIterator.next.Given as goal

-- only packages without rows were passed over
abbrev pub invariant-packages : goal.invariant-packages
invariant-packages l = unwrap_or l.self-inside.left [] ++ rows_of_packages (packages_of (iter_rest l.self-inside.packages)) ≡ l.fn.self

abbrev pub decreases-packages : goal.decreases-packages
decreases-packages l = length (iter_rest l.self-inside.packages)
