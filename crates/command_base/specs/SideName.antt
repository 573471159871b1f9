-- The name of one of two stacks that are compared.
use Rattle.std.specs.Prelude.{ℕ, List, codes}
use Rattle.command_base.specs.declared.side.Side.{Side}
use Rattle.command_base.specs.declared.side.Side.TheVariants.{Old, New}

unfoldable pub side_name : Side → List ℕ
side_name Old = codes "old"
side_name New = codes "new"
