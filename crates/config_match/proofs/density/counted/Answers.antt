use Rattle.std.proofs.Common.{refl}
use Rattle.config_match.proofs.density.counted.Goals as goal

pub returns-then-density-eq0 : goal.returns-then-density-eq0
returns-then-density-eq0 c = rw c.if-density-eq0.true refl
