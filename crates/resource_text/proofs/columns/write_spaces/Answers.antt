use Rattle.std.proofs.Common.{subst, codes, List, ℕ}
use Rattle.std.proofs.KnownBytes.{Appends-trans}
use Rattle.std.specs.Io.KnownBytes.{Appends}
use Rattle.resource_text.proofs.ColumnSteps.{repeat-more}
use Rattle.resource_text.proofs.columns.write_spaces.Goals as goal

pub spaces-preserved : goal.spaces-preserved
spaces-preserved g c =
    let contents = g.W.Write.contents in
    subst (λ (t : List ℕ). Appends (contents c.args.out.now) (contents c.write_all.new.self) t) (repeat-more c.spaces.counter (codes " "))
    (Appends-trans _ _ _ _ _ c.spaces.invariant c.in_ok-write_all.ensures.bytes)
