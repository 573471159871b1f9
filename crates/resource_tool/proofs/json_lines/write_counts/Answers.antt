use Rattle.std.proofs.Common.{◌≡◌, ℕ, ◌+◌, ◌<◌, ◌∷◌, [], ◌++◌, List, arith, codes, false, nat_eq, refl, append_assoc}
use Rattle.std.proofs.lemmas.Bool.Decides.{nat_tests}
use Rattle.std.specs.Fmt.{decimal}
use Rattle.std.proofs.KnownBytes.{Appends-trans}
use Rattle.std.proofs.lemmas.Result.{on_ok_weaker}
use Rattle.resource_tool.specs.JsonLines.{counts_json}
use Rattle.resource_tool.proofs.json_lines.write_counts.Goals.{else-old-eq0-via-then-old-eq0+else-new-eq0, else-old-eq0-via-else-old-eq0}
use Rattle.resource_tool.proofs.json_lines.write_counts.Goals as goal

counted : (begin : List ℕ) (old new : ℕ) → 0 < old + new → counts_json begin old new ≡ begin ++ decimal new ++ codes ",\"old\":" ++ decimal old ++ codes "}" ++ 10 ∷ []
unfolding counts_json
counted begin old new some = let no : nat_eq (old + new) 0 ≡ false = grind (arith, nat_tests) in rw no refl

pub returns : goal.returns
returns g c =
    let some : 0 < c.args.old + c.args.new =
    elim c.else-old-eq0.branch [
      | else-old-eq0-via-then-old-eq0+else-new-eq0 w ↦ omega arith
      | else-old-eq0-via-else-old-eq0 w ↦ omega arith
    ]
    in
    let whole = on_ok_weaker c.writeln.result (λ last. Appends-trans _ _ _ _ _ c.in_ok-write_all.ensures.bytes last) c.writeln.ensures.bytes in
    rw (counted c.args.begin.now c.args.old c.args.new some) (simp append_assoc whole)
