-- The text of an id has neither an at sign nor a comma.
use Rattle.std.proofs.Common.{◌≡◌, ℕ, Bool, false, ◌||◌, codes}
use Rattle.std.specs.Int.{w32, to_be_bytes}
use Rattle.hex.specs.Hex.{lower_digits}
use Rattle.res_value.specs.ResId.{id_text}
use Rattle.res_value.specs.Word.{word_text, eight_digits}
use Rattle.resource_tool.proofs.names_proofs.Cuts.{Lacks, neither, encoded-lacks}

-- no digit passes, and neither do `0` and `x`
pub id_text-lacks : (p : ℕ → Bool) (id : ℕ) → p 0 ≡ false → Lacks p lower_digits → Lacks p (codes "0x") → Lacks p (id_text id)
unfolding word_text eight_digits
id_text-lacks p id none digits front =
    let first = neither (p 48) (p 120 || false) front in
    let second = neither (p 120) false first.1 in
    rw (first.0, second.0) (encoded-lacks p lower_digits (to_be_bytes w32 id) none digits)
