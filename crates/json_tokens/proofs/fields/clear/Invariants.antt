use Rattle.std.proofs.Common.{◌≡◌, take, replicate, None}
use Rattle.json_tokens.proofs.fields.clear.Given as goal

abbrev pub invariant-slots : goal.invariant-slots
invariant-slots l = take l.place l.slots ≡ replicate l.place None
