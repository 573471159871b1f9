use Rattle.std.proofs.Common.{◌≡◌, drop}
use Rattle.std.specs.List.{list_any}
use Rattle.names.specs.Plain.{is_misread}
use Rattle.names.proofs.plain.has_misread.Given as goal

-- those that are left decide
abbrev pub invariant-bytes : goal.invariant-bytes
invariant-bytes l = list_any is_misread (drop l.byte-index l.name) ≡ list_any is_misread l.name
