use Rattle.std.proofs.Common.{◌≡◌, drop}
use Rattle.std.specs.List.{list_any}
use Rattle.names.specs.Named.{is_of_no_name}
use Rattle.names.proofs.name_parts.has_byte_of_no_name.Given as goal

-- those that are left decide
abbrev pub invariant-bytes : goal.invariant-bytes
invariant-bytes l = list_any is_of_no_name (drop l.byte-index l.text) ≡ list_any is_of_no_name l.text
