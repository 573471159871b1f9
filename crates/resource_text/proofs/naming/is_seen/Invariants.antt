use Rattle.std.proofs.Common.{◌≡◌, drop}
use Rattle.std.specs.Char.{is_ascii_graphic}
use Rattle.std.specs.List.{list_all}
use Rattle.resource_text.proofs.naming.is_seen.Given as goal

-- those that are left decide
abbrev pub invariant-bytes : goal.invariant-bytes
invariant-bytes l = list_all is_ascii_graphic (drop l.byte-index l.path) ≡ list_all is_ascii_graphic l.path
