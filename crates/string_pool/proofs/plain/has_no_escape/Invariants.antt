use Rattle.std.proofs.Common.{◌≡◌, ◌&&◌, drop}
use Rattle.std.specs.List.{list_all}
use Rattle.string_pool.specs.Escapes.{is_unescaped}
use Rattle.string_pool.proofs.plain.has_no_escape.Given as goal

abbrev pub invariant-loop-byte : goal.invariant-loop-byte
invariant-loop-byte l = (l.unescaped && list_all is_unescaped (drop l.byte-index l.bytes)) ≡ list_all is_unescaped l.bytes
