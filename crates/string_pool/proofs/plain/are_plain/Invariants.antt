use Rattle.std.proofs.Common.{◌≡◌, ◌&&◌, drop}
use Rattle.std.specs.List.{list_all}
use Rattle.string_pool.specs.Escapes.{is_plain_byte}
use Rattle.string_pool.proofs.plain.are_plain.Given as goal

abbrev pub invariant-loop-byte : goal.invariant-loop-byte
invariant-loop-byte l = (l.plain && list_all is_plain_byte (drop l.byte-index l.bytes)) ≡ list_all is_plain_byte l.bytes
