-- What each chunk begins with (AOSP: ResChunk_header).
use Rattle.std.specs.Prelude.{ℕ}

-- a kind of two bytes, the header's size of two, and the chunk's size of four
abbrev pub least_header_size : ℕ
least_header_size = 8
