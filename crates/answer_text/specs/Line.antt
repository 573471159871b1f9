-- A line in memory. Contracts within the crate alone speak of this.
use Rattle.std.specs.Prelude.{ℕ, List, take}
use Rattle.answer_text.specs.declared.line.Line.{Line}

-- what was put into it
abbrev pub line_text : Line → List ℕ
line_text line = take line.size line.bytes
