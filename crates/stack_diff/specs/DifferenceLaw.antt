-- What is no difference.
use Rattle.std.specs.Prelude.{◌≡◌, ◌↔◌, None}
use Rattle.answer_text.specs.Content.{ContentOf}
use Rattle.stack_diff.specs.Difference.{difference}
use Rattle.answer_text.specs.ReadAlike.{content_read}

-- There is no difference exactly where a device reads the same of both.
abbrev pub DifferenceTells : Type 0
DifferenceTells = (before after : ContentOf) → difference before after ≡ None ↔ content_read before ≡ content_read after
