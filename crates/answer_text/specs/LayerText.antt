-- Layers as text.
use Rattle.std.specs.Prelude.{ℕ, List, codes}
use Rattle.answer_text.specs.NamedText.{named_number}

-- `layer L`, layers being counted from 0
unfoldable pub layer_text : ℕ → List ℕ
layer_text layer = named_number (codes "layer") layer
