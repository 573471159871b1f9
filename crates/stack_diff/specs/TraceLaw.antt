-- Why look-ups that are alike at two devices are enough.
use Rattle.std.specs.Prelude.{ℕ, ◌≡◌, List}
use Rattle.answer_text.specs.overlay_map.Layer.{LayerOf}
use Rattle.answer_text.specs.bags_themes.ContentTrace.{content_trace}
use Rattle.answer_text.specs.ContentAt.{content_at}

-- At devices that have one trace an id says the same.
abbrev pub TraceTellsContent : Type 0
TraceTellsContent =
    (stack : List LayerOf) (id : ℕ) (d e : List ℕ) → content_trace stack id d ≡ content_trace stack id e
    → content_at stack id d ≡ content_at stack id e
