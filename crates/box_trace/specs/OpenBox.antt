-- The boxes of open paths, and how far their members go alike.
use Rattle.std.specs.Prelude.{ℕ, List, map}
use Rattle.config_box.specs.box_answers.NumberSet.{SetOf}
use Rattle.config_box.specs.box_answers.Members.{IsMember}
use Rattle.bags_themes.specs.overlay_map.Layer.{LayerOf}
use Rattle.bags_themes.specs.reference_resolver.Trace.{Trace}
use Rattle.box_trace.specs.declared.open_box.OpenBox.{OpenBox}
use Rattle.box_trace.specs.Walk.{HaveWalked}

abbrev pub boxes_of : List OpenBox → List (List SetOf)
boxes_of parts = map (λ part. part.members) parts

-- all members of the box have come by the same steps to where its walk stands
abbrev pub IsReached : List LayerOf → (List ℕ → Trace) → OpenBox → Type 0
IsReached stack trace part = HaveWalked stack (IsMember part.members) trace part.walk
