use Rattle.std.proofs.Common.{◌∙◌, ap}
use Rattle.serde_json.specs.Written.{has_float, compact_text}
use Rattle.resource_text.proofs.NoFloat.{change-no_float}
use Rattle.resource_text.proofs.block.json_block.Goals as goal

pub returns : goal.returns
returns c =
    c.in_ok-text.ensures.text (ap has_float c.in_ok-change.ensures ∙ change-no_float _ _ _ _)
    ∙ ap compact_text c.in_ok-change.ensures
