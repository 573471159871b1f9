use Rattle.std.proofs.Common.{◌∙◌, ap}
use Rattle.serde_json.specs.Written.{has_float, compact_text}
use Rattle.resource_text.proofs.NoFloat.{text-no_float}
use Rattle.resource_text.proofs.content_json.name_json.Goals as goal

pub returns : goal.returns
returns c =
    c.in_ok-text.ensures.text (ap has_float c.in_ok-name.ensures ∙ text-no_float _)
    ∙ ap compact_text c.in_ok-name.ensures
