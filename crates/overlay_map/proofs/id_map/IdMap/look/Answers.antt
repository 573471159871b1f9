use Rattle.std.proofs.Common.{ap, ◌∙◌}
use Rattle.std.specs.Option.{option_map}
use Rattle.overlay_map.specs.IdMap.{look_of}
use Rattle.overlay_map.proofs.CheckSteps.{look_of-entries}
use Rattle.overlay_map.proofs.id_map.IdMap.look.Goals as goal

pub returns : goal.returns
returns c =
    let id = c.args.id.0 in
    ap (λ own. option_map (λ id. id.0) own) (c.copied.ensures ∙ c.get.ensures.value)
    ∙ look_of-entries id c.self.inside.pairs.entries
    ∙ ap (λ map. look_of map id) c.self.view_is
