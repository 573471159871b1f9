use Rattle.std.proofs.Common.{◌++◌, map, take}
use Rattle.reference_resolver.specs.overlay_map.ContentKeys.{HoldsIds}
use Rattle.bags_themes.proofs.attribute_values.keys_of_attributes.Given as goal

-- the attributes so far were taken
abbrev pub invariant-values : goal.invariant-values
invariant-values l = HoldsIds l.contents (map (λ set. set.0.0) (take l.place l.values.entries))

abbrev pub invariant-rows : goal.invariant-rows
invariant-rows l = HoldsIds l.contents (map (λ set. set.0.0) l.values.entries ++ map (λ row. row.name.0) (take l.row-index l.rows))
