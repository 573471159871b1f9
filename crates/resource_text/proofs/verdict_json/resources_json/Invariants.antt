use Rattle.std.proofs.Common.{◌≡◌, map, take}
use Rattle.serde_json.specs.View.{view}
use Rattle.res_value.specs.declared.res_id.ResId.{ResId}
use Rattle.resource_text.specs.EndJson.{resource_data}
use Rattle.resource_text.proofs.verdict_json.resources_json.Given as goal

-- the values of the ids so far
abbrev pub invariant-loop-id : goal.invariant-loop-id
invariant-loop-id l = map view l.values.items ≡ map (λ (id : ResId). resource_data l.naming id.0) (take l.id-index l.ids)
