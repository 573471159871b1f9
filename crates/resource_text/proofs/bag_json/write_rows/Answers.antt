use Rattle.resource_text.proofs.Enumerated.{enumerated-next}
use Rattle.resource_text.proofs.bag_json.write_rows.Goals as goal

pub loop-place-preserved : goal.loop-place-preserved
loop-place-preserved g c = enumerated-next _ _ _ _ _ _ _ c.loop-place.invariant c.loop-place-test.true c.in_ok-write_row.ensures
