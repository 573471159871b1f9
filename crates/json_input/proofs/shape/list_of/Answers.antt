use Rattle.std.proofs.Common.{List, Option, Some, sym, ap}
use Rattle.serde_json.specs.Data.{Data}
use Rattle.json_input.proofs.EachSteps.{list_items-view}
use Rattle.json_input.proofs.shape.list_of.Goals as goal

pub returns-in-Some : goal.returns-in-Some
returns-in-Some c =
    let wrapped : List Data → Option (List Data) = λ t. Some t in
    rw (c.as_slice.ensures.value, ← c.in-Some.ensures) (ap wrapped (sym (list_items-view c.in-Some.items.now.items)))
