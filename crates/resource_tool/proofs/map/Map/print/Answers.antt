use Rattle.resource_tool.specs.MapOutput.{map_json_output}
use Rattle.resource_tool.proofs.AloneSteps.{prints-alone}
use Rattle.resource_tool.proofs.map.Map.print.Goals as goal

pub returns-in-Text : goal.returns-in-Text
returns-in-Text g c = rw c.in-Text.is c.map_bytes.ensures.prints

pub returns-in-Json : goal.returns-in-Json
returns-in-Json g c =
    let target = c.args.target.now in
    let overlay = c.args.overlay.now in
    rw c.in-Json.is
    (prints-alone g.W.Write.contents g.E.Write.contents c.args.out.now c.print_json.new.out c.args.errors.now c.print_json.result (map_json_output target overlay)
    c.print_json.ensures)
