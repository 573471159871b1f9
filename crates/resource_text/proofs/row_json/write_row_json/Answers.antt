use Rattle.std.proofs.Common.{OnOk, subst, ap, ◌∙◌}
use Rattle.std.specs.Io.KnownBytes.{Appends}
use Rattle.std.specs.Prelude.{codes}
use Rattle.serde_json.specs.Data.{Data, Members, boolean, put}
use Rattle.serde_json.specs.View.{view, members_view}
use Rattle.serde_json.specs.Written.{has_float, members_have_float}
use Rattle.answer_text.specs.type_chunks.Row.{row_of}
use Rattle.resource_text.specs.EndJson.{place_data, with_id}
use Rattle.resource_text.specs.LineJson.{line_members, line_json}
use Rattle.resource_text.specs.RowJson.{row_json, with_cell}
use Rattle.resource_text.proofs.NoFloat.{put-no_float}
use Rattle.resource_text.proofs.NoFloatLines.{id-no_float, line-no_float, place-no_float}
use Rattle.resource_text.proofs.VerdictNoFloat.{cell-no_float}
use Rattle.resource_text.proofs.row_json.write_row_json.Goals as goal

pub write_line-requires : goal.write_line-requires
write_line-requires g c =
    let naming = c.args.naming.now in
    let row = row_of c.args.row.now in
    let named = ap members_have_float (c.in_ok-put_id.ensures ∙ ap (with_id naming row.id) c.in_ok-members.ensures)
    ∙ id-no_float naming row.id (line_members c.args.kind.now) (line-no_float c.args.kind.now) in
    let place = ap has_float c.in_ok-stands.ensures ∙ place-no_float naming c.args.place row.config in
    let placed = ap members_have_float c.in_ok-put.ensures.ok ∙ put-no_float (codes "from") (view c.in_ok-stands.stands) (members_view c.put_id.new.members.entries) place named in
    let told = ap members_have_float c.in_ok-put-2.ensures.ok ∙ put-no_float (codes "overlay") (view c.from.result) (members_view c.put.new.map.entries) (ap has_float c.from.ensures) placed in
    ap members_have_float c.in_ok-put_cell.ensures ∙ cell-no_float naming row.cell (members_view c.put-2.new.map.entries) told

pub returns : goal.returns
unfolding row_json
returns g c =
    let contents = g.W.Write.contents in
    let naming = c.args.naming.now in
    let row = row_of c.args.row.now in
    let named = c.in_ok-put_id.ensures ∙ ap (with_id naming row.id) c.in_ok-members.ensures in
    let placed =
    c.in_ok-put.ensures.ok
    ∙ ap (λ (p : Data). put (codes "from") p (members_view c.put_id.new.members.entries)) c.in_ok-stands.ensures
    ∙ ap (put (codes "from") (place_data naming c.args.place row.config)) named in
    let told =
    c.in_ok-put-2.ensures.ok
    ∙ ap (λ (b : Data). put (codes "overlay") b (members_view c.put.new.map.entries)) c.from.ensures
    ∙ ap (put (codes "overlay") (boolean c.args.overlay)) placed in
    let members = c.in_ok-put_cell.ensures ∙ ap (with_cell naming row.cell) told in
    subst (λ (ms : Members). OnOk c.write_line.result (Appends (contents c.args.out.now) (contents c.write_line.new.out) (line_json ms))) members c.write_line.ensures
