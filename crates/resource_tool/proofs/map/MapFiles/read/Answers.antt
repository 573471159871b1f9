use Rattle.std.proofs.Common.{sym, ℕ, List, Result, Ok}
use Rattle.std.proofs.lemmas.Result.{err_from_is_err_and}
use Rattle.std.proofs.lemmas.Slice.Eq.{bytes_eq-Decides}
use Rattle.contract_words.specs.Faults.{◌>>=◌}
use Rattle.resource_tool.specs.MapOutput.{MapBytes, map_files}
use Rattle.command_base.specs.Stop.{StopOf}
use Rattle.command_base.specs.Inputs.{Places, layer_table_of}
use Rattle.command_base.proofs.ReadInTurn.{behind_read, behind_stops, first_stops, last_read}
use Rattle.resource_tool.proofs.SamePath.{read_once}
use Rattle.resource_tool.proofs.map.MapFiles.read.Goals as goal

abbrev with_overlay : List ℕ → List ℕ → Result MapBytes StopOf
with_overlay target overlay = Ok (record { target = target; overlay = overlay })

pub returns-then-eq : goal.returns-then-eq
returns-then-eq g c =
    read_once (g.I.Inputs.places c.args.inputs.now) c.args.target_path.now c.args.overlay_path.now c.in_ok-target.target
    ((bytes_eq-Decides c.args.overlay_path.now c.args.target_path.now).0 (sym c.if-eq.ensures)) c.in_ok-target.ensures

pub returns-in_err-target : goal.returns-in_err-target
unfolding map_files
returns-in_err-target g c =
    let target = λ (places : Places). layer_table_of 0 places c.args.target_path.now in
    let overlay = λ (places : Places). layer_table_of 1 places c.args.overlay_path.now in
    let both = λ (places : Places) (table : List ℕ). overlay places >>= with_overlay table in
    let p = err_from_is_err_and c.from_residual.result c.from_residual.ensures.1 in
    rw (p.1, p.2) (first_stops (g.I.Inputs.places c.args.inputs.now) target both c.in_err-target.field-0.0 c.in_err-target.ensures)

pub returns-in_err-overlay : goal.returns-in_err-overlay
unfolding map_files
returns-in_err-overlay g c =
    let known = g.I.Inputs.places c.args.inputs.now in
    let target = λ (places : Places). layer_table_of 0 places c.args.target_path.now in
    let overlay = λ (places : Places). layer_table_of 1 places c.args.overlay_path.now in
    let both = λ (places : Places) (table : List ℕ). overlay places >>= with_overlay table in
    let stop = c.in_err-overlay.field-0.0 in
    let p = err_from_is_err_and c.from_residual-in_err-overlay.result c.from_residual-in_err-overlay.ensures.1 in
    rw (p.1, p.2)
    (behind_stops known target both c.in_ok-target.target stop c.in_ok-target.ensures (first_stops known overlay (λ places. with_overlay c.in_ok-target.target) stop c.in_err-overlay.ensures))

pub returns : goal.returns
unfolding map_files
returns g c =
    let known = g.I.Inputs.places c.args.inputs.now in
    let target = λ (places : Places). layer_table_of 0 places c.args.target_path.now in
    let overlay = λ (places : Places). layer_table_of 1 places c.args.overlay_path.now in
    let both = λ (places : Places) (table : List ℕ). overlay places >>= with_overlay table in
    let table = c.in_ok-target.target in
    behind_read known target both table (record { target = table; overlay = c.in_ok-overlay.overlay }) c.in_ok-target.ensures
    (last_read known overlay (λ overlay. record { target = table; overlay = overlay }) c.in_ok-overlay.overlay c.in_ok-overlay.ensures)
