use Rattle.std.proofs.Common.{ℕ, List, Result, Err, ap, sym, ◌∙◌, string_bytes}
use Rattle.std.proofs.lemmas.Option.{IfSome_then}
use Rattle.contract_words.specs.Faults.{◌>>=◌}
use Rattle.command_base.specs.Stop.{StopOf, layer_file}
use Rattle.command_base.specs.Place.{at_path}
use Rattle.command_base.specs.declared.fault.ToolFault.TheVariants.{LayerApk}
use Rattle.command_base.specs.Inputs.{or_stop, stop_at, listed_table_of, table_within}
use Rattle.command_base.proofs.inputs.listed_table_file.Goals as goal

pub returns : goal.returns
unfolding listed_table_of
returns g c =
    let path = string_bytes c.args.path in
    let stopped : StopOf → Result (List ℕ) StopOf = λ stop. Err stop in
    let stop = stop_at (layer_file path) in
    IfSome_then (g.I.Inputs.places c.args.inputs.now) c.in-Err.ensures
    (λ places is other.
    ap (λ (bytes : Result (List ℕ) StopOf). bytes >>= table_within (LayerApk c.args.layer) path)
    (ap (or_stop stop) (ap (λ (path : List ℕ). places (at_path path)) (sym c.as_str.ensures.value) ∙ is (λ want. other (c.stop_at.ensures ∙ ap stop want))) ∙ ap stopped (sym c.stop_at.ensures)))
