-- The open boxes of a look-up. (Cited by contracts of this crate alone.)
use Rattle.std.specs.Prelude.{ℕ, List, map}
use Rattle.cert_maker.specs.cert_checker.box_trace.declared.open_box.OpenBox.{OpenBox}
use Rattle.cert_maker.specs.cert_checker.box_trace.OpenBox.{IsReached}
use Rattle.cert_maker.specs.cert_checker.box_trace.TraceAmong.{trace_among}
use Rattle.reference_resolver.specs.overlay_map.Layer.{LayerOf}
use Rattle.reference_resolver.specs.overlay_map.Candidates.{cand_of}
use Rattle.reference_resolver.specs.Trace.{Trace}
use Rattle.stack_diff.specs.declared.look_up.LookUp.{LookUp}

-- what the candidates of a look-up do
abbrev pub trace_of_look_up : LookUp → List ℕ → Trace
trace_of_look_up look_up = trace_among (map cand_of look_up.candidates.items)

-- all members of a box have come by the same steps to where its walk along these candidates stands
abbrev pub IsOpenFor : List LayerOf → LookUp → OpenBox → Type 0
IsOpenFor stack look_up part = IsReached stack (trace_of_look_up look_up) part
