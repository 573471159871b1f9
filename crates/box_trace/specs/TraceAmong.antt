-- The trace of some candidates alone.
use Rattle.std.specs.Prelude.{ℕ, List, None}
use Rattle.bags_themes.specs.AttributeTrace.{behind, ended}
use Rattle.bags_themes.specs.overlay_map.Candidates.{CandOf}
use Rattle.bags_themes.specs.reference_resolver.declared.end.End.TheVariants.{Absent}
use Rattle.bags_themes.specs.reference_resolver.Selection.{step_of, scan_candidates}
use Rattle.bags_themes.specs.reference_resolver.Trace.{Trace}

-- what each of them does, and nothing behind that
unfoldable pub trace_among : List CandOf → List ℕ → Trace
trace_among candidates d = behind (scan_candidates step_of None candidates d) (ended (Absent (record { 0 = 0 })))
