use Rattle.std.proofs.Common.{◌≡◌, map, drop, None}
use Rattle.std.specs.Option.{option_map}
use Rattle.config_precedence.specs.config_record.DeviceSeen.{device_numbers}
use Rattle.overlay_map.specs.Candidates.{cand_of}
use Rattle.reference_resolver.specs.Selection.{step_of, scan_candidates}
use Rattle.reference_resolver.specs.Takers.{last_place, places_taken}
use Rattle.reference_resolver.proofs.selection.picked_at.Given as goal

-- from the place so far, what is left of the candidates leads to that of the best of all
abbrev pub invariant-loop-place : goal.invariant-loop-place
invariant-loop-place l =
    last_place l.picked (places_taken l.place (scan_candidates step_of (option_map cand_of l.best) (map cand_of (drop l.place l.candidates)) (device_numbers l.device)))
    ≡ last_place None (places_taken 0 (scan_candidates step_of None (map cand_of l.candidates) (device_numbers l.device)))
