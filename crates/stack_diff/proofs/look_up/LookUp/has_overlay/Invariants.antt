use Rattle.std.proofs.Common.{◌≡◌, map, drop}
use Rattle.std.specs.List.{list_any}
use Rattle.reference_resolver.specs.overlay_map.Candidates.{cand_of}
use Rattle.stack_diff.proofs.look_up.LookUp.has_overlay.Given as goal

abbrev pub invariant-loop-candidate : goal.invariant-loop-candidate
invariant-loop-candidate l = list_any (λ candidate. candidate.overlay) (map cand_of (drop l.candidate-index l.candidate-items)) ≡ list_any (λ candidate. candidate.overlay) (map cand_of l.candidate-items)
