use Rattle.std.proofs.Common.{◌++◌, List, map, append-nil, sym, ap, ◌∙◌}
use Rattle.std.specs.Prelude.{filter}
use Rattle.std.proofs.lemmas.List.{map-append}
use Rattle.reference_resolver.specs.overlay_map.declared.candidate.Cand.{Cand}
use Rattle.reference_resolver.specs.overlay_map.Candidates.{CandOf, cand_of}
use Rattle.stack_diff.specs.LayersSeen.{is_kept}
use Rattle.stack_diff.proofs.BareStack.{kept-candidates, keep-one, leave-one}
use Rattle.stack_diff.proofs.look_up.candidates_among.Goals as goal

pub loop-candidate-init : goal.loop-candidate-init
loop-candidate-init c = record {
  can = tt;
  ends = tt;
  left =
      ap (λ (found : List Cand). map cand_of found ++ filter (is_kept c.args.among) c.into_iter-candidate-iterator.result) c.new-candidates.ensures.items
      ∙ ap (filter (is_kept c.args.among)) (c.into_iter-candidate-iterator.ensures.into_iter_gives ∙ c.candidates-candidate-items.ensures.candidates);
}

pub loop-candidate-preserved-in-Continue-1 : goal.loop-candidate-preserved-in-Continue-1
loop-candidate-preserved-in-Continue-1 c = record {
  can = tt;
  ends = tt;
  left =
      keep-one (is_kept c.args.among) _ _ _ _ _ _ c.in-Some.ensures.steps (sym c.is_kept.ensures ∙ c.if-is_kept.true) (ap (map cand_of) c.in_ok-push.ensures.items ∙ map-append cand_of _ _)
      c.loop-candidate.invariant.left;
}

pub loop-candidate-preserved : goal.loop-candidate-preserved
loop-candidate-preserved c = record { can = tt; ends = tt; left = leave-one (is_kept c.args.among) _ _ _ _ _ c.in-Some.ensures.steps (sym c.is_kept.ensures ∙ c.if-is_kept.false) c.loop-candidate.invariant.left }

pub returns : goal.returns
returns c =
    sym (append-nil (map cand_of c.loop-candidate.candidates.items)) ∙ ap (λ (left : List CandOf). map cand_of c.loop-candidate.candidates.items ++ filter (is_kept c.args.among) left) (sym c.in-None.ensures.steps.0)
    ∙ c.loop-candidate.invariant.left ∙ kept-candidates c.args.among c.args.stack.now c.args.id.0
