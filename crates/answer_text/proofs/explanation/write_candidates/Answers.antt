use Rattle.std.proofs.Common.{◌≡◌, ℕ, ◌+◌, List, ◌∷◌, Option, length, sym, ap, subst, ◌∙◌, arith}
use Rattle.std.specs.Io.KnownBytes.{Appends}
use Rattle.std.specs.List.{enumerate_from}
use Rattle.std.specs.Option.{option_map}
use Rattle.contract_words.proofs.TextSteps.{PutsAllBut-done, PutsAllBut-next}
use Rattle.bags_themes.specs.config_record.DeviceSeen.{device_numbers}
use Rattle.bags_themes.specs.overlay_map.Candidates.{CandOf, cand_of}
use Rattle.bags_themes.specs.reference_resolver.declared.decision.Decision.{Decision}
use Rattle.bags_themes.specs.reference_resolver.declared.step.Step.{Step}
use Rattle.bags_themes.specs.reference_resolver.Selection.{best_after, scan_candidates, step_of}
use Rattle.bags_themes.specs.reference_resolver.Trace.{TracedCandidateOf, traced}
use Rattle.answer_text.specs.ExplainText.{candidate_line, candidate_lines}
use Rattle.answer_text.proofs.explanation.write_candidates.Goals as goal

next-lines : (d : List ℕ) (place : ℕ) (best after : Option CandOf) (left others : List CandOf) (seen : CandOf) → left ≡ seen ∷ others → after ≡ best_after (step_of best seen d) best seen
    → enumerate_from place (scan_candidates traced best left d) ≡ (place, traced best seen d) ∷ enumerate_from (place + 1) (scan_candidates traced after others d)
next-lines d place best after left others seen split is =
    let behind : Option CandOf → List (ℕ × TracedCandidateOf) = λ b. (place, traced best seen d) ∷ enumerate_from (place + 1) (scan_candidates traced b others d) in
    ap (λ (candidates : List CandOf). enumerate_from place (scan_candidates traced best candidates d)) split ∙ ap behind (sym is)

pub loop-candidate-preserved : goal.loop-candidate-preserved
loop-candidate-preserved g c =
    let contents = g.W.Write.contents in
    let d = device_numbers c.args.device.now in
    let l = c.loop-candidate in
    let best = option_map cand_of l.best in
    let seen = cand_of c.in-Some.candidate in
    let after : option_map cand_of c.best_after-best.result ≡ best_after (step_of best seen d) best seen =
    c.best_after-best.ensures ∙ ap (λ (step : Step). best_after step best seen) (c.step.ensures ∙ c.of-decision.ensures.step) in
    record {
      can = tt;
      ends = tt;
      texts =
          PutsAllBut-next candidate_line _ _ _ _ _ _ _ l.invariant.texts (next-lines d l.place best _ _ _ seen c.in-Some.ensures.steps after)
          (subst (λ (decision : Decision). Appends (contents l.out) (contents c.write_candidate.new.out) (candidate_line (l.place, record { candidate = seen; decision = decision })))
          c.of-decision.ensures.value c.in_ok-write_candidate.ensures);
      few = omega (arith, l.invariant.few, ap length c.in-Some.ensures.steps);
    }

pub returns : goal.returns
unfolding candidate_lines
returns g c =
    let d = device_numbers c.args.device.now in
    let l = c.loop-candidate in
    PutsAllBut-done _ _ _ _ _ l.invariant.texts (ap (λ (others : List CandOf). enumerate_from l.place (scan_candidates traced (option_map cand_of l.best) others d)) c.in-None.ensures.steps.0)
