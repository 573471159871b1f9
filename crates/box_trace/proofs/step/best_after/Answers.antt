use Rattle.std.proofs.Common.{◌≡◌, refl, sym, ◌∙◌, ap, subst}
use Rattle.std.specs.Option.{option_map}
use Rattle.bags_themes.specs.overlay_map.Candidates.{cand_of}
use Rattle.bags_themes.specs.reference_resolver.Selection.{beats_best}
use Rattle.config_box.specs.box_answers.declared.sameness.Sameness.{Sameness}
use Rattle.config_box.specs.box_answers.declared.sameness.Sameness.TheVariants.{Mixed}
use Rattle.config_box.specs.box_answers.Sameness.{IsExact}
use Rattle.box_trace.specs.declared.parting.Asked.{Asked}
use Rattle.box_trace.specs.Live.{does_match}
use Rattle.box_trace.specs.Parting.{answer_of}
use Rattle.box_trace.proofs.AtCandidate.{matched, divides_matching, taken, divides_taking}
use Rattle.box_trace.proofs.Partings.{separates_alike}
use Rattle.box_trace.proofs.step.best_after.Goals as goal
use Rattle.box_trace.proofs.step.best_after.Goals.{in-Always, in_default}

pub returns-in-Mixed : goal.returns-in-Mixed
unfolding answer_of
returns-in-Mixed c =
    let members = c.args.members.now in
    let best = option_map cand_of c.args.best.now in
    let candidate = cand_of c.args.live.0 in
    elim c.match-matching.branch [
      | in-Always w ↦
          let is : w.is_best_beaten.result ≡ Mixed c.in-Mixed.yes c.in-Mixed.no c.in-Mixed.coord = ap (λ (a : Asked × Sameness). a.1) (sym w.asked-is) ∙ c.in-Mixed.is in
          let parts = subst (λ (s : Sameness). IsExact s members (beats_best best candidate)) is w.is_best_beaten.ensures in
          let all = subst (λ (s : Sameness). IsExact s members (does_match candidate)) w.in-Always.is c.matching.ensures in
          rw w.asked-is (record {
            best_before = refl;
            asked_of = refl;
            separates = separates_alike _ _ _ _ _ _ (λ d m. taken _ _ d (all d m)) parts;
            divides = divides_taking _ _ _ _ _ _ all parts;
          })
      | in_default w ↦
          let is : c.matching.result ≡ Mixed c.in-Mixed.yes c.in-Mixed.no c.in-Mixed.coord = ap (λ (a : Asked × Sameness). a.1) (sym w.asked-is) ∙ c.in-Mixed.is in
          let parts = subst (λ (s : Sameness). IsExact s members (does_match candidate)) is c.matching.ensures in
          rw w.asked-is (record {
            best_before = refl;
            asked_of = refl;
            separates = separates_alike _ _ _ _ _ _ (λ d m. matched _ _ d) parts;
            divides = divides_matching _ _ _ _ _ _ parts;
          })
    ]
