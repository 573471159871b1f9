-- Whether a candidate beats the best so far, by the way that its code takes.
use Rattle.std.proofs.Common.{◌≡◌, ℕ, List, Bool, true, false, ◌&&◌, ◌||◌, ap, sym, ◌∙◌}
use Rattle.config_precedence.specs.Precedence.{is_better}
use Rattle.config_precedence.specs.EqualRecord.{is_same}
use Rattle.overlay_map.specs.Candidates.{CandOf}
use Rattle.reference_resolver.specs.Selection.{beats}

pub beats_better : (candidate best : CandOf) (d : List ℕ) (better : Bool) → better ≡ true → better ≡ is_better candidate.row.config best.row.config d
    → better ≡ beats candidate best d
unfolding beats
beats_better candidate best d better wins is =
    wins ∙ ap (λ (b : Bool). b || (candidate.overlay && is_same candidate.row.config best.row.config)) (sym wins ∙ is)

pub beats_base : (candidate best : CandOf) (d : List ℕ) (better : Bool) → better ≡ false → better ≡ is_better candidate.row.config best.row.config d
    → candidate.overlay ≡ false → candidate.overlay ≡ beats candidate best d
unfolding beats
beats_base candidate best d better loses is base =
    let equal : Bool = is_same candidate.row.config best.row.config in
    base ∙ ap (λ (o : Bool). o && equal) (sym base) ∙ ap (λ (b : Bool). b || (candidate.overlay && equal)) (sym loses ∙ is)

pub beats_overlay : (candidate best : CandOf) (d : List ℕ) (better equal : Bool) → better ≡ false → better ≡ is_better candidate.row.config best.row.config d
    → candidate.overlay ≡ true → equal ≡ is_same candidate.row.config best.row.config → equal ≡ beats candidate best d
unfolding beats
beats_overlay candidate best d better equal loses is overlay same =
    let equal_record : Bool = is_same candidate.row.config best.row.config in
    same ∙ ap (λ (o : Bool). o && equal_record) (sym overlay) ∙ ap (λ (b : Bool). b || (candidate.overlay && equal_record)) (sym loses ∙ is)
