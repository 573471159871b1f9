-- The boxes of open paths.
use Rattle.std.proofs.Common.{◌≡◌, ℕ, List, [], ◌∷◌, ◌++◌, sym, ◌∙◌, ap, refl, subst}
use Rattle.std.proofs.lemmas.List.{map-append}
use Rattle.bags_themes.specs.overlay_map.Layer.{LayerOf}
use Rattle.bags_themes.specs.reference_resolver.Trace.{Trace}
use Rattle.config_box.specs.box_answers.NumberSet.{SetOf}
use Rattle.box_trace.specs.declared.common.CommonTrace.{CommonTrace}
use Rattle.box_trace.specs.declared.common.CommonTrace.TheVariants.{Mixed}
use Rattle.box_trace.specs.declared.parting.Parting.{Parting}
use Rattle.box_trace.specs.declared.walk.Walk.{Walk}
use Rattle.box_trace.specs.declared.open_box.OpenBox.{OpenBox}
use Rattle.box_trace.specs.Live.{candidates_in}
use Rattle.box_trace.specs.Walk.{rest_at, after_walk, best_at, live_ahead}
use Rattle.box_trace.specs.CommonTrace.{IsCommonTrace}
use Rattle.box_trace.specs.Parting.{IsToldApart, IsParting}
use Rattle.box_trace.specs.OpenBox.{boxes_of, IsReached}
use Rattle.box_trace.proofs.LeftOut.{none_left_out}
use Rattle.box_trace.proofs.Rests.{come_nowhere}

pub boxes-push : (before after : List OpenBox) (part : OpenBox) → after ≡ before ++ part ∷ [] → boxes_of after ≡ boxes_of before ++ part.members ∷ []
boxes-push before after part e = ap boxes_of e ∙ map-append (λ (p : OpenBox). p.members) before (part ∷ [])

-- what lies ahead of a walk, if its list leaves out nothing
abbrev pub rest_of : List LayerOf → Walk → List ℕ → Trace
rest_of stack walk d = rest_at (after_walk stack walk) (best_at walk) (candidates_in (live_ahead walk)) d

pub reached_there : (stack : List LayerOf) (part : OpenBox) → IsReached stack (rest_of stack part.walk) part
reached_there stack part = record { ahead = candidates_in (live_ahead part.walk); come = come_nowhere _ _ _ (λ d. refl); left_out = none_left_out _ _ }

-- A question that is told in place of the first at which members part. The box has the same members all along.
pub told_in_place : (trace : List ℕ → Trace) (common : CommonTrace) (first parting : Parting) (old new last : List SetOf) → common ≡ Mixed first → new ≡ old → last ≡ new → IsCommonTrace common old trace
    → (IsToldApart first new trace → IsToldApart parting new trace) → IsToldApart parting last trace
told_in_place trace common first parting old new last is same_new same_last parts told =
    let parted : IsParting first old trace = subst (λ (k : CommonTrace). IsCommonTrace k old trace) is parts in
    subst (λ (sets : List SetOf). IsToldApart parting sets trace) (sym same_last) (told (subst (λ (sets : List SetOf). IsToldApart first sets trace) (sym same_new) parted.told))
