-- What a trace tells of the candidates that are ahead.
use Rattle.std.proofs.Common.{arith, ◌≡◌, ℕ, ◌<◌, Bool, List, [], ◌∷◌, map, length, get_or, Option, None, Some, inl, inr, sym, ◌∙◌, ap, refl, subst}
use Rattle.std.specs.Prelude.{IfSome, unwrap_or}
use Rattle.std.specs.List.{All}
use Rattle.std.proofs.lemmas.List.{length-map, get_or-map}
use Rattle.std.proofs.lemmas.List.Elements.{All-nil, All-cons, All-head, All-tail}
use Rattle.bags_themes.specs.overlay_map.Layer.{LayerOf}
use Rattle.bags_themes.specs.overlay_map.declared.candidate.Cand.{Cand}
use Rattle.bags_themes.specs.overlay_map.Candidates.{CandOf, cand_of}
use Rattle.bags_themes.specs.config_record.DeviceSeen.{device_numbers}
use Rattle.config_box.specs.box_answers.NumberSet.{SetOf}
use Rattle.config_box.specs.box_answers.Members.{IsMember}
use Rattle.config_box.specs.box_answers.Sameness.{Separates}
use Rattle.bags_themes.specs.reference_resolver.Selection.{step_of, best_after}
use Rattle.bags_themes.specs.reference_resolver.Trace.{Trace}
use Rattle.box_trace.specs.declared.walk.Walk.{Walk}
use Rattle.box_trace.specs.declared.parting.Parting.{Parting}
use Rattle.box_trace.specs.Division.{has_matched}
use Rattle.box_trace.specs.Live.{LiveOf, live_of, candidates_in, does_match, LeavesOut}
use Rattle.box_trace.specs.Parting.{answer_of, TraceTells, IsToldApart}
use Rattle.box_trace.specs.Walk.{rest_at, after_walk, best_at, live_ahead, HaveWalked, TellsMatches}
use Rattle.box_trace.proofs.AtCandidate.{matched}
use Rattle.box_trace.proofs.Rests.{behind_same, one_step, rest_same}
use Rattle.box_trace.proofs.Partings.{step_same}

-- two devices with the same rest match the same of the candidates ahead
rest_tells : (after : Option CandOf → List ℕ → Trace) (best : Option CandOf) (ahead : List CandOf) (d e : List ℕ) → rest_at after best ahead d ≡ rest_at after best ahead e
    → All (λ c. does_match c d ≡ does_match c e) ahead
rest_tells after best [] d e same = All-nil (λ c. does_match c d ≡ does_match c e)
rest_tells after best (c ∷ ahead) d e same =
    let step = step_of best c e in
    let does : step_of best c d ≡ step = step_same after best c ahead d e same in
    let next = best_after step best c in
    let further : rest_at after next ahead d ≡ rest_at after next ahead e =
    behind_same (step ∷ []) (rest_at after next ahead d) (rest_at after next ahead e) (sym (one_step after best c ahead step d does) ∙ same ∙ one_step after best c ahead step e refl) in
    All-cons (λ k. does_match k d ≡ does_match k e) c ahead (sym (matched best c d) ∙ ap has_matched does ∙ matched best c e) (rest_tells after next ahead d e further)

-- what holds of all candidates holds of those that are kept
all_kept : (members : List ℕ → Type 0) (P : CandOf → Type 0) (all kept : List CandOf) → LeavesOut members all kept → All P all → All P kept
all_kept members P [] [] l h = h
all_kept members P [] (k ∷ kept) l h = absurd (l)
all_kept members P (c ∷ all) [] l h = All-nil P
all_kept members P (c ∷ all) (k ∷ kept) (inl l) h = all_kept members P all (k ∷ kept) l.1 (All-tail P c all h)
all_kept members P (c ∷ all) (k ∷ kept) (inr l) h = All-cons P k kept (subst P l.0 (All-head P c all h)) (all_kept members P all kept l.1 (All-tail P c all h))

of_live : (P : CandOf → Type 0) (live : List LiveOf) → All P (candidates_in live) → All (λ l. P l.candidate) live
of_live P [] h = All-nil (λ l. P l.candidate)
of_live P (l ∷ live) h = All-cons (λ k. P k.candidate) l live (All-head P l.candidate (candidates_in live) h) (of_live P live (All-tail P l.candidate (candidates_in live) h))

pub walk_tells : (stack : List LayerOf) (members : List ℕ → Type 0) (trace : List ℕ → Trace) (walk : Walk) → HaveWalked stack members trace walk → TellsMatches members trace walk
walk_tells stack members trace walk walked = λ k z within d e md me same.
    let rest = rest_at (after_walk stack walk) (best_at walk) walked.ahead in
    let alike = rest_tells (after_walk stack walk) (best_at walk) walked.ahead d e (rest_same members trace rest d e walked.come md me same) in
    of_live (λ c. does_match c d ≡ does_match c e) (live_ahead walk)
    (all_kept members (λ c. does_match c d ≡ does_match c e) walked.ahead (candidates_in (live_ahead walk)) walked.left_out alike) k z within

-- ---- a question whether one of them matches

pub told_ahead : (sets : List SetOf) (trace : List ℕ → Trace) (items : List (Cand × Bool)) (live : List LiveOf) (k : ℕ) (x : Cand × Bool) (parting : Parting) → map live_of items ≡ live → k < length items → x ≡ get_or items k x
    → All (λ l. TraceTells (IsMember sets) trace (does_match l.candidate)) live → Separates sets (answer_of parting) (device_numbers parting.pair.yes) (device_numbers parting.pair.no) parting.pair.coord
    → ((d : List ℕ) → answer_of parting d ≡ does_match (cand_of x.0) d) → IsToldApart parting sets trace
told_ahead sets trace items live k x parting all within is told separates asks =
    let IsTold : LiveOf → Type 0 = λ l. TraceTells (IsMember sets) trace (does_match l.candidate) in
    let here : get_or (map live_of items) k (live_of x) ≡ live_of x = get_or-map live_of items k x (live_of x) within ∙ ap live_of (sym is) in
    let tells : IsTold (live_of x) = subst IsTold here (subst (All IsTold) (sym all) told k (live_of x) (omega (arith, within, length-map items live_of))) in
    record {
      separates = separates;
      trace_tells = λ d e md me same. asks d ∙ tells d e md me same ∙ sym (asks e);
    }

pub if_both : {A : Type 0} (P Q R : A → Type 0) → ((a : A) → P a → Q a → R a) → (r : Option A) → IfSome r P → IfSome r Q → IfSome r R
if_both P Q R f None p q = tt
if_both P Q R f (Some a) p q = f a p q

-- one that is told, or the first
pub told_or_first : (sets : List SetOf) (trace : List ℕ → Trace) (found : Option Parting) (first : Parting) → IfSome found (λ parting. IsToldApart parting sets trace) → IsToldApart first sets trace → IsToldApart (unwrap_or found first) sets trace
told_or_first sets trace None first told first_told = first_told
told_or_first sets trace (Some parting) first told first_told = told
