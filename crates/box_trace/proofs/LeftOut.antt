-- Candidates that are left out of a list.
use Rattle.std.proofs.Common.{ℕ, false, List, [], ◌∷◌, ◌++◌, inl, inr, sym, ◌∙◌, refl, subst}
use Rattle.bags_themes.specs.overlay_map.Candidates.{CandOf}
use Rattle.config_box.specs.box_answers.MemberAnswers.{AllAnswer}
use Rattle.box_trace.specs.Live.{does_match, LeavesOut}

pub none_left_out : (members : List ℕ → Type 0) (candidates : List CandOf) → LeavesOut members candidates candidates
none_left_out members [] = tt
none_left_out members (candidate ∷ candidates) = inr (refl, none_left_out members candidates)

-- of fewer members
pub left_out_fewer : (members fewer : List ℕ → Type 0) → ((d : List ℕ) → fewer d → members d) → (all kept : List CandOf) → LeavesOut members all kept → LeavesOut fewer all kept
left_out_fewer members fewer into [] [] l = tt
left_out_fewer members fewer into [] (k ∷ kept) l = l
left_out_fewer members fewer into (c ∷ all) [] l = ((λ d m. l.0 d (into d m)), left_out_fewer members fewer into all [] l.1)
left_out_fewer members fewer into (c ∷ all) (k ∷ kept) (inl l) = inl ((λ d m. l.0 d (into d m)), left_out_fewer members fewer into all (k ∷ kept) l.1)
left_out_fewer members fewer into (c ∷ all) (k ∷ kept) (inr l) = inr (l.0, left_out_fewer members fewer into all kept l.1)

-- one candidate more is kept out
pub leave_last : (members : List ℕ → Type 0) (all kept : List CandOf) (c : CandOf) → AllAnswer members (does_match c) false → LeavesOut members all kept → LeavesOut members (all ++ c ∷ []) kept
leave_last members [] [] c none l = (none, tt)
leave_last members [] (k ∷ kept) c none l = absurd (l)
leave_last members (b ∷ all) [] c none l = (l.0, leave_last members all [] c none l.1)
leave_last members (b ∷ all) (k ∷ kept) c none (inl l) = inl (l.0, leave_last members all (k ∷ kept) c none l.1)
leave_last members (b ∷ all) (k ∷ kept) c none (inr l) = inr (l.0, leave_last members all kept c none l.1)

-- one more is kept
pub keep_last : (members : List ℕ → Type 0) (all kept : List CandOf) (c : CandOf) → LeavesOut members all kept → LeavesOut members (all ++ c ∷ []) (kept ++ c ∷ [])
keep_last members [] [] c l = inr (refl, tt)
keep_last members [] (k ∷ kept) c l = absurd (l)
keep_last members (b ∷ all) [] c l = inl (l.0, keep_last members all [] c l.1)
keep_last members (b ∷ all) (k ∷ kept) c (inl l) = inl (l.0, keep_last members all (k ∷ kept) c l.1)
keep_last members (b ∷ all) (k ∷ kept) c (inr l) = inr (l.0, keep_last members all kept c l.1)

-- of what is kept others are left out
pub left_out_over : (members : List ℕ → Type 0) (all some few : List CandOf) → LeavesOut members all some → LeavesOut members some few → LeavesOut members all few
left_out_over members [] [] few l r = r
left_out_over members [] (b ∷ some) few l r = absurd (l)
left_out_over members (a ∷ all) [] [] l r = (l.0, left_out_over members all [] [] l.1 r)
left_out_over members (a ∷ all) [] (k ∷ few) l r = absurd (r)
left_out_over members (a ∷ all) (b ∷ some) [] (inl l) r = (l.0, left_out_over members all (b ∷ some) [] l.1 r)
left_out_over members (a ∷ all) (b ∷ some) [] (inr l) r = (subst (λ (c : CandOf). AllAnswer members (does_match c) false) (sym l.0) r.0, left_out_over members all some [] l.1 r.1)
left_out_over members (a ∷ all) (b ∷ some) (k ∷ few) (inl l) r = inl (l.0, left_out_over members all (b ∷ some) (k ∷ few) l.1 r)
left_out_over members (a ∷ all) (b ∷ some) (k ∷ few) (inr l) (inl r) = inl (subst (λ (c : CandOf). AllAnswer members (does_match c) false) (sym l.0) r.0, left_out_over members all some (k ∷ few) l.1 r.1)
left_out_over members (a ∷ all) (b ∷ some) (k ∷ few) (inr l) (inr r) = inr (l.0 ∙ r.0, left_out_over members all some few l.1 r.1)
