-- How lines are put one behind the other.
use Rattle.std.proofs.Common.{◌≡◌, ℕ, ◌+◌, ◌<◌, Bool, true, false, List, [], ◌∷◌, ◌++◌, length, map, filter, drop, get_or, Option, sym, ap, ◌∙◌, append_assoc}
use Rattle.std.proofs.lemmas.List.{drop_more}
use Rattle.std.specs.Prelude.{if◌then◌else◌}
use Rattle.answer_text.specs.overlay_map.Candidates.{CandOf}
use Rattle.reference_resolver.specs.Selection.{best_after, scan_candidates, step_of}
use Rattle.reference_resolver.specs.Trace.{TracedCandidateOf, traced}

-- ---- the items that are shown

module _ {X A B : Type 0} (line : A → B) (shown : A → Bool) (seen : X → A) (xs : List X) (place : ℕ) (x : X) where
  split : place < length xs → x ≡ get_or xs place x → drop place xs ≡ x ∷ drop (place + 1) xs
  split on is = drop_more xs place x on ∙ ap (λ (y : X). y ∷ drop (place + 1) xs) (sym is)

  pub shown-next : (old more all : List B) → place < length xs → x ≡ get_or xs place x → old ++ map line (filter shown (map seen (drop place xs))) ≡ all → shown (seen x) ≡ true → more ≡ old ++ line (seen x) ∷ []
      → more ++ map line (filter shown (map seen (drop (place + 1) xs))) ≡ all
  shown-next old more all on is before says put =
      let left = filter shown (map seen (drop (place + 1) xs)) in
      ap (λ (ys : List B). ys ++ map line left) put
      ∙ append_assoc old (line (seen x) ∷ []) (map line left)
      ∙ ap (λ (b : Bool). old ++ map line (if b then seen x ∷ left else left)) (sym says)
      ∙ ap (λ (ys : List X). old ++ map line (filter shown (map seen ys))) (sym (split on is))
      ∙ before

  pub hidden-next : (old more all : List B) → place < length xs → x ≡ get_or xs place x → old ++ map line (filter shown (map seen (drop place xs))) ≡ all → shown (seen x) ≡ false → more ≡ old
      → more ++ map line (filter shown (map seen (drop (place + 1) xs))) ≡ all
  hidden-next old more all on is before says same =
      let left = filter shown (map seen (drop (place + 1) xs)) in
      ap (λ (ys : List B). ys ++ map line left) same
      ∙ ap (λ (b : Bool). old ++ map line (if b then seen x ∷ left else left)) (sym says)
      ∙ ap (λ (ys : List X). old ++ map line (filter shown (map seen ys))) (sym (split on is))
      ∙ before

-- ---- candidates

pub traced-next : (d : List ℕ) (best after : Option CandOf) (left others : List CandOf) (seen : CandOf) (old more all : List TracedCandidateOf) → old ++ scan_candidates traced best left d ≡ all → left ≡ seen ∷ others
    → after ≡ best_after (step_of best seen d) best seen → more ≡ old ++ traced best seen d ∷ [] → more ++ scan_candidates traced after others d ≡ all
traced-next d best after left others seen old more all before is after_is put =
    let first = traced best seen d in
    ap (λ (ts : List TracedCandidateOf). ts ++ scan_candidates traced after others d) put
    ∙ append_assoc old (first ∷ []) (scan_candidates traced after others d)
    ∙ ap (λ (b : Option CandOf). old ++ first ∷ scan_candidates traced b others d) after_is
    ∙ ap (λ (cs : List CandOf). old ++ scan_candidates traced best cs d) (sym is)
    ∙ before
