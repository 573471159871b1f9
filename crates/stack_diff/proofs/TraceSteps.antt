-- Devices with the same steps select the same, look-up by look-up.
use Rattle.std.proofs.Common.{◌≡◌, ◌<◌, ℕ, zero, suc, ◌-◌, ◌==◌, true, false, List, [], ◌∷◌, ◌++◌, inl, inr, Some, None, refl, sym, ap, subst, ◌∙◌, append_assoc, arith}
use Rattle.std.specs.Prelude.{Option, Result, Ok, Err}
use Rattle.std.proofs.lemmas.Bool.{cases_Bool}
use Rattle.contract_words.specs.Faults.{◌>>=◌}
use Rattle.contract_words.specs.Sequences.{with_front}
use Rattle.answer_text.specs.res_value.declared.res_id.ResId.{ResId}
use Rattle.answer_text.specs.overlay_map.Layer.{LayerOf}
use Rattle.answer_text.specs.overlay_map.Candidates.{CandOf, candidates_of}
use Rattle.answer_text.specs.reference_resolver.declared.step.Step.{Step}
use Rattle.answer_text.specs.reference_resolver.declared.end.End.{End}
use Rattle.answer_text.specs.reference_resolver.declared.end.End.TheVariants as ends
use Rattle.answer_text.specs.reference_resolver.declared.next.Next.{Next}
use Rattle.answer_text.specs.reference_resolver.declared.next.Next.TheVariants as nexts
use Rattle.answer_text.specs.reference_resolver.Selection.{selected, step_of, best_after, best_of, scan_candidates}
use Rattle.answer_text.specs.reference_resolver.Ends.{references_followed, next_of, cut_off, next_within, end_of}
use Rattle.answer_text.specs.reference_resolver.Trace.{Trace, scan_look_up, scan_chain, look_ups_of}
use Rattle.answer_text.specs.bag_rows.declared.bag_row.BagRow.{BagRow}
use Rattle.answer_text.specs.bags_themes.declared.bag_fault.BagFault.{BagFault}
use Rattle.answer_text.specs.bags_themes.Bag.{FoundBagOf, bag_in, parent_of, chain_of, most_parents, merged, bag_of}
use Rattle.answer_text.specs.bags_themes.BagIds.{most_bags, ids_after}
use Rattle.answer_text.specs.bags_themes.AttributeTrace.{steps_of_ids}
use Rattle.answer_text.specs.bags_themes.ContentTrace.{ids_behind, content_trace}
use Rattle.answer_text.proofs.bags_themes_proofs.ChainSteps.{chain_of-top, chain_of-deep, chain_of-next}
use Rattle.answer_text.proofs.bags_themes_proofs.ContentCourses.{bag_here, bag_before}
use Rattle.answer_text.proofs.reference_resolver.Chains.{ends_within, goes_on_within}
use Rattle.answer_text.specs.ContentAt.{bag_content, end_content, content_at}
use Rattle.stack_diff.specs.TraceLaw.{TraceTellsContent}

-- ---- one look-up

heads : (a b : Step) (xs ys : List Step) → a ∷ xs ≡ b ∷ ys → (a ≡ b) × (xs ≡ ys)
heads a b xs ys e = (cc, cc)

abbrev ToldBest : List CandOf → List ℕ → List ℕ → List Step → List Step → Option CandOf → Type 0
ToldBest candidates d e xs ys best =
    scan_candidates step_of best candidates d ++ xs ≡ scan_candidates step_of best candidates e ++ ys
    → (best_of best candidates d ≡ best_of best candidates e) × (xs ≡ ys)

best_by : (candidate : CandOf) (candidates : List CandOf) (d e : List ℕ) (xs ys : List Step) (best : Option CandOf) (s t : Step) → s ≡ t → ToldBest candidates d e xs ys (best_after s best candidate)
    → scan_candidates step_of (best_after s best candidate) candidates d ++ xs ≡ scan_candidates step_of (best_after t best candidate) candidates e ++ ys
    → (best_of (best_after s best candidate) candidates d ≡ best_of (best_after t best candidate) candidates e) × (xs ≡ ys)
best_by candidate candidates d e xs ys best s t is above rest =
    let told = above (rest ∙ ap (λ (u : Step). scan_candidates step_of (best_after u best candidate) candidates e ++ ys) (sym is)) in
    (told.0 ∙ ap (λ (u : Step). best_of (best_after u best candidate) candidates e) is, told.1)

best_told : (candidates : List CandOf) (d e : List ℕ) (xs ys : List Step) (best : Option CandOf) → ToldBest candidates d e xs ys best
best_told [] d e xs ys best same = (refl, same)
best_told (candidate ∷ candidates) d e xs ys best same =
    let first = heads (step_of best candidate d) (step_of best candidate e)
    (scan_candidates step_of (best_after (step_of best candidate d) best candidate) candidates d ++ xs)
    (scan_candidates step_of (best_after (step_of best candidate e) best candidate) candidates e ++ ys) same in
    best_by candidate candidates d e xs ys best (step_of best candidate d) (step_of best candidate e) first.0
    (best_told candidates d e xs ys (best_after (step_of best candidate d) best candidate)) first.1

pub selected_told : (stack : List LayerOf) (id : ℕ) (d e : List ℕ) (xs ys : List Step)
    → scan_look_up step_of stack d id ++ xs ≡ scan_look_up step_of stack e id ++ ys
    → (selected stack id d ≡ selected stack id e) × (xs ≡ ys)
unfolding selected
selected_told stack id d e xs ys same = best_told (candidates_of stack id) d e xs ys None same

-- ---- references

-- what is told of a chain of references, behind which these steps stand
record ToldChain (stack : List LayerOf) (left id : ℕ) (d e : List ℕ) (xs ys : List Step) : Type 0 where
  end : end_of stack left id d ≡ end_of stack left id e
  behind : xs ≡ ys
  bag : (bag : ResId) → end_of stack left id d ≡ ends.Bag bag → selected stack bag.0 d ≡ selected stack bag.0 e

-- of its first look-up, where these follow
first_told : (stack : List LayerOf) (left id : ℕ) (d e others more : List ℕ) (xs ys : List Step)
    → look_ups_of stack left id d ≡ id ∷ others → look_ups_of stack left id e ≡ id ∷ more
    → scan_chain step_of stack left id d ++ xs ≡ scan_chain step_of stack left id e ++ ys
    → (selected stack id d ≡ selected stack id e) × (steps_of_ids stack d others ++ xs ≡ steps_of_ids stack e more ++ ys)
first_told stack left id d e others more xs ys at_d at_e same =
    selected_told stack id d e (steps_of_ids stack d others ++ xs) (steps_of_ids stack e more ++ ys)
    (sym (append_assoc (scan_look_up step_of stack d id) (steps_of_ids stack d others) xs)
    ∙ sym (ap (λ (ids : List ℕ). steps_of_ids stack d ids ++ xs) at_d)
    ∙ same
    ∙ ap (λ (ids : List ℕ). steps_of_ids stack e ids ++ ys) at_e
    ∙ append_assoc (scan_look_up step_of stack e id) (steps_of_ids stack e more) ys)

abbrev Told : List LayerOf → ℕ → ℕ → List ℕ → List ℕ → Type 0
Told stack left id d e =
    (xs ys : List Step) → scan_chain step_of stack left id d ++ xs ≡ scan_chain step_of stack left id e ++ ys → ToldChain stack left id d e xs ys

told_by : (stack : List LayerOf) (left id : ℕ) (d e : List ℕ) (next other : Next)
    → next_within stack left id d ≡ next → next_within stack left id e ≡ other
    → ((target : ℕ) → 0 < left → Told stack (left - 1) target d e) → Told stack left id d e
told_by stack left id d e (nexts.EndsAt end) (nexts.EndsAt other) at_d at_e above xs ys same =
    let a = ends_within stack left id d end at_d in
    let b = ends_within stack left id e other at_e in
    let told = first_told stack left id d e [] [] xs ys a.1 b.1 same in
    let leads : nexts.EndsAt end ≡ nexts.EndsAt other = sym at_d ∙ ap (λ (best : Option CandOf). cut_off left (next_of id best)) told.0 ∙ at_e in
    let one : end ≡ other = cc in
    record {
      end = a.0 ∙ one ∙ sym b.0;
      behind = told.1;
      bag = λ bag is.
          let here : nexts.EndsAt end ≡ nexts.EndsAt (ends.Bag bag) = ap nexts.EndsAt (sym a.0 ∙ is) in
          let own = bag_here id (selected stack id d) bag (bag_before left (next_of id (selected stack id d)) bag (at_d ∙ here)) in
          subst (λ (i : ℕ). selected stack i d ≡ selected stack i e) own told.0;
    }
told_by stack left id d e (nexts.LookUp target) (nexts.LookUp other) at_d at_e above xs ys same =
    let a = goes_on_within stack left id d target at_d in
    let b = goes_on_within stack left id e other at_e in
    let told = first_told stack left id d e (look_ups_of stack (left - 1) target.0 d) (look_ups_of stack (left - 1) other.0 e) xs ys a.2 b.2 same in
    let leads : nexts.LookUp target ≡ nexts.LookUp other = sym at_d ∙ ap (λ (best : Option CandOf). cut_off left (next_of id best)) told.0 ∙ at_e in
    let one : other ≡ target = cc in
    let rest = above target.0 a.0 xs ys (told.1 ∙ ap (λ (t : ResId). scan_chain step_of stack (left - 1) t.0 e ++ ys) one) in
    record {
      end = a.1 ∙ rest.end ∙ ap (λ (t : ResId). end_of stack (left - 1) t.0 e) (sym one) ∙ sym b.1;
      behind = rest.behind;
      bag = λ bag is. rest.bag bag (sym a.1 ∙ is);
    }
told_by stack left id d e (nexts.EndsAt end) (nexts.LookUp other) at_d at_e above xs ys same =
    let a = ends_within stack left id d end at_d in
    let b = goes_on_within stack left id e other at_e in
    let told = first_told stack left id d e [] (look_ups_of stack (left - 1) other.0 e) xs ys a.1 b.2 same in
    let leads : nexts.EndsAt end ≡ nexts.LookUp other = sym at_d ∙ ap (λ (best : Option CandOf). cut_off left (next_of id best)) told.0 ∙ at_e in
    absurd cc
told_by stack left id d e (nexts.LookUp target) (nexts.EndsAt end) at_d at_e above xs ys same =
    let a = goes_on_within stack left id d target at_d in
    let b = ends_within stack left id e end at_e in
    let told = first_told stack left id d e (look_ups_of stack (left - 1) target.0 d) [] xs ys a.2 b.1 same in
    let leads : nexts.LookUp target ≡ nexts.EndsAt end = sym at_d ∙ ap (λ (best : Option CandOf). cut_off left (next_of id best)) told.0 ∙ at_e in
    absurd cc

told_chain : (stack : List LayerOf) (left id : ℕ) (d e : List ℕ) → Told stack left id d e
told_chain stack zero id d e =
    told_by stack zero id d e (next_within stack zero id d) (next_within stack zero id e) refl refl (λ target some. absurd (omega arith))
told_chain stack (suc left) id d e =
    let less : left ≡ suc left - 1 = omega arith in
    told_by stack (suc left) id d e (next_within stack (suc left) id d) (next_within stack (suc left) id e) refl refl
    (λ target some. subst (λ (n : ℕ). Told stack n target d e) less (told_chain stack left target d e))

-- ---- the parents of a bag

-- the steps of those that are looked up behind what was found
abbrev SameParents : List LayerOf → ℕ → Result FoundBagOf BagFault → List ℕ → List ℕ → Type 0
SameParents stack left found d e = steps_of_ids stack d (ids_after stack left found d) ≡ steps_of_ids stack e (ids_after stack left found e)

abbrev SameChain : List LayerOf → ℕ → FoundBagOf → List ℕ → List ℕ → Type 0
SameChain stack left bag d e = chain_of stack left bag d ≡ chain_of stack left bag e

-- where this is what its parent is
chain_by_parent : (stack : List LayerOf) (left : ℕ) (bag : FoundBagOf) (d e : List ℕ) (found : Result FoundBagOf BagFault)
    → (bag.parent == 0) ≡ false → bag_in (selected stack bag.parent d) ≡ found → bag_in (selected stack bag.parent e) ≡ found
    → ((parent : FoundBagOf) → found ≡ Ok parent → 0 < left → SameChain stack (left - 1) parent d e) → SameChain stack left bag d e
chain_by_parent stack left bag d e (Err fault) has at_d at_e above =
    let none_d : parent_of stack bag d ≡ None = rw (has, at_d) refl in
    let none_e : parent_of stack bag e ≡ None = rw (has, at_e) refl in
    chain_of-top stack left bag d none_d ∙ sym (chain_of-top stack left bag e none_e)
chain_by_parent stack zero bag d e (Ok parent) has at_d at_e above =
    let some_d : parent_of stack bag d ≡ Some parent = rw (has, at_d) refl in
    let some_e : parent_of stack bag e ≡ Some parent = rw (has, at_e) refl in
    chain_of-deep stack zero bag parent d some_d refl ∙ sym (chain_of-deep stack zero bag parent e some_e refl)
chain_by_parent stack (suc left) bag d e (Ok parent) has at_d at_e above =
    let some_d : parent_of stack bag d ≡ Some parent = rw (has, at_d) refl in
    let some_e : parent_of stack bag e ≡ Some parent = rw (has, at_e) refl in
    let more : 0 < suc left = omega arith in
    chain_of-next stack (suc left) bag parent d some_d more
    ∙ ap (λ (chain : Result (List FoundBagOf) BagFault). with_front (bag ∷ []) chain) (above parent refl more)
    ∙ sym (chain_of-next stack (suc left) bag parent e some_e more)

parent_told : (stack : List LayerOf) (left : ℕ) (bag : FoundBagOf) (d e : List ℕ) → (bag.parent == 0) ≡ false → SameParents stack (suc left) (Ok bag) d e
    → (selected stack bag.parent d ≡ selected stack bag.parent e)
    × (steps_of_ids stack d (ids_after stack left (bag_in (selected stack bag.parent d)) d) ≡ steps_of_ids stack e (ids_after stack left (bag_in (selected stack bag.parent e)) e))
unfolding ids_after
parent_told stack left bag d e has same =
    selected_told stack bag.parent d e
    (steps_of_ids stack d (ids_after stack left (bag_in (selected stack bag.parent d)) d))
    (steps_of_ids stack e (ids_after stack left (bag_in (selected stack bag.parent e)) e))
    (rw has at same)

no_parents : (stack : List LayerOf) (left : ℕ) (bag : FoundBagOf) (d e : List ℕ) → (bag.parent == 0) ≡ true → SameChain stack left bag d e
no_parents stack left bag d e none =
    let none_d : parent_of stack bag d ≡ None = rw none refl in
    let none_e : parent_of stack bag e ≡ None = rw none refl in
    chain_of-top stack left bag d none_d ∙ sym (chain_of-top stack left bag e none_e)

chain_told : (stack : List LayerOf) (left : ℕ) (bag : FoundBagOf) (d e : List ℕ) → SameParents stack (suc left) (Ok bag) d e → SameChain stack left bag d e
chain_told stack zero bag d e same =
    elim (cases_Bool (bag.parent == 0)) [
      | inl none ↦ no_parents stack zero bag d e none
      | inr has ↦ (let told = parent_told stack zero bag d e has same in
          chain_by_parent stack zero bag d e (bag_in (selected stack bag.parent d)) has refl (sym (ap bag_in told.0)) (λ parent is some. absurd (omega arith)))
    ]
chain_told stack (suc left) bag d e same =
    elim (cases_Bool (bag.parent == 0)) [
      | inl none ↦ no_parents stack (suc left) bag d e none
      | inr has ↦ (let told = parent_told stack (suc left) bag d e has same in
          let at_e : bag_in (selected stack bag.parent e) ≡ bag_in (selected stack bag.parent d) = sym (ap bag_in told.0) in
          let less : left ≡ suc left - 1 = omega arith in
          chain_by_parent stack (suc left) bag d e (bag_in (selected stack bag.parent d)) has refl at_e
          (λ parent is some. subst (λ (n : ℕ). SameChain stack n parent d e) less (chain_told stack left parent d e (
          sym (ap (λ (found : Result FoundBagOf BagFault). steps_of_ids stack d (ids_after stack (suc left) found d)) is)
          ∙ told.1
          ∙ ap (λ (found : Result FoundBagOf BagFault). steps_of_ids stack e (ids_after stack (suc left) found e)) (at_e ∙ is)
          ))))
    ]

bag_by : (stack : List LayerOf) (id : ℕ) (d e : List ℕ) (found : Result FoundBagOf BagFault) → bag_in (selected stack id d) ≡ found → bag_in (selected stack id e) ≡ found
    → SameParents stack most_bags found d e → bag_of stack id d ≡ bag_of stack id e
unfolding bag_of
bag_by stack id d e (Err fault) at_d at_e same = rw (at_d, at_e) refl
bag_by stack id d e (Ok bag) at_d at_e same =
    rw (at_d, at_e) (ap (λ (chain : Result (List FoundBagOf) BagFault). chain >>= (λ bags. Ok (merged bags))) (chain_told stack most_parents bag d e same))

bag_told : (stack : List LayerOf) (id : ℕ) (d e : List ℕ) → selected stack id d ≡ selected stack id e
    → steps_of_ids stack d (ids_after stack most_bags (bag_in (selected stack id d)) d) ≡ steps_of_ids stack e (ids_after stack most_bags (bag_in (selected stack id e)) e)
    → bag_of stack id d ≡ bag_of stack id e
bag_told stack id d e one same =
    let at_e : bag_in (selected stack id e) ≡ bag_in (selected stack id d) = sym (ap bag_in one) in
    bag_by stack id d e (bag_in (selected stack id d)) refl at_e
    (same ∙ ap (λ (found : Result FoundBagOf BagFault). steps_of_ids stack e (ids_after stack most_bags found e)) at_e)

-- ---- contents

content_by : (stack : List LayerOf) (end : End) (d e : List ℕ) → ((bag : ResId) → end ≡ ends.Bag bag → selected stack bag.0 d ≡ selected stack bag.0 e)
    → steps_of_ids stack d (ids_behind stack end d) ≡ steps_of_ids stack e (ids_behind stack end e) → end_content stack end d ≡ end_content stack end e
content_by stack (ends.Value layer value) d e bag same = refl
content_by stack (ends.Bag id) d e bag same =
    ap (λ (rows : Result (List BagRow) BagFault). bag_content stack id.0 rows) (bag_told stack id.0 d e (bag id refl) same)
content_by stack (ends.Absent id) d e bag same = refl
content_by stack (ends.TooLong id) d e bag same = refl

pub trace_tells_content : TraceTellsContent
unfolding content_at content_trace
trace_tells_content stack id d e same =
    let told = told_chain stack references_followed id d e
    (steps_of_ids stack d (ids_behind stack (end_of stack references_followed id d) d))
    (steps_of_ids stack e (ids_behind stack (end_of stack references_followed id e) e))
    (ap (λ (t : Trace). t.steps) same) in
    let end_d = end_of stack references_followed id d in
    content_by stack end_d d e told.bag
    (told.behind ∙ ap (λ (end : End). steps_of_ids stack e (ids_behind stack end e)) (sym told.end))
    ∙ ap (λ (end : End). end_content stack end e) told.end
