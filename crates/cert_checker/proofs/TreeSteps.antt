-- From node to node of a tree.
use Rattle.std.proofs.Common.{◌≡◌, ℕ, ◌+◌, ◌<◌, ◌≤◌, inl, inr, arith, List, [], ◌∷◌, ◌++◌, length, take, get_or, reverse, Option, Some, None, sym, ◌∙◌, ap, refl, subst}
use Rattle.std.specs.Prelude.{slice_get, map}
use Rattle.std.specs.Option.{option_map}
use Rattle.std.proofs.lemmas.List.{take_more, take_all, length-reverse, nil_from_length}
use Rattle.std.proofs.lemmas.Bool.{cases_lt}
use Rattle.std.proofs.lemmas.Option.{slice_get_past, slice_get_within, slice_get_read, slice_get-map, get_or_from_slice_get}
use Rattle.box_trace.specs.reference_resolver.Trace.{Trace}
use Rattle.cert_tree.specs.box_answers.NumberSet.{SetOf}
use Rattle.cert_tree.specs.Certificate.{NodeOf}
use Rattle.cert_checker.specs.declared.rule.Rule.{Rule}
use Rattle.cert_checker.specs.declared.rule.Rule.TheVariants.{EndsEarly}
use Rattle.cert_checker.specs.declared.verdict.Shown.TheVariants.{Nothing}
use Rattle.cert_checker.specs.declared.failure.Failure.{Failure}
use Rattle.cert_checker.specs.Rule.{number_of}
use Rattle.cert_checker.specs.Paths.{Path, after, after_all, root, open_at}
use Rattle.cert_checker.specs.Fails.{FailsAt, Fails, NoRuleFails}
use Rattle.cert_checker.specs.OpenBoxes.{Stand, AfterNode, IsOutcome}

-- what is seen of a list's item
pub seen_at : {A B : Type 0} (f : A → B) (xs : List A) (k : ℕ) (x : A) → k < length xs → x ≡ get_or xs k x → slice_get (map f xs) k ≡ Some (f x)
seen_at f xs k x within is = slice_get-map f xs k ∙ ap (option_map f) (slice_get_read xs (length xs) k x refl within is)

-- ---- one node more

none_open : (nodes : List NodeOf) → after_all nodes [] ≡ []
none_open [] = refl
none_open (node ∷ nodes) = refl

after_all-append : (first others : List NodeOf) (paths : List Path) → after_all (first ++ others) paths ≡ after_all others (after_all first paths)
after_all-append [] others paths = refl
after_all-append (node ∷ first) others [] = sym (none_open others)
after_all-append (node ∷ first) others (path ∷ paths) = after_all-append first others (after node path paths)

open_at-next : (nodes : List NodeOf) (k : ℕ) (node : NodeOf) → k < length nodes → slice_get nodes k ≡ Some node → open_at nodes (k + 1) ≡ after_all (node ∷ []) (open_at nodes k)
unfolding open_at
open_at-next nodes k node within at =
    ap (λ (ns : List NodeOf). after_all ns root) (take_more nodes k node within ∙ ap (λ (n : NodeOf). take k nodes ++ n ∷ []) (get_or_from_slice_get nodes k node node at)) ∙ after_all-append (take k nodes) (node ∷ []) root

-- what fails where the node stands fails in the tree
fails_here : (trace : List ℕ → Trace) (sets : List SetOf) (nodes : List NodeOf) (k : ℕ) (rule : Rule) (node : NodeOf) → slice_get nodes k ≡ Some node → FailsAt trace sets (Some node) (open_at nodes k) rule → Fails trace sets nodes k rule
unfolding Fails
fails_here trace sets nodes k rule node at f = subst (λ (o : Option NodeOf). FailsAt trace sets o (open_at nodes k) rule) (sym at) f

fails_there : (trace : List ℕ → Trace) (sets : List SetOf) (nodes : List NodeOf) (k : ℕ) (rule : Rule) (node : NodeOf) → slice_get nodes k ≡ Some node → Fails trace sets nodes k rule → FailsAt trace sets (Some node) (open_at nodes k) rule
unfolding Fails
fails_there trace sets nodes k rule node at f = subst (λ (o : Option NodeOf). FailsAt trace sets o (open_at nodes k) rule) at f

-- no rule fails before a place
pub record PassedTo (trace : List ℕ → Trace) (sets : List SetOf) (nodes : List NodeOf) (k : ℕ) (boxes : List (List SetOf)) : Type 0 where
  pub passed : (j : ℕ) (rule : Rule) → j < k → Fails trace sets nodes j rule → ⊥
  pub stand : Stand sets (reverse boxes) (open_at nodes k)

pub started : (trace : List ℕ → Trace) (sets : List SetOf) (nodes : List NodeOf) (boxes : List (List SetOf)) → Stand sets (reverse boxes) root → PassedTo trace sets nodes 0 boxes
unfolding open_at
started trace sets nodes boxes stand = record { passed = λ j rule p f. omega arith; stand = stand }

pub passed_more : (trace : List ℕ → Trace) (sets : List SetOf) (nodes : List NodeOf) (k : ℕ) (node : NodeOf) (before after_boxes : List (List SetOf)) (outcome : Option Failure) → slice_get nodes k ≡ Some node → outcome ≡ None
    → PassedTo trace sets nodes k before → AfterNode trace sets node (open_at nodes k) (reverse after_boxes) outcome → PassedTo trace sets nodes (k + 1) after_boxes
passed_more trace sets nodes k node before after_boxes outcome at e p h =
    let r = subst (λ (o : Option Failure). AfterNode trace sets node (open_at nodes k) (reverse after_boxes) o) e h in
    record {
      passed = λ j rule q f. elim (cases_lt j k) [
        | inl lt ↦ p.passed j rule lt f
        | inr le ↦ (let here : j ≡ k = omega arith in r.0 rule (fails_there trace sets nodes k rule node at (subst (λ (i : ℕ). Fails trace sets nodes i rule) here f)))
      ];
      stand = subst (λ (paths : List Path). Stand sets (reverse after_boxes) paths) (sym (open_at-next nodes k node (slice_get_within nodes k node at) at)) r.1;
    }

pub failed : (trace : List ℕ → Trace) (sets : List SetOf) (nodes : List NodeOf) (k : ℕ) (node : NodeOf) (before after_boxes : List (List SetOf)) (outcome : Option Failure) (failure : Failure) → slice_get nodes k ≡ Some node
    → outcome ≡ Some failure → PassedTo trace sets nodes k before → AfterNode trace sets node (open_at nodes k) (reverse after_boxes) outcome → IsOutcome trace sets nodes (Some (k, failure))
failed trace sets nodes k node before after_boxes outcome failure at e p h =
    let r = subst (λ (o : Option Failure). AfterNode trace sets node (open_at nodes k) (reverse after_boxes) o) e h in (
      record {
        fails = fails_here trace sets nodes k failure.rule node at r.0.0;
        places_before = p.passed;
        rules_before = λ other q f. r.0.1 other q (fails_there trace sets nodes k other node at f);
      },
      r.0.2,
    )

-- ---- the end of the list

no_paths : (sets : List SetOf) (paths : List Path) → Stand sets [] paths → paths ≡ []
no_paths sets [] stand = refl
no_paths sets (path ∷ paths) stand = absurd stand

take_past : (nodes : List NodeOf) (k : ℕ) → length nodes ≤ k → take k nodes ≡ take (length nodes) nodes
take_past nodes k past = take_all k nodes past ∙ sym (take_all (length nodes) nodes (omega arith))

open_at-past : (nodes : List NodeOf) (k : ℕ) → length nodes ≤ k → open_at nodes k ≡ open_at nodes (length nodes)
unfolding open_at
open_at-past nodes k past = ap (λ (ns : List NodeOf). after_all ns root) (take_past nodes k past)

none_past : (trace : List ℕ → Trace) (sets : List SetOf) (nodes : List NodeOf) → open_at nodes (length nodes) ≡ [] → (k : ℕ) (rule : Rule) → length nodes ≤ k → Fails trace sets nodes k rule → ⊥
unfolding Fails
none_past trace sets nodes none k rule past f =
    subst (λ (paths : List Path). FailsAt trace sets None paths rule) (open_at-past nodes k past ∙ none)
    (subst (λ (o : Option NodeOf). FailsAt trace sets o (open_at nodes k) rule) (slice_get_past nodes k past) f)

pub whole_tree : (trace : List ℕ → Trace) (sets : List SetOf) (nodes : List NodeOf) (k : ℕ) (boxes : List (List SetOf)) → k ≡ length nodes → length boxes ≡ 0 → PassedTo trace sets nodes k boxes → NoRuleFails trace sets nodes
whole_tree trace sets nodes k boxes e none p j rule f =
    elim (cases_lt j k) [
      | inl lt ↦ p.passed j rule lt f
      | inr le ↦ none_past trace sets nodes
          (no_paths sets (open_at nodes (length nodes)) (subst (λ (i : ℕ). Stand sets [] (open_at nodes i)) e (subst (λ (parts : List (List SetOf)). Stand sets parts (open_at nodes k)) (ap reverse (nil_from_length boxes none)) p.stand)))
          j rule (omega arith) f
    ]

-- a path is open
early : (trace : List ℕ → Trace) (sets : List SetOf) (parts : List (List SetOf)) (paths : List Path) → Stand sets parts paths → 0 < length parts
    → FailsAt trace sets None paths EndsEarly × ((other : Rule) → number_of other < 2 → FailsAt trace sets None paths other → ⊥)
early trace sets [] paths stand some = absurd (omega arith)
early trace sets (part ∷ parts) [] stand some = absurd stand
early trace sets (part ∷ parts) (path ∷ paths) stand some = (refl, none_lower)
  where
    none_lower : (other : Rule) → number_of other < 2 → other ≡ EndsEarly → ⊥
    none_lower other p f = let same = ap number_of f in omega arith

pub ends_early : (trace : List ℕ → Trace) (sets : List SetOf) (nodes : List NodeOf) (k : ℕ) (boxes : List (List SetOf)) → k ≡ length nodes → 0 < length boxes → PassedTo trace sets nodes k boxes
    → IsOutcome trace sets nodes (Some (length nodes, record { rule = EndsEarly; shown = Nothing }))
unfolding Fails
ends_early trace sets nodes k boxes e some p =
    let stand = subst (λ (i : ℕ). Stand sets (reverse boxes) (open_at nodes i)) e p.stand in
    let count = length-reverse boxes in
    let h = early trace sets (reverse boxes) (open_at nodes (length nodes)) stand (omega (arith, count)) in
    let past = slice_get_past nodes (length nodes) (omega arith) in (
      record {
        fails = subst (λ (o : Option NodeOf). FailsAt trace sets o (open_at nodes (length nodes)) EndsEarly) (sym past) h.0;
        places_before = λ j rule q f. p.passed j rule (omega arith) f;
        rules_before = λ other q f. h.1 other q (subst (λ (o : Option NodeOf). FailsAt trace sets o (open_at nodes (length nodes)) other) past f);
      },
      refl,
    )
