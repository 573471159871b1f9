-- Where no rule fails in a tree, each member of the box reaches a leaf, and its trace ends at what each leaf says that it
-- reaches.
use Rattle.std.proofs.Common.{◌≡◌, ℕ, ◌⊎◌, inl, inr, suc, List, [], ◌∷◌, Option, Some, take, sym, ◌∙◌, refl, subst}
use Rattle.std.specs.Prelude.{slice_get}
use Rattle.std.proofs.lemmas.Bool.{cases_Bool}
use Rattle.box_trace.specs.reference_resolver.declared.end.End.{End}
use Rattle.box_trace.specs.reference_resolver.declared.end.End.TheVariants as ends
use Rattle.box_trace.specs.reference_resolver.Trace.{Trace}
use Rattle.box_trace.proofs.reference_resolver.SameTraces.{end-cases, trace-cases}
use Rattle.cert_tree.specs.box_answers.NumberSet.{SetOf}
use Rattle.cert_tree.specs.box_answers.Members.{IsMember}
use Rattle.cert_tree.specs.box_answers.MemberAnswers.{AllAnswer}
use Rattle.cert_tree.specs.config_box.Tests.{TestOf, answers}
use Rattle.cert_tree.specs.Certificate.{NodeOf, TestAt, ValueAt, BagAt}
use Rattle.cert_checker.specs.declared.rule.Rule.{Rule}
use Rattle.cert_checker.specs.declared.rule.Rule.TheVariants.{EndsEarly, MixedTrace, NoValue, OtherValue}
use Rattle.cert_checker.specs.Paths.{Path, Follows, IsAt, after, after_all, root, open_at, FollowsFirst, leaf_end, Reaches}
use Rattle.box_trace.specs.reference_resolver.Ends.{is_value}
use Rattle.cert_checker.specs.Fails.{FailsAtLeaf, FailsAt, Fails, NoRuleFails}

-- ---- each device that follows an open path reaches a leaf

abbrev FollowsSome : List ℕ → List Path → Type 0
FollowsSome d [] = ⊥
FollowsSome d (path ∷ paths) = Follows d path ⊎ FollowsSome d paths

-- a leaf among nodes before which these paths are open
record ReachesFrom (nodes : List NodeOf) (paths : List Path) (d : List ℕ) : Type 0 where
  claimed : End
  place : ℕ
  leaf : NodeOf
  stands : slice_get nodes place ≡ Some leaf
  says : leaf_end leaf ≡ Some claimed
  follows : FollowsFirst d (after_all (take place nodes) paths)

-- one node later
later : (node : NodeOf) (nodes : List NodeOf) (path : Path) (paths : List Path) (d : List ℕ) → ReachesFrom nodes (after node path paths) d → ReachesFrom (node ∷ nodes) (path ∷ paths) d
later node nodes path paths d r = record { claimed = r.claimed; place = suc r.place; leaf = r.leaf; stands = r.stands; says = r.says; follows = r.follows }

abbrev NoneFailsFrom : (List ℕ → Trace) → List SetOf → List NodeOf → List Path → Type 0
NoneFailsFrom trace sets nodes paths = (k : ℕ) (rule : Rule) → FailsAt trace sets (slice_get nodes k) (after_all (take k nodes) paths) rule → ⊥

-- a device goes on with its own answer
goes_on : (test : TestOf) (path : Path) (paths : List Path) (d : List ℕ) → Follows d path → FollowsSome d (after (TestAt test) path paths)
goes_on test path paths d f = elim (cases_Bool (answers test d)) [ inl e ↦ inl (e, f) | inr e ↦ inr (inl (e, f)) ]

reach : (trace : List ℕ → Trace) (sets : List SetOf) (d : List ℕ) (nodes : List NodeOf) (paths : List Path) → NoneFailsFrom trace sets nodes paths → FollowsSome d paths → ReachesFrom nodes paths d
reach trace sets d [] [] ok f = absurd f
reach trace sets d [] (path ∷ paths) ok f = absurd (ok 0 EndsEarly refl)
reach trace sets d (node ∷ nodes) [] ok f = absurd f
reach trace sets d (TestAt test ∷ nodes) (path ∷ paths) ok (inl f) =
    later (TestAt test) nodes path paths d (reach trace sets d nodes (after (TestAt test) path paths) (λ k. ok (suc k)) (goes_on test path paths d f))
reach trace sets d (TestAt test ∷ nodes) (path ∷ paths) ok (inr f) =
    later (TestAt test) nodes path paths d (reach trace sets d nodes (after (TestAt test) path paths) (λ k. ok (suc k)) (inr (inr f)))
reach trace sets d (ValueAt layer value ∷ nodes) (path ∷ paths) ok (inl f) =
    record { claimed = ends.Value layer value; place = 0; leaf = ValueAt layer value; stands = refl; says = refl; follows = f }
reach trace sets d (ValueAt layer value ∷ nodes) (path ∷ paths) ok (inr f) =
    later (ValueAt layer value) nodes path paths d (reach trace sets d nodes paths (λ k. ok (suc k)) f)
reach trace sets d (BagAt id ∷ nodes) (path ∷ paths) ok (inl f) =
    record { claimed = ends.Bag id; place = 0; leaf = BagAt id; stands = refl; says = refl; follows = f }
reach trace sets d (BagAt id ∷ nodes) (path ∷ paths) ok (inr f) =
    later (BagAt id) nodes path paths d (reach trace sets d nodes paths (λ k. ok (suc k)) f)

pub reaches : (trace : List ℕ → Trace) (sets : List SetOf) (nodes : List NodeOf) (d : List ℕ) → NoRuleFails trace sets nodes → (claimed : End) × Reaches nodes d claimed
unfolding Fails open_at
reaches trace sets nodes d ok =
    let r = reach trace sets d nodes root ok (inl tt) in
    (r.claimed, record { place = r.place; leaf = r.leaf; stands = r.stands; says = r.says; follows = r.follows })

-- ---- the trace ends there

-- where no rule fails at a leaf, the trace of each member ends at what it says
at_leaf : (trace : List ℕ → Trace) (members : List ℕ → Type 0) (claimed : End) (d : List ℕ) → members d → ((rule : Rule) → FailsAtLeaf trace members claimed rule → ⊥) → (trace d).end ≡ claimed
at_leaf trace members claimed d m ok =
    elim (end-cases (trace d).end claimed) [
      | inl e ↦ e
      | inr n ↦ absurd (elim (cases_Bool (is_value (trace d).end)) [ inl e ↦ ok OtherValue (trace d, shared, e, n) | inr e ↦ ok NoValue (trace d, shared, e) ])
    ]
  where
    shared : AllAnswer members trace (trace d)
    shared x other = elim (trace-cases (trace x) (trace d)) [ inl same ↦ same.1 | inr n ↦ absurd (ok MixedTrace (x, d, other, m, n.1)) ]

at_node : (trace : List ℕ → Trace) (sets : List SetOf) (node : NodeOf) (paths : List Path) (claimed : End) (d : List ℕ) → IsMember sets d → FollowsFirst d paths → leaf_end node ≡ Some claimed
    → ((rule : Rule) → FailsAt trace sets (Some node) paths rule → ⊥) → (trace d).end ≡ claimed
at_node trace sets node [] claimed d m f e ok = absurd f
at_node trace sets (TestAt test) (path ∷ paths) claimed d m f e ok = absurd cc
at_node trace sets (ValueAt layer value) (path ∷ paths) claimed d m f e ok =
    at_leaf trace (IsAt sets path) (ends.Value layer value) d (m, f) ok ∙ cc
at_node trace sets (BagAt id) (path ∷ paths) claimed d m f e ok =
    at_leaf trace (IsAt sets path) (ends.Bag id) d (m, f) ok ∙ cc

pub ends_at_leaf : (trace : List ℕ → Trace) (sets : List SetOf) (nodes : List NodeOf) (d : List ℕ) (claimed : End) → NoRuleFails trace sets nodes → IsMember sets d → Reaches nodes d claimed → (trace d).end ≡ claimed
unfolding Fails
ends_at_leaf trace sets nodes d claimed ok m r =
    at_node trace sets r.leaf (open_at nodes r.place) claimed d m r.follows r.says
    (λ rule h. ok r.place rule (subst (λ (o : Option NodeOf). FailsAt trace sets o (open_at nodes r.place) rule) (sym r.stands) h))
