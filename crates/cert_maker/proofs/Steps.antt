-- One node more.
use Rattle.std.proofs.Common.{◌≡◌, ℕ, ◌+◌, arith, inl, inr, true, false, List, [], ◌∷◌, ◌++◌, Some, length, length-append, map, reverse, sym, ◌∙◌, ap, refl, subst}
use Rattle.std.proofs.lemmas.Bool.{cases_Bool}
use Rattle.std.proofs.lemmas.List.{map-append}
use Rattle.cert_checker.specs.res_value.declared.res_id.ResId.{ResId}
use Rattle.cert_checker.specs.res_value.declared.value.Value.{Value}
use Rattle.cert_checker.specs.reference_resolver.declared.end.End.TheVariants as ends
use Rattle.cert_checker.specs.overlay_map.Layer.{most_layers}
use Rattle.cert_checker.specs.reference_resolver.Trace.{Trace}
use Rattle.cert_checker.specs.box_answers.NumberSet.{SetOf}
use Rattle.cert_checker.specs.box_answers.Members.{set_at, IsMember}
use Rattle.cert_checker.proofs.box_answers.SomeMember.{some_member}
use Rattle.cert_checker.specs.config_box.Tests.{TestOf, AtMostOf, AmongOf, coord_of, answers, has_wrong_kind}
use Rattle.cert_checker.specs.config_box.Halves.{IsHalf}
use Rattle.cert_checker.specs.box_answers.MemberAnswers.{AllAnswer}
use Rattle.cert_checker.specs.cert_tree.Certificate.{NodeOf, TestAt, ValueAt, BagAt}
use Rattle.cert_checker.specs.declared.rule.Rule.{Rule}
use Rattle.cert_checker.specs.declared.rule.Rule.TheVariants.{TestKind, EmptyHalf}
use Rattle.cert_checker.specs.Paths.{Path, IsAt, leaf_end}
use Rattle.cert_checker.specs.Fails.{FailsAtTest}
use Rattle.cert_checker.specs.OpenBoxes.{IsBoxAt}
use Rattle.cert_checker.specs.box_trace.Halving.{OpensHalves}
use Rattle.cert_checker.proofs.BoxSteps.{pushed}
use Rattle.cert_checker.proofs.MarkSteps.{alike-kind, alike-range}
use Rattle.cert_checker.proofs.LeafSteps.{as_claimed}
use Rattle.cert_checker.proofs.NodeSteps.{halves}
use Rattle.cert_maker.specs.FitsBox.{FitsBox}
use Rattle.cert_maker.specs.Needed.{NoneBetween, IsNeededTest}
use Rattle.cert_maker.specs.Growth.{Grows}
use Rattle.cert_checker.proofs.bags_themes.EndLayers.{EndBelow}

-- ---- what is needed in the box at a node is needed at the node

none-between : (sets part : List SetOf) (path : Path) (test : TestOf) (x y : List ℕ) → IsBoxAt sets path part → NoneBetween (IsMember part) test x y → NoneBetween (IsAt sets path) test x y
none-between sets part path (AtMostOf c most) x y b h = λ d a. h d ((b.members d).1 a)
none-between sets part path (AmongOf c choice) x y b h = tt

right-kind : (sets part : List SetOf) (path : Path) (members : List ℕ → Type 0) (test : TestOf) → IsBoxAt sets path part → ((rule : Rule) → FailsAtTest part members test rule → ⊥) → has_wrong_kind sets test ≡ false
right-kind sets part path members test b passes =
    elim (cases_Bool (has_wrong_kind part test)) [
      | inl wrong ↦ absurd (passes TestKind wrong)
      | inr right ↦ alike-kind sets part test b.marks ∙ right
    ]

-- a test of the right kind passes that has answers of both kinds
pub test-passes : (sets : List SetOf) (members : List ℕ → Type 0) (test : TestOf) (x y : List ℕ) → has_wrong_kind sets test ≡ false → members x → members y → answers test x ≡ true → answers test y ≡ false
    → (rule : Rule) → FailsAtTest sets members test rule → ⊥
test-passes sets members test x y right mx my is isnt TestKind f = cc
test-passes sets members test x y right mx my is isnt EmptyHalf (inl all) = let e = all y my in cc
test-passes sets members test x y right mx my is isnt EmptyHalf (inr all) = let e = all x mx in cc
test-passes sets members test x y right mx my is isnt rule f = f

pub moved : {X : Type 0} (trace : List ℕ → X) (sets part : List SetOf) (path : Path) (test : TestOf) → IsBoxAt sets path part → IsNeededTest trace part (IsMember part) test → IsNeededTest trace sets (IsAt sets path) test
moved trace sets part path test b s =
    let x_at = (b.members s.x).0 s.yes.member in
    let y_at = (b.members s.y).0 s.no.member in
    record {
      passes = test-passes sets (IsAt sets path) test s.x s.y (right-kind sets part path (IsMember part) test b s.passes) x_at y_at s.yes.answers s.no.answers;
      x = s.x;
      y = s.y;
      yes = record { member = x_at; answers = s.yes.answers };
      no = record { member = y_at; answers = s.no.answers };
      others = s.others;
      differ = s.differ;
      near = none-between sets part path test s.x s.y b s.near;
      parts = λ choice alone u v ua va.
          s.parts (sym (alike-range (set_at sets (coord_of test)) (set_at part (coord_of test)) (b.marks (coord_of test))) ∙ choice)
          (λ m n mm nm. alone m n ((b.members m).0 mm) ((b.members n).0 nm)) u v
          (record { member = (b.members u).1 ua.member; answers = ua.answers }) (record { member = (b.members v).1 va.member; answers = va.answers });
    }

-- ---- leaves

pub grows-value : (trace : List ℕ → Trace) (part : List SetOf) (t : Trace) (layer : ℕ) (value : Value) (old new : List NodeOf) (boxes : List (List SetOf)) → new ≡ old ++ ValueAt layer value ∷ []
    → AllAnswer (IsMember part) trace t → t.end ≡ ends.Value layer value → ((d : List ℕ) → EndBelow most_layers (trace d).end) → Grows trace part old new boxes boxes
grows-value trace part t layer value old new boxes e shared ends_at low sets path paths b stand =
    let d = some_member part b.is_box in
    let below : EndBelow most_layers (ends.Value layer value) = subst (EndBelow most_layers) (ap (λ (u : Trace). u.end) (shared d.0 d.1) ∙ ends_at) (low d.0) in
    record {
      node = ValueAt layer value;
      added = e;
      good = record { passes = as_claimed trace t (ends.Value layer value) part refl shared ends_at sets path b; needed = tt; fits = λ rule by. omega (arith, below) };
      stand = stand;
    }

pub grows-bag : (trace : List ℕ → Trace) (part : List SetOf) (t : Trace) (id : ResId) (old new : List NodeOf) (boxes : List (List SetOf)) → new ≡ old ++ BagAt id ∷ []
    → AllAnswer (IsMember part) trace t → t.end ≡ ends.Bag id → Grows trace part old new boxes boxes
grows-bag trace part t id old new boxes e shared ends_at sets path paths b stand =
    record {
      node = BagAt id;
      added = e;
      good = record { passes = as_claimed trace t (ends.Bag id) part refl shared ends_at sets path b; needed = tt; fits = λ rule by. tt };
      stand = stand;
    }

pub grows-leaf : (trace : List ℕ → Trace) (part : List SetOf) (t : Trace) (node : NodeOf) (old new : List NodeOf) (boxes : List (List SetOf)) → new ≡ old ++ node ∷ []
    → AllAnswer (IsMember part) trace t → leaf_end node ≡ Some t.end → ((d : List ℕ) → EndBelow most_layers (trace d).end) → Grows trace part old new boxes boxes
grows-leaf trace part t (TestAt test) old new boxes e shared says low = absurd cc
grows-leaf trace part t (ValueAt layer value) old new boxes e shared says low =
    let is : t.end ≡ ends.Value layer value = cc in
    grows-value trace part t layer value old new boxes e shared is low
grows-leaf trace part t (BagAt id) old new boxes e shared says low =
    let is : t.end ≡ ends.Bag id = cc in
    grows-bag trace part t id old new boxes e shared is

-- ---- tests

grows-test : (trace : List ℕ → Trace) (part yes_half no_half : List SetOf) (test : TestOf) (old new : List NodeOf) (before after_it : List (List SetOf)) → new ≡ old ++ TestAt test ∷ []
    → reverse after_it ≡ yes_half ∷ no_half ∷ reverse before → has_wrong_kind part test ≡ false → IsHalf part test true yes_half → IsHalf part test false no_half
    → IsNeededTest trace part (IsMember part) test → FitsBox part (TestAt test) → Grows trace part old new before after_it
grows-test trace part yes_half no_half test old new before after_it e f right is isnt s fits sets path paths b stand =
    let taken = halves part yes_half no_half test before after_it right is isnt f trace sets path paths b stand in
    record {
      node = TestAt test;
      added = e;
      good = record { passes = taken.0; needed = moved trace sets part path test b s; fits = λ rule by. fits rule (λ d is. by d ((b.members d).0 is).0) };
      stand = taken.1;
    }

pub grows-halved : (trace : List ℕ → Trace) (part : List SetOf) (test : TestOf) (old new : List NodeOf) (before after_it : List (List SetOf)) → new ≡ old ++ TestAt test ∷ [] → OpensHalves part test before after_it
    → IsNeededTest trace part (IsMember part) test → FitsBox part (TestAt test) → Grows trace part old new before after_it
grows-halved trace part test old new before after_it e opens s fits =
    grows-test trace part opens.yes_half opens.no_half test old new before after_it e (pushed before (before ++ opens.no_half ∷ []) after_it opens.yes_half opens.no_half refl opens.opened) opens.right_kind opens.yes opens.no s fits

-- what is pushed, as contracts see it
pub map-push : {A B : Type 0} (f : A → B) (xs ys : List A) (x : A) → ys ≡ xs ++ x ∷ [] → map f ys ≡ map f xs ++ f x ∷ []
map-push f xs ys x e = ap (map f) e ∙ map-append f xs (x ∷ [])

pub one-longer : {A : Type 0} (xs ys : List A) (x : A) → ys ≡ xs ++ x ∷ [] → length ys ≡ length xs + 1
one-longer xs ys x e = ap length e ∙ length-append xs (x ∷ [])
