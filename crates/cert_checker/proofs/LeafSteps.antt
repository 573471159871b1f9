-- The rules of a leaf, for the box of its path.
use Rattle.std.proofs.Common.{◌≡◌, ◌≢◌, ℕ, ◌<◌, arith, Bool, true, false, List, Some, None, sym, ◌∙◌, ap, refl, subst}
use Rattle.box_trace.specs.config_record.declared.coord.Coord.{Coord}
use Rattle.box_trace.specs.config_record.declared.device.Device.{Device}
use Rattle.box_trace.specs.config_record.ComparedNumber.{device_number}
use Rattle.box_trace.specs.config_record.DeviceSeen.{device_numbers}
use Rattle.box_trace.specs.reference_resolver.declared.end.End.{End}
use Rattle.box_trace.specs.reference_resolver.declared.end.End.TheVariants as ends
use Rattle.box_trace.specs.reference_resolver.Trace.{Trace}
use Rattle.cert_tree.specs.box_answers.NumberSet.{SetOf}
use Rattle.cert_tree.specs.box_answers.Members.{set_at, IsMember, IsCorner}
use Rattle.cert_tree.proofs.box_answers.SomeMember.{some_member}
use Rattle.cert_tree.specs.box_answers.MemberAnswers.{AllAnswer}
use Rattle.cert_tree.specs.box_answers.Sameness.{Separates}
use Rattle.box_trace.specs.Division.{Divides}
use Rattle.box_trace.specs.Parting.{TraceTells}
use Rattle.box_trace.proofs.Divisions.{divides_over}
use Rattle.box_trace.proofs.Partings.{traces_differ}
use Rattle.cert_checker.specs.declared.rule.Rule.{Rule}
use Rattle.cert_checker.specs.declared.rule.Rule.TheVariants.{GoalList, EndsEarly, LeftOver, TestKind, EmptyHalf, MixedTrace, NoValue, OtherValue}
use Rattle.cert_checker.specs.declared.verdict.Shown.TheVariants.{Two, One}
use Rattle.cert_checker.specs.Rule.{number_of}
use Rattle.cert_checker.specs.Paths.{Path, IsAt}
use Rattle.box_trace.specs.reference_resolver.Ends.{is_value}
use Rattle.cert_checker.specs.Fails.{FailsAtLeaf}
use Rattle.cert_checker.specs.Shown.{ShowsEnd}
use Rattle.cert_checker.specs.OpenBoxes.{IsBoxAt, rule_of_end, TakesLeaf}
use Rattle.cert_checker.proofs.MarkSteps.{alike-near}

-- ---- the rules of leaves

-- Of rules of which Q holds none fails, where these three do not.
leaf_rules : (trace : List ℕ → Trace) (members : List ℕ → Type 0) (claimed : End) (Q : Rule → Type 0) → (Q MixedTrace → FailsAtLeaf trace members claimed MixedTrace → ⊥)
    → (Q NoValue → FailsAtLeaf trace members claimed NoValue → ⊥) → (Q OtherValue → FailsAtLeaf trace members claimed OtherValue → ⊥)
    → (rule : Rule) → Q rule → FailsAtLeaf trace members claimed rule → ⊥
leaf_rules trace members claimed Q mixed none other GoalList q h = h
leaf_rules trace members claimed Q mixed none other EndsEarly q h = h
leaf_rules trace members claimed Q mixed none other LeftOver q h = h
leaf_rules trace members claimed Q mixed none other TestKind q h = h
leaf_rules trace members claimed Q mixed none other EmptyHalf q h = h
leaf_rules trace members claimed Q mixed none other MixedTrace q h = mixed q h
leaf_rules trace members claimed Q mixed none other NoValue q h = none q h
leaf_rules trace members claimed Q mixed none other OtherValue q h = other q h

-- ---- several traces

pub two_traces : (trace : List ℕ → Trace) (claimed : End) (part : List SetOf) (answer : List ℕ → Bool) (x y : Device) (c : Coord) → Separates part answer (device_numbers x) (device_numbers y) c
    → Divides (IsMember part) (λ d. (trace d).steps) (device_numbers x) (device_numbers y) → TraceTells (IsMember part) trace answer → TakesLeaf trace claimed part (Some (record { rule = MixedTrace; shown = Two x y }))
two_traces trace claimed part answer x y c separates divided tells sets path b = (
  (device_numbers x, device_numbers y, first, second, traces_differ trace answer part (device_numbers x) (device_numbers y) c separates tells),
  leaf_rules trace (IsAt sets path) claimed (λ (rule : Rule). number_of rule < 6) (λ p h. omega arith) (λ p h. omega arith) (λ p h. omega arith),
  record {
    first = first;
    second = second;
    coord = c;
    side_by_side = record {
      x_member = first.0;
      y_member = second.0;
      others = separates.parts.others;
      near = alike-near (set_at sets c) (set_at part c) (device_number (device_numbers x) c) (device_number (device_numbers y) c) (b.marks c) separates.near;
    };
    divided = divides_over (IsMember part) (IsAt sets path) (λ d. (trace d).steps) (device_numbers x) (device_numbers y) (λ d. (b.members d).1) divided;
  },
)
  where
    first : IsAt sets path (device_numbers x)
    first = (b.members (device_numbers x)).0 separates.parts.yes.member

    second : IsAt sets path (device_numbers y)
    second = (b.members (device_numbers y)).0 separates.parts.no.member

-- ---- one trace

-- all at the end of the path have the trace that all members of the box have
at_path : (trace : List ℕ → Trace) (t : Trace) (sets : List SetOf) (path : Path) (part : List SetOf) → IsBoxAt sets path part → AllAnswer (IsMember part) trace t → AllAnswer (IsAt sets path) trace t
at_path trace t sets path part b shared d a = shared d ((b.members d).1 a)

-- it is the only one that they have
only : (trace : List ℕ → Trace) (t other : Trace) (sets : List SetOf) (path : Path) (part : List SetOf) → IsBoxAt sets path part → AllAnswer (IsMember part) trace t → AllAnswer (IsAt sets path) trace other → other ≡ t
only trace t other sets path part b shared others =
    let m = some_member part b.is_box in
    sym (others m.0 ((b.members m.0).0 m.1)) ∙ shared m.0 m.1

not_mixed : (trace : List ℕ → Trace) (t : Trace) (claimed : End) (sets : List SetOf) (path : Path) (part : List SetOf) → IsBoxAt sets path part → AllAnswer (IsMember part) trace t
    → FailsAtLeaf trace (IsAt sets path) claimed MixedTrace → ⊥
not_mixed trace t claimed sets path part b shared h =
    let all = at_path trace t sets path part b shared in h.4 (all h.0 h.2 ∙ sym (all h.1 h.3))

-- it ends at a value or a bag
not_without : (trace : List ℕ → Trace) (t : Trace) (claimed end : End) (sets : List SetOf) (path : Path) (part : List SetOf) → IsBoxAt sets path part → is_value end ≡ true → t.end ≡ end → AllAnswer (IsMember part) trace t
    → FailsAtLeaf trace (IsAt sets path) claimed NoValue → ⊥
not_without trace t claimed end sets path part b value e shared h =
    let same : h.0.end ≡ end = ap (λ (x : Trace). x.end) (only trace t h.0 sets path part b shared h.1) ∙ e in
    let no : false ≡ true = sym h.2 ∙ ap is_value same ∙ value in cc

pub as_claimed : (trace : List ℕ → Trace) (t : Trace) (claimed : End) (part : List SetOf) → is_value claimed ≡ true → AllAnswer (IsMember part) trace t → t.end ≡ claimed → TakesLeaf trace claimed part None
as_claimed trace t claimed part value shared e sets path b rule =
    leaf_rules trace (IsAt sets path) claimed (λ (r : Rule). Unit {0})
    (λ q h. not_mixed trace t claimed sets path part b shared h)
    (λ q h. not_without trace t claimed claimed sets path part b value e shared h)
    (λ q h. h.3 (ap (λ (x : Trace). x.end) (only trace t h.0 sets path part b shared h.1) ∙ e))
    rule tt

shows_end : (trace : List ℕ → Trace) (t : Trace) (sets : List SetOf) (path : Path) (part : List SetOf) (corner : List ℕ) → IsBoxAt sets path part → AllAnswer (IsMember part) trace t → IsCorner part corner
    → ShowsEnd trace (IsAt sets path) corner t.end
shows_end trace t sets path part corner b shared is = record {
  member = (b.members corner).0 member;
  least = λ d c a. (is c).below (device_number d c) ((b.members d).1 a c);
  ends = ap (λ (x : Trace). x.end) (shared corner member);
}
  where
    member : IsMember part corner
    member c = (is c).is_in

-- a value or a bag
other_value : (trace : List ℕ → Trace) (t : Trace) (claimed end : End) (part : List SetOf) (corner : Device) → is_value end ≡ true → t.end ≡ end → end ≢ claimed → AllAnswer (IsMember part) trace t
    → IsCorner part (device_numbers corner) → TakesLeaf trace claimed part (Some (record { rule = OtherValue; shown = One corner end }))
other_value trace t claimed end part corner value e ne shared is sets path b = (
  (t, at_path trace t sets path part b shared, ap is_value e ∙ value, λ f. ne (sym e ∙ f)),
  leaf_rules trace (IsAt sets path) claimed (λ (rule : Rule). number_of rule < 8)
      (λ p h. not_mixed trace t claimed sets path part b shared h)
      (λ p h. not_without trace t claimed end sets path part b value e shared h)
      (λ p h. omega arith),
  subst (λ (x : End). ShowsEnd trace (IsAt sets path) (device_numbers corner) x) e (shows_end trace t sets path part (device_numbers corner) b shared is),
)

-- neither
no_value : (trace : List ℕ → Trace) (t : Trace) (claimed end : End) (part : List SetOf) (corner : Device) → is_value end ≡ false → t.end ≡ end → AllAnswer (IsMember part) trace t
    → IsCorner part (device_numbers corner) → TakesLeaf trace claimed part (Some (record { rule = NoValue; shown = One corner end }))
no_value trace t claimed end part corner value e shared is sets path b = (
  (t, at_path trace t sets path part b shared, ap is_value e ∙ value),
  leaf_rules trace (IsAt sets path) claimed (λ (rule : Rule). number_of rule < 7)
      (λ p h. not_mixed trace t claimed sets path part b shared h)
      (λ p h. omega arith)
      (λ p h. omega arith),
  subst (λ (x : End). ShowsEnd trace (IsAt sets path) (device_numbers corner) x) e (shows_end trace t sets path part (device_numbers corner) b shared is),
)

pub not_as_claimed : (trace : List ℕ → Trace) (t : Trace) (claimed end : End) (part : List SetOf) (corner : Device) → t.end ≡ end → end ≢ claimed → AllAnswer (IsMember part) trace t → IsCorner part (device_numbers corner)
    → TakesLeaf trace claimed part (Some (record { rule = rule_of_end end; shown = One corner end }))
not_as_claimed trace t claimed (ends.Value layer value) part corner e ne shared is = other_value trace t claimed (ends.Value layer value) part corner refl e ne shared is
not_as_claimed trace t claimed (ends.Bag id) part corner e ne shared is = other_value trace t claimed (ends.Bag id) part corner refl e ne shared is
not_as_claimed trace t claimed (ends.Absent id) part corner e ne shared is = no_value trace t claimed (ends.Absent id) part corner refl e shared is
not_as_claimed trace t claimed (ends.TooLong id) part corner e ne shared is = no_value trace t claimed (ends.TooLong id) part corner refl e shared is
