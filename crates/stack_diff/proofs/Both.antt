-- What members do alike in two stacks.
use Rattle.std.proofs.Common.{◌≡◌, ℕ, List, [], ◌∷◌, ◌++◌, append_assoc, length, reverse, arith, Some, true, false, ap, sym, subst, ◌∙◌}
use Rattle.std.proofs.lemmas.List.{length-append, reverse-reverse}
use Rattle.std.proofs.lemmas.List.Elements.{All-pop}
use Rattle.cert_maker.specs.box_answers.NumberSet.{SetOf}
use Rattle.cert_maker.specs.box_answers.Members.{IsMember}
use Rattle.cert_maker.specs.cert_checker.box_trace.Halving.{OpensHalves}
use Rattle.cert_maker.specs.cert_checker.box_trace.OpenBox.{boxes_of, IsReached}
use Rattle.cert_maker.specs.cert_checker.box_trace.declared.open_box.OpenBox.{OpenBox}
use Rattle.cert_maker.specs.cert_checker.box_trace.Parting.{answer_of, IsToldApart}
use Rattle.cert_maker.specs.cert_checker.box_trace.declared.parting.Parting.{Parting}
use Rattle.cert_maker.specs.cert_checker.box_trace.declared.common.CommonTrace.TheVariants.{One}
use Rattle.cert_maker.specs.cert_checker.bags_themes.ContentTrace.{content_trace}
use Rattle.cert_maker.specs.cert_checker.reference_resolver.Trace.{Trace}
use Rattle.cert_maker.specs.cert_checker.reference_resolver.declared.end.End.{End}
use Rattle.stack_diff.specs.declared.pair.Pair.{Pair}
use Rattle.stack_diff.specs.Sides.{trace_in, pair_traces}
use Rattle.cert_maker.specs.config_box.Tests.{TestOf}
use Rattle.cert_maker.specs.config_box.Halves.{IsHalf}
use Rattle.cert_maker.specs.Needed.{IsNeededTest}
use Rattle.cert_maker.proofs.cert_checker.BoxSteps.{reverse-push}
use Rattle.cert_maker.proofs.cert_checker.box_trace.OpenBoxSteps.{boxes-push}
use Rattle.cert_maker.proofs.Cut.{needed-by-trace}
use Rattle.stack_diff.specs.declared.pair_box.PairBox.{PairBox}
use Rattle.stack_diff.specs.declared.pair_box.PairBoxes.{PairBoxes}
use Rattle.stack_diff.specs.Parting.{HaveOneTrace}
use Rattle.stack_diff.specs.AddedNode.{AddsTest}
use Rattle.stack_diff.specs.PairBox.{IsTraceOf, EndAt, IsOpen, PartsBoth, AreOpen, AreWhole, PopsLast}

-- members part in the stack before
pub parts-before : (pair : Pair) (sets : List SetOf) (parting : Parting) → IsToldApart parting sets (trace_in pair.before) → PartsBoth pair sets parting
parts-before pair sets parting apart = record {
  separates = apart.separates;
  traces_tell = λ d e md me same. apart.trace_tells d e md me (ap (λ p. p.0) same);
}

-- or in the stack after
pub parts-after : (pair : Pair) (sets : List SetOf) (parting : Parting) → IsToldApart parting sets (trace_in pair.after) → PartsBoth pair sets parting
parts-after pair sets parting apart = record {
  separates = apart.separates;
  traces_tell = λ d e md me same. apart.trace_tells d e md me (ap (λ p. p.1) same);
}

-- or in neither
pub one-in-both : (pair : Pair) (sets : List SetOf) (before after : End) → IsTraceOf (trace_in pair.before) sets (One before) → IsTraceOf (trace_in pair.after) sets (One after)
    → HaveOneTrace (IsMember sets) (pair_traces pair) × EndAt pair sets before after
one-in-both pair sets before after old new = (λ d e md me i. (old.0 d e md me i, new.0 d e md me i), record { before_end = old.1; after_end = new.1 })

-- a resource beside itself has one trace
pub one-alone : (pair : Pair) (sets : List SetOf) (end : End) → pair.is_alone ≡ true → IsTraceOf (trace_in pair.after) sets (One end) → HaveOneTrace (IsMember sets) (pair_traces pair) × EndAt pair sets end end
one-alone pair sets end alone trace =
    let both = pair.alone alone in
    let same : trace_in pair.after ≡ trace_in pair.before = λ i d. content_trace (both.0 i) (both.1 i) d in
    one-in-both pair sets end end (subst (λ (of : List ℕ → Trace). IsTraceOf of sets (One end)) same trace) trace

-- ---- boxes

-- both walks of a box go on
pub goes-further : (pair : Pair) (part : PairBox) (before after : OpenBox) → IsOpen pair part → before.members ≡ part.before.members → IsReached pair.before.stack.now (trace_in pair.before) before
    → after.members ≡ part.after.members → IsReached pair.after.stack.now (trace_in pair.after) after → IsOpen pair (record { before = before; after = after })
goes-further pair part before after is_open old_members old_reached new_members new_reached = record {
  same = new_members ∙ is_open.same ∙ sym old_members;
  before_reached = old_reached;
  after_reached = new_reached;
}

pub whole-open : (pair : Pair) (sets : List SetOf) (boxes : PairBoxes) → AreWhole pair sets boxes → AreOpen pair boxes
whole-open pair sets boxes whole = record { same = whole.after.alone ∙ sym whole.before.alone; before_reached = whole.before.reached; after_reached = whole.after.reached }

last-same : (xs ys : List (List SetOf)) (x y : List SetOf) → xs ++ x ∷ [] ≡ ys ++ y ∷ [] → (xs ≡ ys) × (x ≡ y)
last-same xs ys x y e =
    let turned : x ∷ reverse xs ≡ y ∷ reverse ys = sym (reverse-push xs x) ∙ ap reverse e ∙ reverse-push ys y in
    let rest : reverse xs ≡ reverse ys = cc in
    let last : x ≡ y = cc in
    (sym (reverse-reverse xs) ∙ ap reverse rest ∙ reverse-reverse ys, last)

pub none-left : (rest : List (List SetOf)) (part : List SetOf) → rest ++ part ∷ [] ≡ [] → ⊥
none-left rest part e = let long = length-append rest (part ∷ []) in let none = ap length e in omega (arith, long, none)

-- what is taken was open, and so is what is left
pub popped-open : (pair : Pair) (old new : PairBoxes) (part : PairBox) → PopsLast old new part → AreOpen pair old → IsOpen pair part × AreOpen pair new
popped-open pair old new part pops are =
    let before = All-pop (IsReached pair.before.stack.now (trace_in pair.before)) old.before new.before (Some part.before) pops.before are.before_reached in
    let after = All-pop (IsReached pair.after.stack.now (trace_in pair.after)) old.after new.after (Some part.after) pops.after are.after_reached in
    let same = last-same (boxes_of new.after) (boxes_of new.before) part.after.members part.before.members (sym (boxes-push _ _ _ pops.after) ∙ are.same ∙ boxes-push _ _ _ pops.before) in (
      record { same = same.1; before_reached = before.1; after_reached = after.1 },
      record { same = same.0; before_reached = before.0; after_reached = after.0 },
    )

-- ---- a test

-- the box of the walk that went on has the same members
pub adds-test : (pair : Pair) (part further : List SetOf) (parting : Parting) (test : TestOf) (old new : List (List SetOf)) → further ≡ part → PartsBoth pair part parting
    → IsNeededTest (answer_of parting) further (IsMember further) test → OpensHalves further test old new → AddsTest (pair_traces pair) part old new
adds-test pair part further parting test old new same parts needed halves = record {
  test = test;
  needed = needed-by-trace (pair_traces pair) (answer_of parting) part test parts.traces_tell
      (subst (λ (sets : List SetOf). IsNeededTest (answer_of parting) sets (IsMember sets) test) same needed);
  yes_half = halves.yes_half;
  no_half = halves.no_half;
  opened = halves.opened ∙ append_assoc old (halves.no_half ∷ []) (halves.yes_half ∷ []);
  yes_members = subst (λ (sets : List SetOf). IsHalf sets test true halves.yes_half) same halves.yes;
  no_members = subst (λ (sets : List SetOf). IsHalf sets test false halves.no_half) same halves.no;
}
