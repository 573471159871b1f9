use Rattle.std.proofs.Common.{ℕ, List, ◌∷◌, ◌++◌, [], inl, inr, refl, sym, ◌∙◌, subst, append_assoc}
use Rattle.std.proofs.lemmas.Result.{IfOk-weaker}
use Rattle.config_box.specs.box_answers.NumberSet.{SetOf}
use Rattle.config_box.specs.box_answers.Members.{IsMember}
use Rattle.config_box.specs.Tests.{test_of}
use Rattle.reference_resolver.specs.Trace.{Trace}
use Rattle.cert_maker.specs.cert_checker.box_trace.declared.common.CommonTrace.{CommonTrace}
use Rattle.cert_maker.specs.cert_checker.box_trace.CommonTrace.{IsCommonTrace}
use Rattle.cert_maker.specs.cert_checker.box_trace.OpenBox.{boxes_of}
use Rattle.cert_maker.proofs.cert_checker.box_trace.OpenBoxSteps.{rest_of, reached_there, told_in_place}
use Rattle.stack_diff.specs.LayersSeen.{loads_of}
use Rattle.stack_diff.specs.AddedNode.{AddsTest}
use Rattle.stack_diff.specs.LookUpBoxes.{trace_of_look_up}
use Rattle.stack_diff.specs.Raising.{level_of, cells_of, KeepsReach, loaded_more}
use Rattle.cert_maker.proofs.Cut.{needed-by-trace}
use Rattle.stack_diff.proofs.LoadedSteps.{test-opened}
use Rattle.stack_diff.proofs.LookUpSteps.{same-loads}
use Rattle.stack_diff.proofs.loaded_rows.look_at.Goals as goal

pub raise_row-requires : goal.raise_row-requires
raise_row-requires c = λ d e m n.
    let trace = trace_of_look_up c.args.look_up.now in
    let sets = c.args.part.now.members in
    let common = subst (λ (k : CommonTrace). IsCommonTrace k sets trace) c.in-One.is (c.in_ok-common.ensures.common trace c.requires) in
    let same = c.in_ok-common.ensures.members in
    same-loads c.args.look_up.now sets c.in-One.field-0 common d e (subst (λ (s : List SetOf). IsMember s d) same m) (subst (λ (s : List SetOf). IsMember s e) same n)

pub returns-in-One-clause-keeps : goal.returns-in-One-clause-keeps
returns-in-One-clause-keeps c =
    let loads = loads_of c.args.look_up.now in
    let boxes = boxes_of c.args.open_boxes.now in
    subst (λ (sets : List SetOf). KeepsReach (cells_of c.args.uses.now) (loaded_more loads (level_of c.args.to) (boxes ++ sets ∷ [])) (cells_of c.raise_row.new.uses) (loaded_more loads (level_of c.args.to) boxes))
    c.in_ok-common.ensures.members (c.raise_row.ensures boxes)

pub returns-in-One-clause-node : goal.returns-in-One-clause-node
returns-in-One-clause-node c =
    let trace = trace_of_look_up c.args.look_up.now in
    let common = subst (λ (k : CommonTrace). IsCommonTrace k c.args.part.now.members trace) c.in-One.is (c.in_ok-common.ensures.common trace c.requires) in
    inr (refl, λ d e m n. common.1 d m ∙ sym (common.1 e n))

pub parting_test-requires : goal.parting_test-requires
parting_test-requires c =
    let stack = c.args.stack.now in
    let rest : List ℕ → Trace = rest_of stack c.args.part.now.walk in
    let reached = reached_there stack c.args.part.now in
    (told_in_place rest _ c.in-Mixed.first _ c.args.part.now.members _ _ c.in-Mixed.is c.in_ok-common.ensures.members c.in_ok-parting-in-Mixed.ensures.members (c.in_ok-common.ensures.common rest reached)
    (c.in_ok-parting-in-Mixed.ensures.told stack rest (c.in_ok-common.ensures.reached rest reached))).separates

pub open_halves-requires : goal.open_halves-requires
open_halves-requires c = c.in_ok-test-in-Mixed.ensures.needed.passes

pub returns-in_ok-test-in-Mixed-clause-keeps : goal.returns-in_ok-test-in-Mixed-clause-keeps
returns-in_ok-test-in-Mixed-clause-keeps c =
    let loads = loads_of c.args.look_up.now in
    let boxes = boxes_of c.args.open_boxes.now in
    let cells = cells_of c.args.uses.now in
    let to = level_of c.args.to in
    let same = c.in_ok-parting-in-Mixed.ensures.members ∙ c.in_ok-common.ensures.members in
    IfOk-weaker c.open_halves.result _ _ (λ _ opens.
    subst (λ (opened : List (List SetOf)). KeepsReach cells (loaded_more loads to (boxes ++ c.args.part.now.members ∷ [])) cells (loaded_more loads to opened)) (sym (opens.opened ∙ append_assoc boxes (opens.no_half ∷ []) (opens.yes_half ∷ [])))
    (subst (λ (sets : List SetOf). KeepsReach cells (loaded_more loads to (boxes ++ sets ∷ [])) cells (loaded_more loads to (boxes ++ opens.no_half ∷ opens.yes_half ∷ []))) same
    (test-opened cells loads to boxes _ opens.yes_half opens.no_half (test_of c.in_ok-test-in-Mixed.test) opens.yes opens.no))) c.open_halves.ensures.halves

pub returns-in_ok-test-in-Mixed-clause-open : goal.returns-in_ok-test-in-Mixed-clause-open
returns-in_ok-test-in-Mixed-clause-open c =
    let trace = trace_of_look_up c.args.look_up.now in
    IfOk-weaker c.open_halves.result _ _ (λ _ goes_on.
    goes_on c.args.stack.now c.args.look_up.now (c.in_ok-parting-in-Mixed.ensures.reached c.args.stack.now trace (c.in_ok-common.ensures.reached trace c.requires))) c.open_halves.ensures.open

pub returns-in_ok-test-in-Mixed-clause-node : goal.returns-in_ok-test-in-Mixed-clause-node
returns-in_ok-test-in-Mixed-clause-node c =
    let trace = trace_of_look_up c.args.look_up.now in
    let boxes = boxes_of c.args.open_boxes.now in
    let told =
    told_in_place trace _ c.in-Mixed.first _ c.args.part.now.members _ _ c.in-Mixed.is c.in_ok-common.ensures.members c.in_ok-parting-in-Mixed.ensures.members (c.in_ok-common.ensures.common trace c.requires)
    (c.in_ok-parting-in-Mixed.ensures.told c.args.stack.now trace (c.in_ok-common.ensures.reached trace c.requires)) in
    IfOk-weaker c.open_halves.result _ _ (λ _ opens.
    inl (subst (λ (sets : List SetOf). AddsTest trace sets boxes (boxes_of c.open_halves.new.open_boxes)) (c.in_ok-parting-in-Mixed.ensures.members ∙ c.in_ok-common.ensures.members) (record {
      test = test_of c.in_ok-test-in-Mixed.test;
      needed = needed-by-trace trace _ _ _ told.trace_tells c.in_ok-test-in-Mixed.ensures.needed;
      yes_half = opens.yes_half;
      no_half = opens.no_half;
      opened = opens.opened ∙ append_assoc boxes (opens.no_half ∷ []) (opens.yes_half ∷ []);
      yes_members = opens.yes;
      no_members = opens.no;
    }))) c.open_halves.ensures.halves
