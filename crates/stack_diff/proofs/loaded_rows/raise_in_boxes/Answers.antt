use Rattle.std.proofs.Common.{◌≡◌, ◌+◌, ◌-◌, List, Some, arith, ap, subst}
use Rattle.std.proofs.lemmas.List.Elements.{All-pop}
use Rattle.config_box.specs.box_answers.NumberSet.{SetOf}
use Rattle.cert_maker.specs.cert_checker.box_trace.OpenBox.{boxes_of}
use Rattle.cert_maker.proofs.cert_checker.box_trace.OpenBoxSteps.{boxes-push}
use Rattle.stack_diff.specs.LayersSeen.{loads_of}
use Rattle.stack_diff.specs.LookUpBoxes.{trace_of_look_up, IsOpenFor}
use Rattle.stack_diff.specs.Raising.{level_of, cells_of, KeepsReach, loaded_more}
use Rattle.stack_diff.proofs.ReachSteps.{keeps-then, keeps-told}
use Rattle.stack_diff.proofs.LoadedSteps.{none-left}
use Rattle.stack_diff.proofs.PartingTree.{Going, started, goes-on, done, too-large}
use Rattle.stack_diff.proofs.loaded_rows.raise_in_boxes.Goals as goal

pub boxes-init : goal.boxes-init
boxes-init c = record {
  open_for = c.requires;
  keeps = keeps-told _ _ _ (λ row level. ((λ more. more), (λ more. more)));
  within = omega arith;
  going = λ sets is_box alone.
      let none : 0 ≡ c.args.left - c.args.left = omega arith in
      subst (Going (trace_of_look_up c.args.look_up.now) sets (boxes_of c.args.open_boxes.now)) none (started (trace_of_look_up c.args.look_up.now) sets (boxes_of c.args.open_boxes.now) is_box alone);
}

pub boxes-preserved : goal.boxes-preserved
boxes-preserved c =
    let loads = loads_of c.args.look_up.now in
    let to = level_of c.args.to in
    let taken = All-pop (IsOpenFor c.args.stack.now c.args.look_up.now) c.boxes.open_boxes c.pop.new.self (Some c.in-Some.part) c.in-Some.ensures.items c.boxes.invariant.open_for in
    let boxes = boxes-push _ _ _ c.in-Some.ensures.items in
    record {
      open_for = c.in_ok-looked.ensures.open taken.0;
      keeps = keeps-then _ _ _ _ _ _ (subst (λ (bs : List (List SetOf)). KeepsReach (cells_of c.args.uses.now) (loaded_more loads to (boxes_of c.args.open_boxes.now)) (cells_of c.boxes.uses) (loaded_more loads to bs)) boxes c.boxes.invariant.keeps) c.in_ok-looked.ensures.keeps;
      within = (let within = c.boxes.invariant.within in omega (arith, within));
      going = λ sets is_box alone.
          let trace = trace_of_look_up c.args.look_up.now in
          let within = c.boxes.invariant.within in
          let one_more : (c.args.left - c.boxes.left) + 1 ≡ c.args.left - (c.boxes.left - 1) = omega (arith, within) in
          subst (Going trace sets (boxes_of c.look_at-looked.new.open_boxes)) one_more (goes-on trace sets _ _ _ _ _ boxes (c.boxes.invariant.going sets is_box alone) c.in_ok-looked.ensures.node);
    }

pub returns-then-left-eq0-clause-tree : goal.returns-then-left-eq0-clause-tree
returns-then-left-eq0-clause-tree c = λ sets is_box alone.
    let trace = trace_of_look_up c.args.look_up.now in
    let within = c.boxes.invariant.within in
    too-large trace sets (boxes_of c.look_at-looked.new.open_boxes) ((c.args.left - c.boxes.left) + 1) c.args.left (omega (arith, within))
    (goes-on trace sets _ _ _ _ _ (boxes-push _ _ _ c.in-Some.ensures.items) (c.boxes.invariant.going sets is_box alone) c.in_ok-looked.ensures.node)

pub returns-clause-keeps : goal.returns-clause-keeps
returns-clause-keeps c =
    keeps-then _ _ _ _ _ _ c.boxes.invariant.keeps (none-left _ _ _ _ (ap boxes_of c.in_default.ensures.none))

pub returns-clause-tree : goal.returns-clause-tree
returns-clause-tree c = λ sets is_box alone.
    let within = c.boxes.invariant.within in
    let tree = done (trace_of_look_up c.args.look_up.now) sets _ _ (ap boxes_of c.in_default.ensures.none) (c.boxes.invariant.going sets is_box alone) in
    let count = tree.2 in
    (tree.0, tree.1, omega (arith, within, count))

pub look_at-looked-requires : goal.look_at-looked-requires
look_at-looked-requires c =
    (All-pop (IsOpenFor c.args.stack.now c.args.look_up.now) c.boxes.open_boxes c.pop.new.self (Some c.in-Some.part) c.in-Some.ensures.items c.boxes.invariant.open_for).1
