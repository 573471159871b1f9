use Rattle.std.proofs.Common.{◌≡◌, ◌-◌, List, [], length, map, Some, None, Ok, Err, sym, ap, ap₂, subst, ◌∙◌, arith}
use Rattle.std.proofs.lemmas.List.{length-map}
use Rattle.std.proofs.lemmas.Result.{err_from_is_err_and}
use Rattle.json.specs.Json.{parse_map, after_end_array}
use Rattle.serde_json.specs.Data.{Data}
use Rattle.json_input.specs.Each.{list_of}
use Rattle.json_tokens.specs.Standing.{value_at, items_at}
use Rattle.cert_tree.specs.declared.cert.CertGoal.{CertGoal}
use Rattle.cert_tree.specs.declared.goal_members.GoalPlace.{GoalPlace}
use Rattle.cert_tree.specs.Certificate.{goal_of, node_of, node_count}
use Rattle.cert_tree.specs.KeptGoals.{goal_result_seen}
use Rattle.cert_tree.specs.KeptCert.{goal_kept, goal_read_seen, without_attributes, other_after}
use Rattle.cert_tree.proofs.ReadSteps.{count-next}
use Rattle.cert_tree.proofs.GoalsSteps.{GoalsWalked, GoalsWalked-none, GoalsWalked-push, GoalsWalked-end, GoalsWalked-stops, GoalsWalked-malformed, GoalsWalked-not_passed, goals-no_list, few-goal_nodes}
use Rattle.cert_tree.proofs.goal_list.read_goals.Goals as goal

pub returns-then-not-branch-clause-value : goal.returns-then-not-branch-clause-value
returns-then-not-branch-clause-value c =
    let r = c.enter_list.new.self in
    goals-no_list c.args.rule c.args.depth c.args.tokens.now r (grind arith) ∙ ap (λ o. Some (o, r)) (sym c.missing.ensures)

pub goals-init : goal.goals-init
goals-init c =
    let none : [] ≡ c.new-goals.result.items = sym c.new-goals.ensures.items in (
      subst (λ (goals : List CertGoal). GoalsWalked c.args.rule (c.args.depth - 1) c.enter_list.new.self (map goal_of goals) None c.enter_list.new.self) none (GoalsWalked-none c.args.rule (c.args.depth - 1) c.enter_list.new.self),
      ap (λ (goals : List CertGoal). node_count (map goal_of goals)) none,
      omega arith,
      omega arith,
    )

pub returns-in_err-of_id-clause-value : goal.returns-in_err-of_id-clause-value
returns-in_err-of_id-clause-value c =
    let p = err_from_is_err_and c.from_residual-in_err-of_id.result c.from_residual-in_err-of_id.ensures.1 in
    let inner = c.args.depth - 1 in
    let start = c.enter_list.new.self in
    let l = c.goals in
    let entered : parse_map list_of (value_at c.args.depth c.args.tokens.now) ≡ parse_map {A = List Data} Some (items_at inner start) = grind arith in
    let going : (after_end_array l.tokens ≡ None) × (c.next_item.new.self ≡ l.tokens) = grind arith in
    rw (p.1, p.2)
    (λ other.
    let none = c.in_err-of_id.ensures.value other in
    (none.0, GoalsWalked-malformed c.args.rule c.args.depth inner c.args.tokens.now start l.tokens (map goal_of l.goals.items) l.first_other entered l.invariant.0 going.0 (rw (← going.1) none.1)))

pub goals-preserved : goal.goals-preserved
goals-preserved c =
    let inner = c.args.depth - 1 in
    let start = c.enter_list.new.self in
    let l = c.goals in
    let r = c.read_goal.new.tokens in
    let g = c.in-Ok.goal in
    let read = c.in_ok-of_id in
    let place = c.len.result in
    let at : GoalPlace = record { goal = place; nodes_before = l.nodes_before; rule = c.args.rule } in
    let going : (after_end_array l.tokens ≡ None) × (c.next_item.new.self ≡ l.tokens) = grind arith in
    let same : c.len-in-goals.result ≡ place = omega arith in
    let count : place ≡ length l.goals.items = omega arith in
    let kept : parse_map (goal_kept at) (value_at inner l.tokens) ≡ Some (record { of_id = read.of_id; goal = Ok (goal_of g) }, r) = rw (← going.1) (read.ensures.value ∙ ap₂ (λ of_id goal. Some (record { of_id = of_id; goal = goal_result_seen goal }, r)) read.of_id-is c.in-Ok.is) in
    let pushed = c.in_ok-push-in-Ok.ensures.items in
    let others : c.other_after-first_other.result ≡ other_after l.first_other read.of_id place = c.other_after-first_other.ensures ∙ ap₂ (other_after l.first_other) read.of_id-is same in
    let nodes = ap (λ (goals : List CertGoal). node_count (map goal_of goals)) pushed ∙ count-next l.goals.items g in
    let few = few-goal_nodes at inner l.tokens r read.of_id (goal_of g) kept in (
      GoalsWalked-push c.args.rule inner start l.tokens r l.goals.items c.push.new.self.items l.first_other c.other_after-first_other.result place l.nodes_before read.of_id g l.invariant.0 count l.invariant.1 going.0 kept pushed others,
      omega (arith, nodes, l.invariant.1),
      omega (arith, few, length-map g.nodes.items node_of),
      grind (arith, going.1, l.invariant.3, read.ensures.shorter),
    )

pub returns-in_err-pass_items-in-Err-clause-value : goal.returns-in_err-pass_items-in-Err-clause-value
returns-in_err-pass_items-in-Err-clause-value c =
    let inner = c.args.depth - 1 in
    let start = c.enter_list.new.self in
    let l = c.goals in
    let at : GoalPlace = record { goal = c.len.result; nodes_before = l.nodes_before; rule = c.args.rule } in
    let entered : parse_map list_of (value_at c.args.depth c.args.tokens.now) ≡ parse_map {A = List Data} Some (items_at inner start) = grind arith in
    let going : (after_end_array l.tokens ≡ None) × (c.next_item.new.self ≡ l.tokens) = grind arith in
    let none = GoalsWalked-not_passed c.args.rule c.args.depth inner c.args.tokens.now start l.tokens c.read_goal.new.tokens (map goal_of l.goals.items) l.first_other at (goal_read_seen c.in_ok-of_id.field-0) entered l.invariant.0 going.0 (rw (← going.1) c.in_ok-of_id.ensures.value) c.in_err-pass_items-in-Err.ensures.value in
    grind (arith, none)

pub returns-in-Err-clause-value : goal.returns-in-Err-clause-value
returns-in-Err-clause-value c =
    let inner = c.args.depth - 1 in
    let start = c.enter_list.new.self in
    let l = c.goals in
    let s = c.read_goal.new.tokens in
    let read = c.in_ok-of_id in
    let place = c.len.result in
    let fault = c.in-Err.fault in
    let at : GoalPlace = record { goal = place; nodes_before = l.nodes_before; rule = c.args.rule } in
    let entered : parse_map list_of (value_at c.args.depth c.args.tokens.now) ≡ parse_map {A = List Data} Some (items_at inner start) = grind arith in
    let going : (after_end_array l.tokens ≡ None) × (c.next_item.new.self ≡ l.tokens) = grind arith in
    let same : c.len-in-goals.result ≡ place = omega arith in
    let count : place ≡ length (map goal_of l.goals.items) = omega (arith, length-map l.goals.items goal_of) in
    let kept : parse_map (goal_kept at) (value_at inner l.tokens) ≡ Some (record { of_id = read.of_id; goal = Err fault }, s) = rw (← going.1) (read.ensures.value ∙ ap₂ (λ of_id goal. Some (record { of_id = of_id; goal = goal_result_seen goal }, s)) read.of_id-is c.in-Err.is) in
    let others : other_after l.first_other read.of_id (length (map goal_of l.goals.items)) ≡ c.other_after-first_other.result = sym (c.other_after-first_other.ensures ∙ ap₂ (other_after l.first_other) read.of_id-is (same ∙ count)) in
    GoalsWalked-stops c.args.rule c.args.depth inner c.args.tokens.now start l.tokens s c.pass_items.new.self (map goal_of l.goals.items) l.first_other place l.nodes_before read.of_id fault entered l.invariant.0 count l.invariant.1 going.0 kept c.in_ok-pass_items-in-Err.ensures.value
    ∙ ap (λ o. Some (record { in_version_1 = without_attributes o (Err fault); in_version_2 = Err fault }, c.pass_items.new.self)) others

pub returns-clause-value : goal.returns-clause-value
returns-clause-value c =
    let inner = c.args.depth - 1 in
    let start = c.enter_list.new.self in
    let l = c.goals in
    let entered : parse_map list_of (value_at c.args.depth c.args.tokens.now) ≡ parse_map {A = List Data} Some (items_at inner start) = grind arith in
    GoalsWalked-end c.args.rule c.args.depth inner c.args.tokens.now start l.tokens c.next_item.new.self (map goal_of l.goals.items) l.first_other entered l.invariant.0 (grind arith)
