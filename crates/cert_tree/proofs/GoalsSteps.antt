-- How the goals of a certificate are read in both versions.
use Rattle.std.proofs.Common.{◌≡◌, ℕ, ◌+◌, ◌≤◌, Bool, true, false, List, [], ◌∷◌, ◌++◌, length, map, Option, Some, None, ok_or, Result, Ok, Err, if◌then◌else◌, refl, sym, subst, ap, ap₂, ◌∙◌, arith}
use Rattle.std.specs.Prelude.{codes, nat_lt}
use Rattle.std.proofs.lemmas.Bool.Decides.{nat_tests}
use Rattle.std.proofs.lemmas.List.{length-map, map-append}
use Rattle.contract_words.specs.Faults.{◌>>=◌, refuse}
use Rattle.json.specs.Token.{Token}
use Rattle.json.specs.Json.{parse_map, after_end_array}
use Rattle.json.proofs.Grammar.{left}
use Rattle.serde_json.specs.Data.{Data}
use Rattle.serde_json.specs.Find.{get}
use Rattle.json_input.specs.Each.{list_of}
use Rattle.json_input.specs.Shape.{has_only}
use Rattle.json_tokens.specs.Standing.{value_at, items_at}
use Rattle.json_tokens.proofs.Standing.{read_some, list-read, list-malformed}
use Rattle.json_tokens.proofs.Walked.{Walked, Walked-none, Walked-next, Walked-end, Walked-malformed, Walked-passed, Walked-not_passed}
use Rattle.config_box.specs.config_record.locales.declared.locale_rule.LocaleRule.{LocaleRule}
use Rattle.cert_tree.specs.declared.cert.CertGoal.{CertGoal}
use Rattle.cert_tree.specs.declared.cert_fault.CertFault.{CertFault}
use Rattle.cert_tree.specs.declared.cert_fault.CertFault.TheVariants.{Shape, TooManyNodes}
use Rattle.cert_tree.specs.declared.goal_members.GoalPlace.{GoalPlace}
use Rattle.cert_tree.specs.Certificate.{NodeOf, GoalOf, goal_of, node_count, most_nodes}
use Rattle.cert_tree.specs.ReadOn.{read_on}
use Rattle.res_value.specs.Goal.{GoalSeen}
use Rattle.cert_tree.proofs.ReadOnSteps.{read_on-one_more, read_on-stops, read_on-length}
use Rattle.cert_tree.specs.CertJson.{asked_in, id_goal_in, attr_goal_in, nodes_in, node_after, goal_in, goal_after, goals_in}
use Rattle.cert_tree.specs.KeptGoals.{id_names, shape_at, goal_members, goal_of_members, asked_of}
use Rattle.cert_tree.specs.KeptCert.{GoalKept, goal_kept, GoalsOf, goals_in_both, no_goals, without_attributes, other_after}

-- ---- one goal

pub goal_kept-of_members : (at : GoalPlace) (value : Data) (of_id : Bool) (goal : Result GoalOf CertFault) → (goal_members at value).of_id ≡ of_id → goal_of_members (shape_at at) (goal_members at value) ≡ goal
    → goal_kept at value ≡ record { of_id = of_id; goal = goal }
unfolding goal_kept goal_in asked_in id_goal_in attr_goal_in goal_members goal_of_members asked_of
goal_kept-of_members at value of_id goal is same = λ i. record { of_id = is i; goal = same i }

-- a goal that is none of an id is none where there can be none of attributes
plain-goal : (rule : LocaleRule) (place nodes : ℕ) (value : Data) → goal_in rule false place nodes value ≡ (if has_only id_names value then goal_in rule true place nodes value else Err (Shape place 0))
unfolding goal_in asked_in
plain-goal rule place nodes value = by (has_only id_names value) refl
  where
    by : (b : Bool) → has_only id_names value ≡ b → goal_in rule false place nodes value ≡ (if b then goal_in rule true place nodes value else Err (Shape place 0))
    by true is = rw is refl
    by false is = rw is refl

-- ---- a loop over goals

pub record GoalsWalked (rule : LocaleRule) (depth : ℕ) (start : List Token) (goals : List GoalOf) (other : Option ℕ) (now : List Token) : Type 0 where
  pub before : List Data
  pub walked : Walked depth start before now
  pub second : read_on (goal_after rule true) [] before ≡ Ok goals
  pub first : read_on (goal_after rule false) [] before ≡ without_attributes other (Ok goals)

pub GoalsWalked-none : (rule : LocaleRule) (depth : ℕ) (start : List Token) → GoalsWalked rule depth start [] None start
unfolding read_on
GoalsWalked-none rule depth start = record { before = []; walked = Walked-none depth start; second = refl; first = refl }

-- the goals in version 1 with one goal more
plain-more : (rule : LocaleRule) (before : List Data) (value : Data) (goals : List GoalOf) (other : Option ℕ) (of_id : Bool) (r : Result GoalOf CertFault)
    → read_on (goal_after rule false) [] before ≡ without_attributes other (Ok goals) → has_only id_names value ≡ of_id → goal_after rule true goals value ≡ r
    → read_on (goal_after rule false) [] (before ++ value ∷ []) ≡ without_attributes (other_after other of_id (length goals)) (r >>= λ g. Ok (goals ++ g ∷ []))
plain-more rule before value goals (Some place) of_id r e is same = read_on-stops (goal_after rule false) before (value ∷ []) (Shape place 0) e
plain-more rule before value goals None true r e is same =
    read_on-one_more (goal_after rule false) before value goals r e
    (plain-goal rule (length goals) (node_count goals) value
    ∙ ap (λ b. if b then goal_after rule true goals value else Err (Shape (length goals) 0)) is
    ∙ same)
plain-more rule before value goals None false r e is same =
    read_on-one_more (goal_after rule false) before value goals (Err (Shape (length goals) 0)) e
    (plain-goal rule (length goals) (node_count goals) value
    ∙ ap (λ b. if b then goal_after rule true goals value else Err (Shape (length goals) 0)) is)

-- a goal that stands next, in the place that comes after those before it
kept-next : (rule : LocaleRule) (place nodes : ℕ) (goals : List GoalOf) (value : Data) (kept : GoalKept) → place ≡ length goals → nodes ≡ node_count goals
    → goal_kept (record { goal = place; nodes_before = nodes; rule = rule }) value ≡ kept → (has_only id_names value ≡ kept.of_id) × (goal_after rule true goals value ≡ kept.goal)
unfolding goal_kept
kept-next rule place nodes goals value kept count all e = (
  ap (λ (k : GoalKept). k.of_id) e,
  ap₂ (λ place nodes. goal_in rule true place nodes value) (sym count) (sym all) ∙ ap (λ (k : GoalKept). k.goal) e,
)

pub GoalsWalked-next : (rule : LocaleRule) (depth : ℕ) (start now r : List Token) (goals : List GoalOf) (other : Option ℕ) (place nodes : ℕ) (of_id : Bool) (g : GoalOf)
    → GoalsWalked rule depth start goals other now → place ≡ length goals → nodes ≡ node_count goals → after_end_array now ≡ None
    → parse_map (goal_kept (record { goal = place; nodes_before = nodes; rule = rule })) (value_at depth now) ≡ Some (record { of_id = of_id; goal = Ok g }, r)
    → GoalsWalked rule depth start (goals ++ g ∷ []) (other_after other of_id (length goals)) r
GoalsWalked-next rule depth start now r goals other place nodes of_id g so count all going e =
    let kept : GoalKept = record { of_id = of_id; goal = Ok g } in
    let d = read_some (goal_kept (record { goal = place; nodes_before = nodes; rule = rule })) (value_at depth now) kept r e in
    let is = kept-next rule place nodes goals d.0 kept count all d.2 in
    record {
      before = so.before ++ d.0 ∷ [];
      walked = Walked-next depth start now r so.before d.0 so.walked going d.1;
      second = read_on-one_more (goal_after rule true) so.before d.0 goals (Ok g) so.second is.1;
      first = plain-more rule so.before d.0 goals other of_id (Ok g) so.first is.0 is.1;
    }

abbrev Entered : ℕ → ℕ → List Token → List Token → Type 0
Entered depth inner ts start = parse_map list_of (value_at depth ts) ≡ parse_map {A = List Data} Some (items_at inner start)

abbrev in_both : LocaleRule → Option (List Data) → GoalsOf
in_both rule items = record {
  in_version_1 = ok_or items (Shape 0 0) >>= read_on (goal_after rule false) [];
  in_version_2 = ok_or items (Shape 0 0) >>= read_on (goal_after rule true) [];
}

both-read : (rule : LocaleRule) (depth inner : ℕ) (ts start r : List Token) (items : List Data) (plain goals : Result (List GoalOf) CertFault)
    → Entered depth inner ts start → items_at inner start ≡ Some (items, r) → read_on (goal_after rule false) [] items ≡ plain → read_on (goal_after rule true) [] items ≡ goals
    → parse_map (goals_in_both rule) (value_at depth ts) ≡ Some (record { in_version_1 = plain; in_version_2 = goals }, r)
unfolding goals_in_both goals_in
both-read rule depth inner ts start r items plain goals entered e first second =
    list-read (in_both rule) depth inner ts start r items entered e ∙ (λ i. Some (record { in_version_1 = first i; in_version_2 = second i }, r))

pub GoalsWalked-end : (rule : LocaleRule) (depth inner : ℕ) (ts start now r : List Token) (goals : List GoalOf) (other : Option ℕ)
    → Entered depth inner ts start → GoalsWalked rule inner start goals other now → after_end_array now ≡ Some r
    → parse_map (goals_in_both rule) (value_at depth ts) ≡ Some (record { in_version_1 = without_attributes other (Ok goals); in_version_2 = Ok goals }, r)
GoalsWalked-end rule depth inner ts start now r goals other entered so e =
    both-read rule depth inner ts start r so.before (without_attributes other (Ok goals)) (Ok goals) entered (Walked-end inner start now r so.before so.walked e) so.first so.second

-- the first fault, and all behind it
pub GoalsWalked-stops : (rule : LocaleRule) (depth inner : ℕ) (ts start now s r : List Token) (goals : List GoalOf) (other : Option ℕ) (place nodes : ℕ) (of_id : Bool) (fault : CertFault)
    → Entered depth inner ts start → GoalsWalked rule inner start goals other now → place ≡ length goals → nodes ≡ node_count goals → after_end_array now ≡ None
    → parse_map (goal_kept (record { goal = place; nodes_before = nodes; rule = rule })) (value_at inner now) ≡ Some (record { of_id = of_id; goal = Err fault }, s) → left (items_at inner s) ≡ Some r
    → parse_map (goals_in_both rule) (value_at depth ts) ≡ Some (record { in_version_1 = without_attributes (other_after other of_id (length goals)) (Err fault); in_version_2 = Err fault }, r)
GoalsWalked-stops rule depth inner ts start now s r goals other place nodes of_id fault entered so count all going e passed =
    let kept : GoalKept = record { of_id = of_id; goal = Err fault } in
    let d = read_some (goal_kept (record { goal = place; nodes_before = nodes; rule = rule })) (value_at inner now) kept s e in
    let is = kept-next rule place nodes goals d.0 kept count all d.2 in
    let others = Walked-passed inner start s r (so.before ++ d.0 ∷ []) (Walked-next inner start now s so.before d.0 so.walked going d.1) passed in
    let now_other = other_after other of_id (length goals) in
    both-read rule depth inner ts start r ((so.before ++ d.0 ∷ []) ++ others.0) (without_attributes now_other (Err fault)) (Err fault) entered others.1
    (plain-stops now_other (so.before ++ d.0 ∷ []) others.0 (plain-more rule so.before d.0 goals other of_id (Err fault) so.first is.0 is.1))
    (read_on-stops (goal_after rule true) (so.before ++ d.0 ∷ []) others.0 fault (read_on-one_more (goal_after rule true) so.before d.0 goals (Err fault) so.second is.1))
  where
    plain-stops : (o : Option ℕ) (before others : List Data) → read_on (goal_after rule false) [] before ≡ without_attributes o (Err fault) → read_on (goal_after rule false) [] (before ++ others) ≡ without_attributes o (Err fault)
    plain-stops (Some p) before others e = read_on-stops (goal_after rule false) before others (Shape p 0) e
    plain-stops None before others e = read_on-stops (goal_after rule false) before others fault e

pub GoalsWalked-malformed : (rule : LocaleRule) (depth inner : ℕ) (ts start now : List Token) (goals : List GoalOf) (other : Option ℕ)
    → Entered depth inner ts start → GoalsWalked rule inner start goals other now → after_end_array now ≡ None → value_at inner now ≡ None → value_at depth ts ≡ None
GoalsWalked-malformed rule depth inner ts start now goals other entered so going e = list-malformed depth inner ts start entered (Walked-malformed inner start now so.before so.walked going e)

pub GoalsWalked-not_passed : (rule : LocaleRule) (depth inner : ℕ) (ts start now s : List Token) (goals : List GoalOf) (other : Option ℕ) (at : GoalPlace) (kept : GoalKept)
    → Entered depth inner ts start → GoalsWalked rule inner start goals other now → after_end_array now ≡ None → parse_map (goal_kept at) (value_at inner now) ≡ Some (kept, s) → items_at inner s ≡ None → value_at depth ts ≡ None
GoalsWalked-not_passed rule depth inner ts start now s goals other at kept entered so going e none =
    let d = read_some (goal_kept at) (value_at inner now) kept s e in
    list-malformed depth inner ts start entered (Walked-not_passed inner start s (so.before ++ d.0 ∷ []) (Walked-next inner start now s so.before d.0 so.walked going d.1) none)

pub goals-no_list : (rule : LocaleRule) (depth : ℕ) (ts r : List Token) → parse_map list_of (value_at depth ts) ≡ Some (None, r) → parse_map (goals_in_both rule) (value_at depth ts) ≡ Some (no_goals, r)
unfolding goals_in_both goals_in
goals-no_list rule depth ts r e =
    let d = read_some list_of (value_at depth ts) None r e in
    ap (parse_map (λ (value : Data). in_both rule (list_of value))) d.1 ∙ ap (λ o. Some (in_both rule o, r)) d.2

-- ---- how many nodes there are

abbrev nodes_of : Result GoalOf CertFault → List NodeOf
nodes_of (Ok g) = g.nodes
nodes_of (Err fault) = []

few-nodes : (rule : LocaleRule) (place nodes : ℕ) (value : Data) (those : List NodeOf) → nodes_in rule place nodes value ≡ Ok those → nodes + length those ≤ most_nodes
unfolding nodes_in
few-nodes rule place nodes value those e = by (list_of value) e
  where
    tested : (items : List Data) (many : Bool) → nat_lt most_nodes (nodes + length items) ≡ many → (refuse many TooManyNodes >>= λ _. read_on (node_after rule place) [] items) ≡ Ok those → nodes + length those ≤ most_nodes
    tested items true is e = absurd (cc)
    tested items false is e =
        let count = read_on-length (node_after rule place) [] items those e in
        let few : nodes + length items ≤ most_nodes = grind (arith, nat_tests) in
        omega (arith, count, few)

    by : (o : Option (List Data)) → (ok_or o (Shape place 0) >>= λ items. refuse (nat_lt most_nodes (nodes + length items)) TooManyNodes >>= λ _. read_on (node_after rule place) [] items) ≡ Ok those → nodes + length those ≤ most_nodes
    by None e = absurd (cc)
    by (Some items) e = tested items (nat_lt most_nodes (nodes + length items)) refl e

pub few-goal_nodes : (at : GoalPlace) (depth : ℕ) (ts r : List Token) (of_id : Bool) (g : GoalOf) → parse_map (goal_kept at) (value_at depth ts) ≡ Some (record { of_id = of_id; goal = Ok g }, r)
    → at.nodes_before + length g.nodes ≤ most_nodes
unfolding goal_kept goal_in
few-goal_nodes at depth ts r of_id g e =
    let d = read_some (goal_kept at) (value_at depth ts) (record { of_id = of_id; goal = Ok g }) r e in
    asked (asked_in true (shape_at at) d.0) (get (codes "nodes") d.0) (ap (λ (k : GoalKept). k.goal) d.2)
  where
    noded : (asked : GoalSeen) (nodes : Result (List NodeOf) CertFault) → ((those : List NodeOf) → nodes ≡ Ok those → at.nodes_before + length those ≤ most_nodes)
        → (nodes >>= λ nodes. Ok (record { goal = asked; nodes = nodes })) ≡ Ok g → at.nodes_before + length g.nodes ≤ most_nodes
    noded asked (Ok those) few e = let same : those ≡ g.nodes = ap nodes_of e in rw (sym same) (few those refl)
    noded asked (Err fault) few e = absurd (cc)

    asked : (a : Result GoalSeen CertFault) (o : Option Data) → (a >>= λ asked. (ok_or o (shape_at at) >>= nodes_in at.rule at.goal at.nodes_before) >>= λ nodes. Ok (record { goal = asked; nodes = nodes })) ≡ Ok g
        → at.nodes_before + length g.nodes ≤ most_nodes
    asked (Err fault) o e = absurd (cc)
    asked (Ok a) None e = absurd (cc)
    asked (Ok a) (Some value) e = noded a (nodes_in at.rule at.goal at.nodes_before value) (few-nodes at.rule at.goal at.nodes_before value) e

-- ---- where the goals are seen by their view

pub GoalsWalked-push : (rule : LocaleRule) (depth : ℕ) (start now r : List Token) (goals pushed : List CertGoal) (other next_other : Option ℕ) (place nodes : ℕ) (of_id : Bool) (g : CertGoal)
    → GoalsWalked rule depth start (map goal_of goals) other now → place ≡ length goals → nodes ≡ node_count (map goal_of goals) → after_end_array now ≡ None
    → parse_map (goal_kept (record { goal = place; nodes_before = nodes; rule = rule })) (value_at depth now) ≡ Some (record { of_id = of_id; goal = Ok (goal_of g) }, r)
    → pushed ≡ goals ++ g ∷ [] → next_other ≡ other_after other of_id place → GoalsWalked rule depth start (map goal_of pushed) next_other r
GoalsWalked-push rule depth start now r goals pushed other next_other place nodes of_id g so count all going e is after =
    let many : place ≡ length (map goal_of goals) = count ∙ sym (length-map goals goal_of) in
    let all_goals : map goal_of goals ++ goal_of g ∷ [] ≡ map goal_of pushed = sym (map-append goal_of goals (g ∷ [])) ∙ ap (map goal_of) (sym is) in
    let such : other_after other of_id (length (map goal_of goals)) ≡ next_other = ap (other_after other of_id) (sym many) ∙ sym after in
    subst (λ goals. GoalsWalked rule depth start goals next_other r) all_goals
    (subst (λ other. GoalsWalked rule depth start (map goal_of goals ++ goal_of g ∷ []) other r) such
    (GoalsWalked-next rule depth start now r (map goal_of goals) other place nodes of_id (goal_of g) so many all going e))
