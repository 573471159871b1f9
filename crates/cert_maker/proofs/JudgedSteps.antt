-- From goal to goal, where some are left out.
use Rattle.std.proofs.Common.{◌≡◌, ℕ, ◌+◌, ◌-◌, ◌<◌, ◌≤◌, arith, zero, suc, true, List, [], ◌∷◌, ◌++◌, append-nil, length, take, Some, refl, sym, ◌∙◌, ap, subst}
use Rattle.std.specs.Prelude.{slice_get}
use Rattle.std.specs.List.{All}
use Rattle.std.specs.List.Sorted.{IsStrictlyIncreasing}
use Rattle.std.proofs.lemmas.List.{map-append, take_more, take_all, length-take-le}
use Rattle.std.proofs.lemmas.List.Elements.{All-nil, All-cons, All-head, All-tail, All-push, All-weaker}
use Rattle.std.proofs.lemmas.Option.{slice_get_within, get_or_from_slice_get}
use Rattle.cert_checker.specs.config_record.DeviceSeen.{device_numbers}
use Rattle.cert_checker.specs.overlay_map.Layer.{LayerOf}
use Rattle.cert_checker.specs.reference_resolver.declared.end.End.{End}
use Rattle.cert_checker.specs.reference_resolver.declared.end.End.TheVariants as ends
use Rattle.cert_checker.specs.reference_resolver.Ends.{is_value}
use Rattle.cert_checker.specs.box_answers.NumberSet.{SetOf}
use Rattle.cert_checker.specs.cert_tree.declared.cert.Cert.{Cert}
use Rattle.cert_checker.specs.cert_tree.Certificate.{NodeOf, TestAt, ValueAt, BagAt, GoalOf, goals_of}
use Rattle.cert_checker.specs.res_value.Goal.{GoalSeen}
use Rattle.cert_checker.specs.FirstFault.{goal_trace, goals_in}
use Rattle.cert_checker.specs.Paths.{leaf_end}
use Rattle.cert_checker.proofs.HeadlineSteps.{rules_end}
use Rattle.cert_checker.proofs.Law.{reaches, ends_at_leaf}
use Rattle.cert_maker.specs.declared.made.Made.TheVariants as made
use Rattle.cert_maker.specs.declared.omitted.Omitted.{Omitted}
use Rattle.cert_maker.specs.Made.{HasNoValue, IsCounterexample, IsMade}
use Rattle.cert_maker.specs.Omitting.{HasValues, places_of, without, IsMadeWithout, PassesLimit}
use Rattle.cert_maker.specs.Trees.{IsGoodTree, AreDone}
use Rattle.cert_maker.specs.Judged.{AreJudged}
use Rattle.cert_maker.proofs.GoalSteps.{HasNeeded, node_count-append, with-bare, accepted, written}
use Rattle.cert_maker.proofs.Least.{made-least}
use Rattle.cert_maker.proofs.Without.{AreBelow, rises-push, without-append, without-next}

-- those up to the next place
next : (asked : List GoalSeen) (place : ℕ) (goal : GoalSeen) → slice_get asked place ≡ Some goal → take (place + 1) asked ≡ take place asked ++ goal ∷ []
next asked place goal is =
    take_more asked place goal (slice_get_within asked place goal is) ∙ ap (λ (g : GoalSeen). take place asked ++ g ∷ []) (get_or_from_slice_get asked place goal goal is)

count : (asked : List GoalSeen) (place : ℕ) (goal : GoalSeen) → slice_get asked place ≡ Some goal → length (take place asked) ≡ place
count asked place goal is = let within = slice_get_within asked place goal is in length-take-le place asked (omega (arith, within))

below-more : (place : ℕ) (places : List ℕ) → AreBelow place places → AreBelow (place + 1) places
below-more place places below = All-weaker (λ n. n < place) (λ n. n < place + 1) (λ n less. omega (arith, less)) places below

-- a leaf says a value or a bag
says-value : (leaf : NodeOf) (end : End) → leaf_end leaf ≡ Some end → is_value end ≡ true
says-value (TestAt test) end says = absurd cc
says-value (ValueAt layer value) end says = let same : ends.Value layer value ≡ end = cc in subst (λ (e : End). is_value e ≡ true) same refl
says-value (BagAt id) end says = let same : ends.Bag id ≡ end = cc in subst (λ (e : End). is_value e ≡ true) same refl

-- goals that have their trees have values
have-values : (stack : List LayerOf) (sets : List SetOf) (trees : List GoalOf) → All (IsGoodTree stack sets) trees → All (HasValues stack sets) (goals_in trees)
have-values stack sets [] good = All-nil (HasValues stack sets)
have-values stack sets (tree ∷ trees) good =
    let trace = goal_trace stack tree.goal in
    let passes = (All-head (IsGoodTree stack sets) tree trees good).passes in
    All-cons (HasValues stack sets) tree.goal (goals_in trees)
    (λ d m. let r = reaches trace sets tree.nodes d passes in
    (r.0, rules_end stack tree.goal d r.0 (ends_at_leaf trace sets tree.nodes d r.0 passes m r.1), says-value r.1.leaf r.0 r.1.says))
    (have-values stack sets trees (All-tail (IsGoodTree stack sets) tree trees good))

at-before : (n k : ℕ) (goals : List GoalSeen) (goal : GoalSeen) → k < n → slice_get goals k ≡ Some goal → slice_get (take n goals) k ≡ Some goal
at-before zero k goals goal less is = absurd (omega (arith, less))
at-before (suc n) k [] goal less is = is
at-before (suc n) zero (g ∷ goals) goal less is = is
at-before (suc n) (suc k) (g ∷ goals) goal less is = at-before n k goals goal (omega (arith, less)) is

-- what is left out before a place is left out of the goals before it
each-before : (stack : List LayerOf) (sets : List SetOf) (asked : List GoalSeen) (place : ℕ) (omitted : List Omitted) → AreBelow place (places_of omitted)
    → All (λ (o : Omitted). HasNoValue stack sets asked o.goal (device_numbers o.device) o.ending) omitted
    → All (λ (o : Omitted). HasNoValue stack sets (take place asked) o.goal (device_numbers o.device) o.ending) omitted
each-before stack sets asked place [] below each = All-nil (λ (o : Omitted). HasNoValue stack sets (take place asked) o.goal (device_numbers o.device) o.ending)
each-before stack sets asked place (o ∷ omitted) below each =
    let IsIn : List GoalSeen → Omitted → Type 0 = λ goals o. HasNoValue stack sets goals o.goal (device_numbers o.device) o.ending in
    let here = All-head (IsIn asked) o omitted each in
    All-cons (IsIn (take place asked)) o omitted
    (here.0, at-before place o.goal asked here.0 (All-head (λ n. n < place) o.goal (places_of omitted) below) here.1, here.2)
    (each-before stack sets asked place omitted (All-tail (λ n. n < place) o.goal (places_of omitted) below) (All-tail (IsIn asked) o omitted each))

-- the next goal has its tree
pub kept : (stack : List LayerOf) (sets : List SetOf) (asked : List GoalSeen) (place most spare : ℕ) (trees : List GoalOf) (omitted : List Omitted) (tree : GoalOf) → slice_get asked place ≡ Some tree.goal
    → AreJudged stack sets asked place most trees omitted spare → IsGoodTree stack sets tree → length tree.nodes ≤ spare
    → AreJudged stack sets asked (place + 1) most (trees ++ tree ∷ []) omitted (spare - length tree.nodes)
kept stack sets asked place most spare trees omitted tree is h good few =
    let places = places_of omitted in
    let below : AreBelow (length (take place asked)) places = subst (λ (n : ℕ). AreBelow n places) (sym (count asked place tree.goal is)) h.before in
    let nodes = node_count-append trees (tree ∷ []) in
    let room = h.room in
    record {
      goals = map-append (λ (t : GoalOf). t.goal) trees (tree ∷ []) ∙ ap (λ (goals : List GoalSeen). goals ++ tree.goal ∷ []) h.goals
          ∙ sym (without-append places (take place asked) (tree.goal ∷ []) below) ∙ ap (without places) (sym (next asked place tree.goal is));
      good = All-push (IsGoodTree stack sets) trees tree h.good good;
      rise = h.rise;
      each = h.each;
      before = below-more place places h.before;
      room = omega (arith, nodes, room, few);
    }

-- or it is left out
pub left-out : (stack : List LayerOf) (sets : List SetOf) (asked : List GoalSeen) (place most spare : ℕ) (trees : List GoalOf) (omitted : List Omitted) (goal : GoalSeen) (o : Omitted) → o.goal ≡ place
    → slice_get asked place ≡ Some goal → AreJudged stack sets asked place most trees omitted spare → IsCounterexample stack sets goal (device_numbers o.device) o.ending
    → AreJudged stack sets asked (place + 1) most trees (omitted ++ o ∷ []) spare
left-out stack sets asked place most spare trees omitted goal o at is h counter =
    let places = places_of omitted in
    let more : places_of (omitted ++ o ∷ []) ≡ places ++ place ∷ [] = map-append (λ (o : Omitted). o.goal) omitted (o ∷ []) ∙ ap (λ (n : ℕ). places ++ n ∷ []) at in
    let counted : places_of (omitted ++ o ∷ []) ≡ places ++ length (take place asked) ∷ [] = more ∙ ap (λ (n : ℕ). places ++ n ∷ []) (sym (count asked place goal is)) in
    let first : without (places ++ length (take place asked) ∷ []) (take place asked ++ goal ∷ []) ≡ without (places_of (omitted ++ o ∷ [])) (take (place + 1) asked) =
    ap (λ (ns : List ℕ). without ns (take place asked ++ goal ∷ [])) (sym counted) ∙ ap (without (places_of (omitted ++ o ∷ []))) (sym (next asked place goal is)) in
    record {
      goals = h.goals ∙ sym (without-next places (take place asked) goal) ∙ first;
      good = h.good;
      rise = subst IsStrictlyIncreasing (sym more) (rises-push places place h.rise h.before);
      each = All-push (λ (o : Omitted). HasNoValue stack sets asked o.goal (device_numbers o.device) o.ending) omitted o h.each (goal, ap (slice_get asked) at ∙ is, counter);
      before = subst (AreBelow (place + 1)) (sym more) (All-push (λ n. n < place + 1) places place (below-more place places h.before) (omega arith));
      room = h.room;
    }

-- or its tree is too large
pub beyond : (stack : List LayerOf) (sets : List SetOf) (asked : List GoalSeen) (place most spare : ℕ) (trees : List GoalOf) (omitted : List Omitted) (tree : GoalOf) → slice_get asked place ≡ Some tree.goal
    → AreJudged stack sets asked place most trees omitted spare → HasNeeded stack sets tree → spare < length tree.nodes → PassesLimit stack sets asked most
beyond stack sets asked place most spare trees omitted tree is h needed more =
    let room = h.room in
    let goals = without (places_of omitted) (take place asked) ++ tree.goal ∷ [] in
    let large = with-bare stack sets [] most trees tree h.good needed (omega (arith, room, more)) in
    let right : IsMade stack sets goals most made.NodeLimit = (large.0, large.1 ∙ ap (λ (kept : List GoalSeen). kept ++ tree.goal ∷ []) h.goals, large.2, large.3) in
    record {
      place = place;
      goal = tree.goal;
      stands = is;
      omitted = omitted;
      left_out = record {
        rise = h.rise;
        each = each-before stack sets asked place omitted h.before h.each;
        others = subst (All (HasValues stack sets)) h.goals (have-values stack sets trees h.good);
      };
      right = right;
      least = made-least stack sets goals most made.NodeLimit right;
    }

-- all are judged
pub certified : (stack : List LayerOf) (sets : List SetOf) (asked : List GoalSeen) (place most spare : ℕ) (certificate : Cert) (omitted : List Omitted) → length asked ≤ place
    → AreJudged stack sets asked place most (goals_of certificate) omitted spare → IsMadeWithout stack sets asked most omitted (made.Cert certificate)
certified stack sets asked place most spare certificate omitted end h =
    let trees = goals_of certificate in
    let goals = without (places_of omitted) asked in
    let room = h.room in
    let done : AreDone stack sets goals [] most trees spare = record {
      goals = append-nil (goals_in trees) ∙ h.goals ∙ ap (without (places_of omitted)) (take_all place asked end);
      good = h.good;
      room = omega (arith, room);
    } in
    let right = accepted stack sets goals most spare trees done in
    record {
      left_out = record {
        rise = h.rise;
        each = h.each;
        others = subst (All (HasValues stack sets)) (h.goals ∙ ap (without (places_of omitted)) (take_all place asked end)) (have-values stack sets trees h.good);
      };
      right = right;
      least = made-least stack sets goals most (made.Cert certificate) right;
      fits = written stack sets trees h.good;
    }
