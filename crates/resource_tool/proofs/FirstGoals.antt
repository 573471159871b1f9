-- What is made for the first goals of a list, one more than there may be nodes, is made for the whole list: the tree of each
-- goal has one node at least.
use Rattle.std.proofs.Common.{◌≡◌, ℕ, ◌+◌, ◌<◌, ◌≤◌, inl, inr, arith, zero, suc, true, false, Bool, List, [], ◌∷◌, length, map, take, Option, Some, Result, Ok, Err, refl, ap, subst, sym, ◌∙◌, length-take}
use Rattle.std.specs.Prelude.{slice_get}
use Rattle.std.specs.List.{All}
use Rattle.std.proofs.lemmas.Bool.{cases_lt}
use Rattle.std.proofs.lemmas.List.{take_all, length-map}
use Rattle.contract_words.specs.Faults.{◌>>=◌}
use Rattle.command_base.specs.overlay_map.Layer.{LayerOf}
use Rattle.command_base.specs.declared.fault.ToolFault.{ToolFault}
use Rattle.command_base.specs.declared.status.Status.{Status}
use Rattle.command_base.specs.declared.status.Status.TheVariants.{Done, Negative}
use Rattle.command_base.specs.Output.{Output}
use Rattle.command_base.specs.declared.stop.Stop.{Stop}
use Rattle.command_base.specs.CarriesOut.{CarriesOut}
use Rattle.command_base.specs.Stop.{StopOf}
use Rattle.resource_text.specs.cert_maker.box_answers.NumberSet.{SetOf}
use Rattle.resource_text.specs.cert_maker.res_value.Goal.{GoalSeen}
use Rattle.resource_text.specs.cert_maker.cert_tree.Certificate.{BagAt, GoalOf, NodeOf, GoalFits, goals_of, most_nodes, node_count}
use Rattle.resource_text.specs.cert_maker.cert_checker.declared.rule.Rule.TheVariants.{EndsEarly}
use Rattle.resource_text.specs.cert_maker.cert_checker.Paths.{open_at}
use Rattle.resource_text.specs.cert_maker.cert_checker.Fails.{Fails, NoRuleFails}
use Rattle.resource_text.specs.cert_maker.cert_checker.FirstFault.{goal_trace, goals_in, NoRuleFailsIn, IsAccepted}
use Rattle.resource_text.specs.cert_maker.declared.made.Made.{Made}
use Rattle.resource_text.specs.cert_maker.declared.made.Made.TheVariants.{Cert, Counter, NodeLimit}
use Rattle.resource_text.specs.cert_maker.Needed.{IsNeeded}
use Rattle.resource_text.specs.cert_maker.Made.{IsMade}
use Rattle.resource_tool.specs.GoalTold.{goal_told, line_about}
use Rattle.resource_tool.specs.Make.{OpenMakeOf, PrintsMade, first_opened, looked_at, most_goals, with_first}
use Rattle.resource_tool.specs.MakeOutput.{MakeInputs, IsReadAccepted, IsMakeAnswer, goal_of_made, made_output}
use Rattle.resource_tool.proofs.FirstOf.{carried-on-all, first-at, place-within, take-fewer, told-of-first}
use Rattle.resource_tool.proofs.MakeSteps.{not_done}
use Rattle.resource_tool.proofs.ToldAnswers.{told-otherwise}

-- ---- each tree has a node

-- an empty tree ends early
has-node : (stack : List LayerOf) (sets : List SetOf) (goal : GoalSeen) (nodes : List NodeOf) → NoRuleFails (goal_trace stack goal) sets nodes → 1 ≤ length nodes
unfolding Fails open_at
has-node stack sets goal [] passes = absurd (passes 0 EndsEarly refl)
has-node stack sets goal (node ∷ nodes) passes = omega arith

enough-nodes : (stack : List LayerOf) (sets : List SetOf) (trees : List GoalOf) → ((g : ℕ) (tree : GoalOf) → slice_get trees g ≡ Some tree → NoRuleFailsIn stack sets tree) → length trees ≤ node_count trees
enough-nodes stack sets [] passes = omega arith
enough-nodes stack sets (tree ∷ trees) passes =
    let here = has-node stack sets tree.goal tree.nodes (passes 0 tree refl) in
    let others = enough-nodes stack sets trees (λ g t is. passes (suc g) t is) in
    omega (arith, here, others)

-- a certificate has as many nodes as goals, or more
accepted-nodes : (stack : List LayerOf) (sets : List SetOf) (asked : List GoalSeen) (trees : List GoalOf) → IsAccepted stack sets asked trees → length asked ≤ node_count trees
accepted-nodes stack sets asked trees accepted =
    let enough = enough-nodes stack sets trees accepted.passes in
    let count = sym (length-map trees (λ (t : GoalOf). t.goal)) ∙ ap length accepted.goals in
    omega (arith, enough, count)

-- ---- a leaf for each goal

abbrev bare : GoalSeen → GoalOf
bare goal = record { goal = goal; nodes = BagAt (record { 0 = 0 }) ∷ [] }

goals_in-bare : (goals : List GoalSeen) → goals_in (map bare goals) ≡ goals
goals_in-bare [] = refl
goals_in-bare (goal ∷ goals) = ap (λ (others : List GoalSeen). goal ∷ others) (goals_in-bare goals)

node_count-bare : (goals : List GoalSeen) → node_count (map bare goals) ≡ length goals
node_count-bare [] = refl
node_count-bare (goal ∷ goals) = let e = node_count-bare goals in omega (arith, e)

-- nothing is said of leaves
needed-bare : (stack : List LayerOf) (sets : List SetOf) (goals : List GoalSeen) (g : ℕ) (tree : GoalOf) → slice_get (map bare goals) g ≡ Some tree → IsNeeded (goal_trace stack tree.goal) sets tree.nodes
needed-bare stack sets [] g tree is = absurd cc
needed-bare stack sets (goal ∷ goals) zero tree is =
    let same : bare goal ≡ tree = cc in subst (λ (t : GoalOf). IsNeeded (goal_trace stack t.goal) sets t.nodes) same (tt, tt)
needed-bare stack sets (goal ∷ goals) (suc g) tree is = needed-bare stack sets goals g tree is

-- more goals than nodes
over-limit : (stack : List LayerOf) (sets : List SetOf) (asked : List GoalSeen) (most : ℕ) → most < length asked → IsMade stack sets asked most NodeLimit
over-limit stack sets asked most more =
    let count = node_count-bare asked in (map bare asked, goals_in-bare asked, needed-bare stack sets asked, omega (arith, count, more))

-- ---- the answer

-- it is done only where there is a certificate
reads-back : (asked : List GoalSeen) (most : ℕ) (inputs : MakeInputs) (output : Output) → output.status ≡ Negative → output.status ≡ Done → most ≤ most_nodes → All GoalFits asked → IsReadAccepted asked inputs output.text
reads-back asked most inputs output negative done few styles = absurd (not_done (sym negative ∙ done))

status-of : (output : Output) (made : Made) → output ≡ made_output made → output.status ≡ (made_output made).status
status-of output made printed = ap (λ (o : Output). o.status) printed

-- where there are more goals
made-longer : (asked : List GoalSeen) (most : ℕ) (names : Bool) (inputs : MakeInputs) (output : Output) (lines : List ℕ) → most + 1 ≤ length asked → (made : Made)
    → IsMade inputs.stack inputs.sets (take (most + 1) asked) most made → output ≡ made_output made → lines ≡ goal_told inputs.stack (take (most + 1) asked) names (goal_of_made made)
    → IsMakeAnswer asked most names inputs output lines
unfolding goal_told line_about
made-longer asked most names inputs output lines longer (Cert certificate) right printed told =
    let nodes = accepted-nodes inputs.stack inputs.sets (take (most + 1) asked) (goals_of certificate) right.0 in
    let within = right.2 in
    let count = length-take (most + 1) asked in absurd (omega (arith, nodes, within, count, longer))
made-longer asked most names inputs output lines longer (Counter g device end) (goal, stands, shown) printed told =
    let within = place-within (most + 1) asked g goal stands in
    record {
      printed = record {
        made = Counter g device end;
        right = (goal, sym (first-at (most + 1) asked g within) ∙ stands, shown);
        least = tt;
        printed = printed;
        reads_back = reads-back asked most inputs output (status-of output (Counter g device end) printed);
      };
      told = told ∙ told-of-first inputs.stack asked names (most + 1) g within;
    }
made-longer asked most names inputs output lines longer NodeLimit right printed told = record {
  printed = record {
    made = NodeLimit;
    right = over-limit inputs.stack inputs.sets asked most (omega (arith, longer));
    least = λ c d line trees accepted. let nodes = accepted-nodes inputs.stack inputs.sets asked trees accepted in omega (arith, nodes, longer);
    printed = printed;
    reads_back = reads-back asked most inputs output (status-of output NodeLimit printed);
  };
  told = told;
}

-- The law: an answer to the first goals is one to all.
pub first-decide : (asked : List GoalSeen) (most : ℕ) (names : Bool) (inputs : MakeInputs) (output : Output) (lines : List ℕ)
    → IsMakeAnswer (take (most + 1) asked) most names inputs output lines → IsMakeAnswer asked most names inputs output lines
first-decide asked most names inputs output lines answer =
    elim (cases_lt most (length asked)) [
      | inl longer ↦ made-longer asked most names inputs output lines (omega (arith, longer)) answer.printed.made answer.printed.right answer.printed.printed answer.told
      | inr few ↦ subst (λ (goals : List GoalSeen). IsMakeAnswer goals most names inputs output lines) (take_all (most + 1) asked (omega (arith, few))) answer
    ]

-- So the command that is carried out on the first goals is carried out on all.
pub made-of-all : {W V : Type 0} (is_terminal names : Bool) (most : ℕ) (contents : W → Option (List ℕ)) (says : V → Option (List ℕ)) (old new : W) (before after : V) (make : OpenMakeOf) (done : Result Status ToolFault)
    → PrintsMade is_terminal false names most contents says old new before after (with_first (most + 1) make) done
    → PrintsMade is_terminal false names most contents says old new before after make done
made-of-all is_terminal names most contents says old new before after make done (shown, plain, told) = (
  shown,
  plain,
  told-otherwise (IsMakeAnswer (take (most + 1) make.goals) most names) (IsMakeAnswer make.goals most names) contents says old new shown after done (Ok make.opened)
      (λ inputs output lines is answer. first-decide make.goals most names inputs output lines answer) told,
)

-- ---- all goals

-- where there is room for more, the first goals are all
all-opened : (meant : Result OpenMakeOf StopOf) (n : ℕ) (make : OpenMakeOf) → (meant >>= λ all. Ok (with_first n all)) ≡ Ok make → length make.goals < n → meant ≡ Ok make
all-opened (Ok all) n make is few =
    let same : with_first n all ≡ make = cc in
    let count = ap (λ (m : OpenMakeOf). length m.goals) same in
    let goals = take-fewer n all.goals (omega (arith, count, few)) in
    let wrapped : OpenMakeOf → Result OpenMakeOf StopOf = λ m. Ok m in
    let with_goals : List GoalSeen → OpenMakeOf = λ goals. record { opened = all.opened; goals = goals } in
    ap wrapped (sym (ap with_goals goals) ∙ same)
all-opened (Err stop) n make is few = absurd cc

none-opened : (meant : Result OpenMakeOf StopOf) (n : ℕ) (stop : StopOf) → (meant >>= λ all. Ok (with_first n all)) ≡ Err stop → meant ≡ Err stop
none-opened (Ok all) n stop is = absurd cc
none-opened (Err other) n stop is = is

-- ---- the goals that are looked at

pub opened-looked_at : (omit : Bool) (most : ℕ) (meant : Result OpenMakeOf StopOf) (make : OpenMakeOf) → first_opened (most_goals omit most) meant ≡ Ok make → length make.goals < 18446744073709551615
    → looked_at omit most meant ≡ Ok make
opened-looked_at true most meant make is few = all-opened meant 18446744073709551615 make is few
opened-looked_at false most meant make is few = is

pub none-looked_at : (omit : Bool) (most : ℕ) (meant : Result OpenMakeOf StopOf) (stop : StopOf) → first_opened (most_goals omit most) meant ≡ Err stop → looked_at omit most meant ≡ Err stop
none-looked_at true most meant stop is = none-opened meant 18446744073709551615 stop is
none-looked_at false most meant stop is = is

pub carried-looked_at : {W V : Type 0} (is_terminal omit names : Bool) (most : ℕ) (contents : W → Option (List ℕ)) (says : V → Option (List ℕ)) (old new : W) (before after : V) (meant : Result OpenMakeOf StopOf)
    (result : Result Status Stop) → CarriesOut (PrintsMade is_terminal omit names most contents says old new before after) (looked_at omit most meant) result
    → CarriesOut (PrintsMade is_terminal omit names most contents says old new before after) meant result
carried-looked_at is_terminal true names most contents says old new before after meant result carried = carried
carried-looked_at is_terminal false names most contents says old new before after meant result carried =
    carried-on-all (with_first (most + 1)) (PrintsMade is_terminal false names most contents says old new before after) meant result
    (made-of-all is_terminal names most contents says old new before after) carried
