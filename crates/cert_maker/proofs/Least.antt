-- What is made is the least, where at most one coordinate of the box has several values.
use Rattle.std.proofs.Common.{◌≡◌, ℕ, suc, ◌≤◌, List, [], ◌∷◌, Some, arith, length, sym, ◌∙◌, ap, refl, subst}
use Rattle.std.specs.Prelude.{slice_get}
use Rattle.cert_checker.specs.config_record.declared.coord.Coord.{Coord}
use Rattle.cert_checker.specs.overlay_map.Layer.{LayerOf}
use Rattle.cert_checker.specs.box_answers.NumberSet.{SetOf}
use Rattle.cert_checker.specs.cert_tree.Certificate.{GoalOf, node_count}
use Rattle.cert_checker.specs.res_value.Goal.{GoalSeen}
use Rattle.cert_checker.specs.Fails.{NoRuleFails}
use Rattle.cert_checker.specs.FirstFault.{goal_trace, goals_in, NoRuleFailsIn}
use Rattle.cert_maker.specs.Needed.{IsNeeded}
use Rattle.cert_maker.specs.Runs.{IsOnLine}
use Rattle.cert_maker.proofs.LeastTree.{small, large, least}
use Rattle.cert_maker.specs.declared.made.Made.{Made}
use Rattle.cert_maker.specs.declared.made.Made.TheVariants.{Cert, Counter, NodeLimit}
use Rattle.cert_maker.specs.Made.{AreNeeded, IsMade}
use Rattle.cert_maker.specs.Least.{IsLeastTree, IsLeast}

least-tree : (stack : List LayerOf) (sets : List SetOf) (c : Coord) (d : List ℕ) (tree : GoalOf) → IsOnLine sets c d → IsNeeded (goal_trace stack tree.goal) sets tree.nodes → NoRuleFailsIn stack sets tree → IsLeastTree stack sets c d tree
least-tree stack sets c d tree l needed ok =
    let few = small stack tree.goal sets c d tree.nodes l needed in
    let many = large stack tree.goal sets c d tree.nodes l ok in
    record {
      nodes = omega (arith, few, many);
      least = λ other passes. least stack tree.goal sets c d tree.nodes other l needed passes;
    }

-- of two lists of trees for the same goals, needed ones and accepted ones, the first has no more nodes
fewer : (stack : List LayerOf) (sets : List SetOf) (c : Coord) (d : List ℕ) (trees others : List GoalOf) → IsOnLine sets c d → goals_in trees ≡ goals_in others → AreNeeded stack sets trees
    → ((g : ℕ) (tree : GoalOf) → slice_get others g ≡ Some tree → NoRuleFailsIn stack sets tree) → node_count trees ≤ node_count others
fewer stack sets c d [] others l e needed ok = omega arith
fewer stack sets c d (tree ∷ trees) [] l e needed ok = absurd (let same = ap length e in omega arith)
fewer stack sets c d (tree ∷ trees) (other ∷ others) l e needed ok =
    let same : tree.goal ≡ other.goal = cc in
    let rest : goals_in trees ≡ goals_in others = cc in
    let passes : NoRuleFails (goal_trace stack tree.goal) sets other.nodes = subst (λ (goal : GoalSeen). NoRuleFails (goal_trace stack goal) sets other.nodes) (sym same) (ok 0 other refl) in
    let here = least stack tree.goal sets c d tree.nodes other.nodes l (needed 0 tree refl) passes in
    let behind = fewer stack sets c d trees others l rest (λ g t is. needed (suc g) t is) (λ g t is. ok (suc g) t is) in
    omega (arith, here, behind)

pub made-least : (stack : List LayerOf) (sets : List SetOf) (asked : List GoalSeen) (most : ℕ) (made : Made) → IsMade stack sets asked most made → IsLeast stack sets asked most made
made-least stack sets asked most (Cert certificate) h = λ c d l g tree is. least-tree stack sets c d tree l (h.1 g tree is) (h.0.passes g tree is)
made-least stack sets asked most (Counter g device end) h = tt
made-least stack sets asked most NodeLimit h = λ c d l trees ok.
    let few = fewer stack sets c d h.0 trees l (h.1 ∙ sym ok.goals) h.2 ok.passes in
    let more = h.3 in
    omega (arith, few, more)
