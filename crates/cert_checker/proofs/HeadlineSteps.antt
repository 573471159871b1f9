-- The headline follows from the verdict.
use Rattle.std.proofs.Common.{◌≡◌, ℕ, List, Option, Some, None, sym, ◌∙◌, ap, refl, subst, Result, Ok, Err, IfOk}
use Rattle.std.specs.Prelude.{slice_get}
use Rattle.std.specs.Option.{option_map}
use Rattle.std.specs.declared.alloc.AllocError.{AllocError}
use Rattle.std.proofs.lemmas.Option.{slice_get-map}
use Rattle.box_trace.specs.bags_themes.Theme.{unset}
use Rattle.box_trace.proofs.bags_themes.AttributeEnds.{the_end_under}
use Rattle.box_trace.specs.reference_resolver.declared.end.End.{End}
use Rattle.box_trace.specs.reference_resolver.Ends.{references_followed}
use Rattle.box_trace.proofs.reference_resolver.Chains.{is_the_end}
use Rattle.box_trace.specs.overlay_map.Layer.{LayerOf}
use Rattle.cert_tree.specs.box_answers.NumberSet.{SetOf}
use Rattle.cert_tree.specs.box_answers.Members.{IsMember}
use Rattle.cert_tree.specs.Certificate.{GoalOf}
use Rattle.cert_tree.specs.res_value.Goal.{GoalSeen, IdGoal, AttrGoal}
use Rattle.cert_checker.specs.declared.verdict.Verdict.{Verdict}
use Rattle.cert_checker.specs.declared.verdict.Verdict.TheVariants.{Accepted, Rejected}
use Rattle.cert_checker.specs.FirstFault.{goal_trace, goals_in, NoRuleFailsIn}
use Rattle.cert_checker.specs.Verdict.{IsVerdict}
use Rattle.cert_checker.specs.Headline.{RulesEndAt, EndsAtItsLeaf, Headline, AcceptedHolds, IdsEndByReferences}
use Rattle.cert_checker.proofs.Law.{reaches, ends_at_leaf}

pub rules_end : (stack : List LayerOf) (goal : GoalSeen) (d : List ℕ) (end : End) → (goal_trace stack goal d).end ≡ end → RulesEndAt stack goal d end
rules_end stack (IdGoal id) d end e = is_the_end stack references_followed id.0 d end (sym e)
rules_end stack (AttrGoal attr styles) d end e = subst (λ (x : End). RulesEndAt stack (AttrGoal attr styles) d x) e (the_end_under stack attr.0 unset styles d)

at_its_leaf : (stack : List LayerOf) (sets : List SetOf) (tree : GoalOf) (d : List ℕ) → NoRuleFailsIn stack sets tree → IsMember sets d → EndsAtItsLeaf stack tree.goal tree.nodes d
at_its_leaf stack sets tree d ok m =
    let r = reaches (goal_trace stack tree.goal) sets tree.nodes d ok in
    record {
      claimed = r.0;
      reaches = r.1;
      ends = λ end there. rules_end stack tree.goal d end (ends_at_leaf (goal_trace stack tree.goal) sets tree.nodes d end ok m there);
    }

-- the tree of a goal that is asked
tree_of : (trees : List GoalOf) (asked : List GoalSeen) (g : ℕ) (goal : GoalSeen) → goals_in trees ≡ asked → slice_get asked g ≡ Some goal → (tree : GoalOf) × (slice_get trees g ≡ Some tree) × (tree.goal ≡ goal)
tree_of trees asked g goal e at = found (slice_get trees g) refl
  where
    seen : option_map (λ (t : GoalOf). t.goal) (slice_get trees g) ≡ Some goal
    seen = sym (slice_get-map (λ (t : GoalOf). t.goal) trees g) ∙ ap (λ (gs : List GoalSeen). slice_get gs g) e ∙ at

    found : (o : Option GoalOf) → slice_get trees g ≡ o → (tree : GoalOf) × (slice_get trees g ≡ Some tree) × (tree.goal ≡ goal)
    found None is = absurd (let no = sym (ap (λ (x : Option GoalOf). option_map (λ (t : GoalOf). t.goal) x) is) ∙ seen in cc)
    found (Some tree) is = (tree, is, (let there = sym (ap (λ (x : Option GoalOf). option_map (λ (t : GoalOf). t.goal) x) is) ∙ seen in cc))

of_verdict : (stack : List LayerOf) (sets : List SetOf) (asked : List GoalSeen) (trees : List GoalOf) (verdict : Verdict) → IsVerdict stack sets asked trees verdict → Headline stack sets asked trees verdict
of_verdict stack sets asked trees Accepted h = λ g goal at.
    let t = tree_of trees asked g goal h.goals at in
    (t.0, t.1, t.2, λ d m. subst (λ (x : GoalSeen). EndsAtItsLeaf stack x t.0.nodes d) t.2 (at_its_leaf stack sets t.0 d (h.passes g t.0 t.1) m))
of_verdict stack sets asked trees (Rejected g k rule shown) h = h.0

pub headline : (stack : List LayerOf) (sets : List SetOf) (asked : List GoalSeen) (trees : List GoalOf) (r : Result Verdict AllocError) → IfOk r (IsVerdict stack sets asked trees) → IfOk r (Headline stack sets asked trees)
headline stack sets asked trees (Ok verdict) h = of_verdict stack sets asked trees verdict h
headline stack sets asked trees (Err e) h = tt

pub accepted : AcceptedHolds
accepted stack sets asked trees h = of_verdict stack sets asked trees Accepted h

pub ids_end : IdsEndByReferences
ids_end stack sets asked trees h g id at =
    let t = h g (IdGoal id) at in
    (t.0, t.1, t.2, λ d m. let e = t.3 d m in (e.claimed, e.reaches, e.ends))
