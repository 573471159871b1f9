-- No rule fails at any place of a list of nodes exactly where none fails along the walk.
use Rattle.std.proofs.Common.{ℕ, zero, suc, List, [], ◌∷◌, take, refl}
use Rattle.std.specs.Prelude.{slice_get}
use Rattle.cert_checker.specs.reference_resolver.Trace.{Trace}
use Rattle.cert_checker.specs.box_answers.NumberSet.{SetOf}
use Rattle.cert_checker.specs.cert_tree.Certificate.{NodeOf}
use Rattle.cert_checker.specs.declared.rule.Rule.{Rule}
use Rattle.cert_checker.specs.declared.rule.Rule.TheVariants.{EndsEarly, LeftOver}
use Rattle.cert_checker.specs.Paths.{Path, IsAt, after, after_all, root, open_at}
use Rattle.cert_checker.specs.Fails.{FailsAtNode, FailsAt, Fails, NoRuleFails}
use Rattle.cert_maker.specs.Walk.{Walk}

-- no rule fails at a node
abbrev pub Passes : (List ℕ → Trace) → List SetOf → NodeOf → Path → Type 0
Passes trace sets node path = (rule : Rule) → FailsAtNode trace sets (IsAt sets path) node rule → ⊥

walk-fails : (trace : List ℕ → Trace) (sets : List SetOf) (nodes : List NodeOf) (paths : List Path) → Walk (Passes trace sets) nodes paths
    → (k : ℕ) (rule : Rule) → FailsAt trace sets (slice_get nodes k) (after_all (take k nodes) paths) rule → ⊥
walk-fails trace sets [] [] w zero rule f = f
walk-fails trace sets [] [] w (suc k) rule f = f
walk-fails trace sets [] (path ∷ paths) w k rule f = w
walk-fails trace sets (node ∷ nodes) [] w k rule f = w
walk-fails trace sets (node ∷ nodes) (path ∷ paths) w zero rule f = w.0 rule f
walk-fails trace sets (node ∷ nodes) (path ∷ paths) w (suc k) rule f = walk-fails trace sets nodes (after node path paths) w.1 k rule f

fails-walk : (trace : List ℕ → Trace) (sets : List SetOf) (nodes : List NodeOf) (paths : List Path)
    → ((k : ℕ) (rule : Rule) → FailsAt trace sets (slice_get nodes k) (after_all (take k nodes) paths) rule → ⊥) → Walk (Passes trace sets) nodes paths
fails-walk trace sets [] [] f = tt
fails-walk trace sets [] (path ∷ paths) f = f 0 EndsEarly refl
fails-walk trace sets (node ∷ nodes) [] f = f 0 LeftOver refl
fails-walk trace sets (node ∷ nodes) (path ∷ paths) f =
    (λ rule h. f 0 rule h, fails-walk trace sets nodes (after node path paths) (λ k rule h. f (suc k) rule h))

pub walk-passes : (trace : List ℕ → Trace) (sets : List SetOf) (nodes : List NodeOf) → Walk (Passes trace sets) nodes root → NoRuleFails trace sets nodes
unfolding Fails open_at
walk-passes trace sets nodes w k rule f = walk-fails trace sets nodes root w k rule f

pub passes-walk : (trace : List ℕ → Trace) (sets : List SetOf) (nodes : List NodeOf) → NoRuleFails trace sets nodes → Walk (Passes trace sets) nodes root
unfolding Fails open_at
passes-walk trace sets nodes f = fails-walk trace sets nodes root (λ k rule h. f k rule h)
