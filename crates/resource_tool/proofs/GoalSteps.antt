-- How a loop goes over the goals of a certificate, with their numbers.
use Rattle.std.proofs.Common.{◌≡◌, ℕ, ◌+◌, ◌<◌, ◌≤◌, List, [], ◌∷◌, map, length, drop, get_or, ap}
use Rattle.std.specs.List.{enumerate_from}
use Rattle.std.proofs.lemmas.List.{drop_more, drop_all}
use Rattle.command_base.specs.cert_tree.declared.cert.CertGoal.{CertGoal}
use Rattle.command_base.specs.cert_tree.Certificate.{GoalOf, goal_of}

-- the goals from a place on
abbrev pub goals_from : ℕ → List CertGoal → List (ℕ × GoalOf)
goals_from place goals = enumerate_from place (map goal_of (drop place goals))

pub goals_from-next : (place : ℕ) (goals : List CertGoal) (d : CertGoal) → place < length goals
    → goals_from place goals ≡ (place, goal_of (get_or goals place d)) ∷ goals_from (place + 1) goals
goals_from-next place goals d on = ap (λ (left : List CertGoal). enumerate_from place (map goal_of left)) (drop_more goals place d on)

pub goals_from-end : (place : ℕ) (goals : List CertGoal) → length goals ≤ place → goals_from place goals ≡ []
goals_from-end place goals past = ap (λ (left : List CertGoal). enumerate_from place (map goal_of left)) (drop_all place goals past)
