-- The goals that stand at none of some places, goal by goal.
use Rattle.std.proofs.Common.{◌≡◌, ℕ, ◌+◌, ◌<◌, ◌≤◌, arith, Bool, true, false, not, cond, inl, inr, List, [], ◌∷◌, ◌++◌, length, map, refl, sym, ◌∙◌, ap}
use Rattle.std.specs.Prelude.{◌==◌, ◌||◌}
use Rattle.std.specs.List.{All, enumerate_from, filter, list_any}
use Rattle.std.specs.List.Sorted.{IsStrictlyIncreasing}
use Rattle.std.proofs.lemmas.Bool.{cases_lt, ne_eqb, eq-eqb}
use Rattle.std.proofs.lemmas.List.{append-nil, map-append, length_push, get_or_append_left, get_or_at}
use Rattle.std.proofs.lemmas.List.Elements.{filter-append, All-weaker, All-get_or}
use Rattle.std.proofs.lemmas.List.Folds.{list_any-append, list_any_none}
use Rattle.cert_checker.specs.res_value.Goal.{GoalSeen}
use Rattle.cert_maker.specs.Omitting.{is_kept, without}

abbrev pub AreBelow : ℕ → List ℕ → Type 0
AreBelow n places = All (λ place. place < n) places

-- ---- places that rise

-- one more, behind all
pub rises-push : (places : List ℕ) (place : ℕ) → IsStrictlyIncreasing places → AreBelow place places → IsStrictlyIncreasing (places ++ place ∷ [])
rises-push places place rise below = λ k within.
    let count = length_push places place in
    elim (cases_lt (k + 1) (length places)) [
      | inl inside ↦
          let first = get_or_append_left places (place ∷ []) 0 k (omega (arith, inside)) in
          let second = get_or_append_left places (place ∷ []) 0 (k + 1) inside in
          rw first (rw second (rise k inside))
      | inr outside ↦
          let last : k + 1 ≡ length places = omega (arith, count, within, outside) in
          let first = get_or_append_left places (place ∷ []) 0 k (omega (arith, last)) in
          let second = get_or_at places place [] 0 (k + 1) (sym last) in
          rw first (rw second (All-get_or (λ p. p < place) places k 0 (omega (arith, last)) below))
    ]

-- ---- the goals at none of these places

enumerate-append : (n : ℕ) (xs ys : List GoalSeen) → enumerate_from n (xs ++ ys) ≡ enumerate_from n xs ++ enumerate_from (n + length xs) ys
enumerate-append n [] ys = let same : n ≡ n + 0 = omega arith in ap (λ (m : ℕ). enumerate_from m ys) same
enumerate-append n (x ∷ xs) ys =
    let same : n + 1 + length xs ≡ n + length (x ∷ xs) = omega arith in
    ap (λ (placed : List (ℕ × GoalSeen)). (n, x) ∷ placed) (enumerate-append (n + 1) xs ys)
    ∙ ap (λ (m : ℕ). (n, x) ∷ (enumerate_from (n + 1) xs ++ enumerate_from m ys)) same

other : (place n : ℕ) → place < n → (place == n) ≡ false
other place n less = ne_eqb place n (λ same. omega (arith, less, same))

-- what stands behind all of the places is kept
all-behind : (m n : ℕ) (places : List ℕ) (goals : List GoalSeen) → AreBelow m places → m ≤ n → map (λ (p : ℕ × GoalSeen). p.1) (filter (is_kept places) (enumerate_from n goals)) ≡ goals
all-behind m n places [] below le = refl
all-behind m n places (goal ∷ goals) below le =
    let none = list_any_none (λ place. place == n) places (All-weaker (λ place. place < m) (λ place. (place == n) ≡ false) (λ place less. other place n (omega (arith, less, le))) places below) in
    let here : is_kept places (n, goal) ≡ true = ap not none in
    let others = filter (is_kept places) (enumerate_from (n + 1) goals) in
    ap (λ (b : Bool). map (λ (p : ℕ × GoalSeen). p.1) (cond b ((n, goal) ∷ others) others)) here
    ∙ ap (λ (rest : List GoalSeen). goal ∷ rest) (all-behind m (n + 1) places goals below (omega (arith, le)))

pub without-append : (places : List ℕ) (goals others : List GoalSeen) → AreBelow (length goals) places → without places (goals ++ others) ≡ without places goals ++ others
without-append places goals others below =
    let keep : List (ℕ × GoalSeen) → List (ℕ × GoalSeen) = filter (is_kept places) in
    let listed : List (ℕ × GoalSeen) → List GoalSeen = map (λ (p : ℕ × GoalSeen). p.1) in
    let zero : 0 + length goals ≡ length goals = omega arith in
    ap (λ (placed : List (ℕ × GoalSeen)). listed (keep placed)) (enumerate-append 0 goals others ∙ ap (λ (m : ℕ). enumerate_from 0 goals ++ enumerate_from m others) zero)
    ∙ ap listed (filter-append (is_kept places) (enumerate_from 0 goals) (enumerate_from (length goals) others))
    ∙ map-append (λ (p : ℕ × GoalSeen). p.1) (keep (enumerate_from 0 goals)) (keep (enumerate_from (length goals) others))
    ∙ ap (λ (rest : List GoalSeen). listed (keep (enumerate_from 0 goals)) ++ rest) (all-behind (length goals) (length goals) places others below (omega arith))

or-none : (b : Bool) → (b || false) ≡ b
or-none true = refl
or-none false = refl

or-some : (b : Bool) → (b || true) ≡ true
or-some true = refl
or-some false = refl

-- a place behind goals leaves out none of them
none-more : (n place : ℕ) (places : List ℕ) (goals : List GoalSeen) → n + length goals ≤ place
    → filter (is_kept (places ++ place ∷ [])) (enumerate_from n goals) ≡ filter (is_kept places) (enumerate_from n goals)
none-more n place places [] le = refl
none-more n place places (goal ∷ goals) le =
    let differ : (place == n) ≡ false = ne_eqb place n (λ same. omega (arith, le, same)) in
    let any = list_any (λ p. p == n) places in
    let more = list_any-append (λ p. p == n) places (place ∷ []) ∙ ap (λ (b : Bool). any || (b || false)) differ ∙ or-none any in
    let rest = none-more (n + 1) place places goals (omega (arith, le)) in
    let now = filter (is_kept (places ++ place ∷ [])) (enumerate_from (n + 1) goals) in
    ap (λ (b : Bool). cond (not b) ((n, goal) ∷ now) now) more
    ∙ ap (λ (others : List (ℕ × GoalSeen)). cond (not any) ((n, goal) ∷ others) others) rest

-- the place behind goals leaves out the next
pub without-next : (places : List ℕ) (goals : List GoalSeen) (goal : GoalSeen) → without (places ++ length goals ∷ []) (goals ++ goal ∷ []) ≡ without places goals
without-next places goals goal =
    let n = length goals in
    let now = is_kept (places ++ n ∷ []) in
    let zero : 0 + length goals ≡ n = omega arith in
    let any = list_any (λ p. p == n) places in
    let found = list_any-append (λ p. p == n) places (n ∷ []) ∙ ap (λ (b : Bool). any || (b || false)) (eq-eqb n n refl) ∙ or-some any in
    let last : filter now ((n, goal) ∷ []) ≡ [] = ap (λ (b : Bool). cond (not b) ((n, goal) ∷ []) []) found in
    let listed : List (ℕ × GoalSeen) → List GoalSeen = map (λ (p : ℕ × GoalSeen). p.1) in
    ap (λ (placed : List (ℕ × GoalSeen)). listed (filter now placed)) (enumerate-append 0 goals (goal ∷ []) ∙ ap (λ (m : ℕ). enumerate_from 0 goals ++ enumerate_from m (goal ∷ [])) zero)
    ∙ ap listed (filter-append now (enumerate_from 0 goals) ((n, goal) ∷ []) ∙ ap (λ (behind : List (ℕ × GoalSeen)). filter now (enumerate_from 0 goals) ++ behind) last ∙ append-nil (filter now (enumerate_from 0 goals)))
    ∙ ap listed (none-more 0 n places goals (omega arith))
