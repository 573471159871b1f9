-- How rows are counted.
use Rattle.std.proofs.Common.{◌≡◌, ℕ, ◌+◌, Bool, true, false, cond, List, ◌∷◌, ap, ◌∙◌, arith}
use Rattle.std.proofs.lemmas.List.Sums.{sum_by-cons}
use Rattle.std.specs.List.{count_by}

pub counted-one : {X : Type 0} (test : X → Bool) (n total : ℕ) (left others : List X) (x : X) → n + count_by test left ≡ total → left ≡ x ∷ others → test x ≡ true → (n + 1) + count_by test others ≡ total
counted-one {X} test n total left others x before is says =
    let here : count_by test left ≡ 1 + count_by test others = ap (count_by test) is ∙ sum_by-cons (λ (y : X). cond (test y) 1 0) x others ∙ ap (λ (b : Bool). cond b 1 0 + count_by test others) says in
    omega (arith, here, before)

pub counted-none : {X : Type 0} (test : X → Bool) (n total : ℕ) (left others : List X) (x : X) → n + count_by test left ≡ total → left ≡ x ∷ others → test x ≡ false → n + count_by test others ≡ total
counted-none {X} test n total left others x before is says =
    let here : count_by test left ≡ 0 + count_by test others = ap (count_by test) is ∙ sum_by-cons (λ (y : X). cond (test y) 1 0) x others ∙ ap (λ (b : Bool). cond b 1 0 + count_by test others) says in
    omega (arith, here, before)
