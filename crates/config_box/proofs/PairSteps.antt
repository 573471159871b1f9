-- Pairs of the elements of lists that stand one behind the other.
use Rattle.std.proofs.Common.{zero, suc, arith, List, [], ◌∷◌, ◌++◌, get_or}
use Rattle.std.specs.List.{All, AllPairs, flat_map}
use Rattle.std.proofs.lemmas.List.Elements.{All-nil, All-head, All-tail, All-append}
use Rattle.std.proofs.lemmas.List.Kept.{AllPairs-cons}

module _ {A : Type 0} (R : A → A → Type 0) where
  pub pairs-head : (x : A) (xs : List A) → AllPairs R (x ∷ xs) → All (R x) xs
  pairs-head x xs h k d q = h zero (suc k) d (omega arith) (omega arith)

  pub pairs-tail : (x : A) (xs : List A) → AllPairs R (x ∷ xs) → AllPairs R xs
  pairs-tail x xs h i j d lt q = h (suc i) (suc j) d (omega arith) (omega arith)

  pairs-append : (xs ys : List A) → AllPairs R xs → AllPairs R ys → All (λ x. All (R x) ys) xs → AllPairs R (xs ++ ys)
  pairs-append [] ys first second across = second
  pairs-append (x ∷ xs) ys first second across =
      AllPairs-cons R x (xs ++ ys) (All-append (R x) xs ys (pairs-head x xs first) (All-head (λ y. All (R y) ys) x xs across))
      (pairs-append xs ys (pairs-tail x xs first) second (All-tail (λ y. All (R y) ys) x xs across))

pub all-flat : {X A : Type 0} (P : A → Type 0) (f : X → List A) (xs : List X) → All (λ x. All P (f x)) xs → All P (flat_map f xs)
all-flat P f [] h = All-nil P
all-flat P f (x ∷ xs) h = All-append P (f x) (flat_map f xs) (All-head (λ y. All P (f y)) x xs h) (all-flat P f xs (All-tail (λ y. All P (f y)) x xs h))

-- each two within a list, and each two of different lists
pub pairs-flat : {X A : Type 0} (R : A → A → Type 0) (f : X → List A) (xs : List X) → All (λ x. AllPairs R (f x)) xs → AllPairs (λ x y. All (λ a. All (R a) (f y)) (f x)) xs → AllPairs R (flat_map f xs)
pairs-flat R f [] within across = λ i j d lt q. absurd (omega arith)
pairs-flat R f (x ∷ xs) within across =
    let first = pairs-head (λ x y. All (λ a. All (R a) (f y)) (f x)) x xs across in
    pairs-append R (f x) (flat_map f xs) (All-head (λ y. AllPairs R (f y)) x xs within)
    (pairs-flat R f xs (All-tail (λ y. AllPairs R (f y)) x xs within) (pairs-tail (λ x y. All (λ a. All (R a) (f y)) (f x)) x xs across))
    (λ k d q. all-flat (λ b. R (get_or (f x) k d) b) f xs (λ j e p. first j e p k d q))
