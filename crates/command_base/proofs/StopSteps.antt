-- What is read of places, one after the other, up to the first stop.
use Rattle.std.proofs.Common.{Option, Some, None, IfSome}

-- what follows from two facts of what the places have, where that is known
pub IfSome-both : {A : Type 0} (known : Option A) {P Q R : A → Type 0} → IfSome known P → IfSome known Q → ((a : A) → P a → Q a → R a) → IfSome known R
IfSome-both None p q both = tt
IfSome-both (Some a) p q both = both a p q

-- what holds whatever the places have
pub IfSome-all : {A : Type 0} (known : Option A) {R : A → Type 0} → ((a : A) → R a) → IfSome known R
IfSome-all None all = tt
IfSome-all (Some a) all = all a
