-- The elements of a list that pass a test, one by one.
use Rattle.std.proofs.Common.{◌≡◌, ℕ, ◌+◌, ◌<◌, Bool, true, false, cond, List, [], ◌∷◌, ◌++◌, length, filter, take, get_or, sym, ◌∙◌, ap}
use Rattle.std.proofs.lemmas.List.{append-nil}
use Rattle.std.proofs.lemmas.List.Elements.{filter_more}

pub kept : {X : Type 0} (test : X → Bool) (xs before after : List X) (i : ℕ) (d : X) → i < length xs → before ≡ filter test (take i xs) → test (get_or xs i d) ≡ true
    → after ≡ before ++ get_or xs i d ∷ [] → after ≡ filter test (take (i + 1) xs)
kept {X} test xs before after i d within so_far says is =
    is
    ∙ ap (λ (ys : List X). ys ++ get_or xs i d ∷ []) so_far
    ∙ sym (filter_more test xs i d within ∙ ap (λ (b : Bool). filter test (take i xs) ++ cond b (get_or xs i d ∷ []) []) says)

pub passed-over : {X : Type 0} (test : X → Bool) (xs before after : List X) (i : ℕ) (d : X) → i < length xs → before ≡ filter test (take i xs) → test (get_or xs i d) ≡ false
    → after ≡ before → after ≡ filter test (take (i + 1) xs)
passed-over {X} test xs before after i d within so_far says is =
    is
    ∙ so_far
    ∙ sym (filter_more test xs i d within ∙ ap (λ (b : Bool). filter test (take i xs) ++ cond b (get_or xs i d ∷ []) []) says ∙ append-nil (filter test (take i xs)))
