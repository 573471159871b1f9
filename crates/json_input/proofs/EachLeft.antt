-- What is read of several things, where some are left.
use Rattle.std.proofs.Common.{◌≡◌, List, [], ◌∷◌, ◌++◌, Result, Ok, Err, sym, ap, ◌∙◌, arith}
use Rattle.std.proofs.lemmas.List.{append-nil}
use Rattle.contract_words.specs.Sequences.{with_front}
use Rattle.contract_words.proofs.SequenceSteps.{with_front-twice}
use Rattle.json_input.specs.Each.{each}
use Rattle.json_input.proofs.EachSteps.{each-ok, each-err, EachAllBut-none, EachAllBut-end}

pub each-nil : {A X E : Type 0} (f : A → Result X E) → each f [] ≡ Ok []
each-nil f = EachAllBut-end f [] 0 [] (EachAllBut-none f []) (omega arith)

pub left-next : {A X E : Type 0} (f : A → Result X E) (so_far : List X) (a : A) (others all : List A) (x : X)
    → with_front so_far (each f (a ∷ others)) ≡ each f all → f a ≡ Ok x → with_front (so_far ++ x ∷ []) (each f others) ≡ each f all
left-next f so_far a others all x before given =
    sym (with_front-twice so_far (x ∷ []) (each f others)) ∙ ap (with_front so_far) (sym (each-ok f a others x given)) ∙ before

pub left-stops : {A X E : Type 0} (f : A → Result X E) (so_far : List X) (a : A) (others all : List A) (e : E)
    → with_front so_far (each f (a ∷ others)) ≡ each f all → f a ≡ Err e → each f all ≡ Err e
left-stops f so_far a others all e before given = sym before ∙ ap (with_front so_far) (each-err f a others e given)

pub left-end : {A X E : Type 0} (f : A → Result X E) (so_far : List X) (all : List A) → with_front so_far (each f []) ≡ each f all → each f all ≡ Ok so_far
left-end {A} {X} {E} f so_far all before =
    let wrapped : List X → Result (List X) E = λ t. Ok t in
    sym before ∙ ap (with_front so_far) (each-nil f) ∙ ap wrapped (append-nil so_far)
