-- How a loop goes through lists that are read for the numbers from 0 on.
use Rattle.std.proofs.Common.{◌≡◌, ℕ, ◌+◌, ◌-◌, ◌<◌, ◌≤◌, List, [], Option, Result, Ok, Err, sym, ap, subst, ◌∙◌, arith, lit<}
use Rattle.std.proofs.lemmas.List.{append-nil}
use Rattle.std.specs.List.{range_with_len}
use Rattle.std.specs.Io.KnownBytes.{Appends}
use Rattle.std.proofs.KnownBytes.{Appends-nil}
use Rattle.answer_text.specs.OnLine.{on_line}
use Rattle.command_base.proofs.answer_text_proofs.LineSteps.{ascii-on_line}
use Rattle.contract_words.specs.Sequences.{with_front, joined, joined_each, joined_from}
use Rattle.contract_words.proofs.SequenceSteps.{with_front_nil, joined_from-next, joined_from-stops}

-- what f reads of all numbers below n is a and what it reads of those from i on
pub record ReadsFrom {X E : Type 0} (f : ℕ → Result (List X) E) (a : List X) (i n : ℕ) : Type 0 where
  pub others : with_front a (joined_from f i n) ≡ joined_from f 0 n

pub ReadsFrom-none : {X E : Type 0} (f : ℕ → Result (List X) E) (n : ℕ) → ReadsFrom f [] 0 n
ReadsFrom-none f n = record { others = with_front_nil (joined_from f 0 n) }

pub ReadsFrom-next : {X E : Type 0} (f : ℕ → Result (List X) E) (a b : List X) (i n : ℕ)
    → ReadsFrom f a i n → i < n → with_front a (f i) ≡ Ok b → ReadsFrom f b (i + 1) n
ReadsFrom-next f a b i n before on read = record { others = sym (joined_from-next f a b i n on read) ∙ before.others }

pub ReadsFrom-stops : {X E : Type 0} (f : ℕ → Result (List X) E) (a : List X) (i n : ℕ) (d : E)
    → ReadsFrom f a i n → i < n → with_front a (f i) ≡ Err d → joined_from f 0 n ≡ Err d
ReadsFrom-stops f a i n d before on read = sym before.others ∙ joined_from-stops f a d i n on read

nothing-left : {X E : Type 0} (f : ℕ → Result (List X) E) (a : List X) (i n : ℕ) → n ≤ i → with_front a (joined_from f i n) ≡ Ok a
unfolding joined_from joined_each joined
nothing-left {X} {E} f a i n past =
    let none : n - i ≡ 0 = omega arith in
    let wrapped : List X → Result (List X) E = λ t. Ok t in
    ap (λ (k : ℕ). with_front a (joined_each f (range_with_len i k))) none ∙ ap wrapped (append-nil a)

pub ReadsFrom-end : {X E : Type 0} (f : ℕ → Result (List X) E) (a : List X) (i n : ℕ) → ReadsFrom f a i n → n ≤ i → joined_from f 0 n ≡ Ok a
ReadsFrom-end f a i n before past = sym before.others ∙ nothing-left f a i n past

pub ruleset from_steps = (ReadsFrom-none, ReadsFrom-next, ReadsFrom-stops, ReadsFrom-end)

-- ---- lines that there are none of

nothing-on_line : on_line [] ≡ []
nothing-on_line = sym (ascii-on_line [] (λ _. lit< tt))

pub says-nothing : (known : Option (List ℕ)) (lines : List ℕ) → lines ≡ [] → Appends known known (on_line lines)
says-nothing known lines none = subst (λ (t : List ℕ). Appends known known t) (sym (ap on_line none ∙ nothing-on_line)) (Appends-nil known)
