-- Traces that are compared part by part, and their ends.
use Rattle.std.proofs.Common.{◌≡◌, ◌≢◌, ℕ, Bool, true, false, List, [], ◌∷◌, ◌⊎◌, inl, inr, refl, sym, ◌∙◌, ap, arith}
use Rattle.std.specs.Prelude.{◌==◌, ◌&&◌, IsTrue}
use Rattle.std.proofs.lemmas.Bool.{and_parts, cases_Bool, eqb-true}
use Rattle.std.proofs.lemmas.Bool.Decides.{nat_tests}
use Rattle.overlay_map.specs.res_value.declared.value.Value.{Value as Word}
use Rattle.overlay_map.specs.res_value.declared.res_id.ResId.{ResId}
use Rattle.reference_resolver.specs.declared.step.Step.{Step}
use Rattle.reference_resolver.specs.declared.step.Step.TheVariants.{NoMatch, KeptOut, TookOver}
use Rattle.reference_resolver.specs.declared.end.End.{End}
use Rattle.reference_resolver.specs.declared.end.End.TheVariants.{Value, Bag, Absent, TooLong}
use Rattle.reference_resolver.specs.Trace.{Trace}
use Rattle.reference_resolver.specs.SameTrace.{same_step, same_steps, same_end, same_trace, IsTrueOfEqualTraces}

number-same : (n : ℕ) → (n == n) ≡ true
number-same n = grind (arith, nat_tests)

step-equal : (a b : Step) → same_step a b ≡ true → a ≡ b
step-equal NoMatch NoMatch e = refl
step-equal KeptOut KeptOut e = refl
step-equal TookOver TookOver e = refl
step-equal a b e = cc

step-same : (a : Step) → same_step a a ≡ true
step-same NoMatch = refl
step-same KeptOut = refl
step-same TookOver = refl

steps-equal : (steps others : List Step) → same_steps steps others ≡ true → steps ≡ others
steps-equal [] [] e = refl
steps-equal (a ∷ steps) (b ∷ others) e =
    let h = and_parts (same_step a b) (same_steps steps others) e in
    let first = step-equal a b h.0 in
    let rest = steps-equal steps others h.1 in
    cc
steps-equal steps others e = cc

steps-same : (steps : List Step) → same_steps steps steps ≡ true
steps-same [] = refl
steps-same (a ∷ steps) = rw (step-same a) (steps-same steps)

word-equal : (v w : Word) → (v.kind == w.kind && v.word == w.word) ≡ true → v ≡ w
word-equal v w e =
    let h = and_parts (v.kind == w.kind) (v.word == w.word) e in
    let with_kind : ℕ → Word = λ n. record { kind = n; word = v.word } in
    let with_word : ℕ → Word = λ n. record { kind = w.kind; word = n } in
    ap with_kind (eqb-true v.kind w.kind h.0) ∙ ap with_word (eqb-true v.word w.word h.1)

id-equal : (a b : ResId) → (a.0 == b.0) ≡ true → a ≡ b
id-equal a b e =
    let of_number : ℕ → ResId = λ n. record { 0 = n } in
    ap of_number (eqb-true a.0 b.0 e)

end-equal : (a b : End) → same_end a b ≡ true → a ≡ b
end-equal (Value layer value) (Value other_layer other) e =
    let h = and_parts (layer == other_layer) (value.kind == other.kind && value.word == other.word) e in
    let l = eqb-true layer other_layer h.0 in
    let v = word-equal value other h.1 in
    cc
end-equal (Bag id) (Bag other) e = ap Bag (id-equal id other e)
end-equal (Absent id) (Absent other) e = ap Absent (id-equal id other e)
end-equal (TooLong id) (TooLong other) e = ap TooLong (id-equal id other e)
end-equal a b e = cc

end-same : (a : End) → same_end a a ≡ true
end-same (Value layer value) = rw (number-same layer, number-same value.kind, number-same value.word)
end-same (Bag id) = number-same id.0
end-same (Absent id) = number-same id.0
end-same (TooLong id) = number-same id.0

-- two ends are one, or they are not
pub end-cases : (a b : End) → (a ≡ b) ⊎ (a ≢ b)
end-cases a b =
    elim (cases_Bool (same_end a b)) [
      | inl same ↦ inl (end-equal a b same)
      | inr other ↦ inr (λ e. let same : same_end a b ≡ true = sym (ap (same_end a) e) ∙ end-same a in cc)
    ]

trace-equal : (t u : Trace) → same_trace t u ≡ true → t ≡ u
unfolding same_trace
trace-equal t u e =
    let h = and_parts (same_steps t.steps u.steps) (same_end t.end u.end) e in
    let with_steps : List Step → Trace = λ steps. record { steps = steps; end = t.end } in
    let with_end : End → Trace = λ end. record { steps = u.steps; end = end } in
    ap with_steps (steps-equal t.steps u.steps h.0) ∙ ap with_end (end-equal t.end u.end h.1)

trace-same : (t : Trace) → same_trace t t ≡ true
unfolding same_trace
trace-same t = rw (steps-same t.steps) (end-same t.end)

-- two traces are one, or they are not
pub trace-cases : (t u : Trace) → ((same_trace t u ≡ true) × (t ≡ u)) ⊎ ((same_trace t u ≡ false) × (t ≢ u))
trace-cases t u =
    elim (cases_Bool (same_trace t u)) [
      | inl same ↦ inl (same, trace-equal t u same)
      | inr other ↦ inr (other, λ e. let same : same_trace t u ≡ true = sym (ap (same_trace t) e) ∙ trace-same t in cc)
    ]

pub tells-equal : IsTrueOfEqualTraces
tells-equal t u =
    (λ is. trace-equal t u (true-of (same_trace t u) is), λ e. of-true (same_trace t u) (sym (ap (same_trace t) e) ∙ trace-same t))
  where
    true-of : (b : Bool) → IsTrue b → b ≡ true
    true-of b is = grind (arith, nat_tests)

    of-true : (b : Bool) → b ≡ true → IsTrue b
    of-true b e = grind (arith, nat_tests)
