-- How notes are counted one after the other.
use Rattle.std.proofs.Common.{◌≡◌, ℕ, ◌+◌, ◌-◌, ◌<◌, ◌≤◌, suc, List, [], ◌∷◌, ◌++◌, refl, sym, ap, ◌∙◌, arith}
use Rattle.std.specs.List.{flat_map, range_with_len}
use Rattle.resource_tool.specs.declared.survey.findings.Findings.{Findings}
use Rattle.resource_tool.specs.Findings.{Note, with_note, noted}

pub noted-append : (findings : Findings) (first others : List Note) → noted findings (first ++ others) ≡ noted (noted findings first) others
unfolding noted
noted-append findings [] others = refl
noted-append findings (note ∷ first) others = noted-append (with_note findings note) first others

pub noted-none : (findings : Findings) → noted findings [] ≡ findings
unfolding noted
noted-none findings = refl

pub noted-one : (findings : Findings) (note : Note) → noted findings (note ∷ []) ≡ with_note findings note
unfolding noted
noted-one findings note = refl

-- what the first of some items has is noted, then what the others have
pub noted-next : {A : Type 0} (findings mid : Findings) (f : A → List Note) (items others : List A) (item : A) → items ≡ item ∷ others → mid ≡ noted findings (f item)
    → noted findings (flat_map f items) ≡ noted mid (flat_map f others)
noted-next findings mid f items others item split step =
    rw split (noted-append findings (f item) (flat_map f others) ∙ ap (λ (s : Findings). noted s (flat_map f others)) (sym step))

pub noted-end : {A : Type 0} (findings : Findings) (f : A → List Note) (items : List A) → items ≡ [] → noted findings (flat_map f items) ≡ findings
noted-end findings f items nothing = rw nothing (noted-none findings)

-- what the first of some numbers has is noted, then what the others have
pub noted-next_number : (findings mid : Findings) (f : ℕ → List Note) (i n : ℕ) → i < n → mid ≡ noted findings (f i)
    → noted findings (flat_map f (range_with_len i (n - i))) ≡ noted mid (flat_map f (range_with_len (i + 1) (n - (i + 1))))
noted-next_number findings mid f i n below step =
    let more : n - i ≡ suc (n - (i + 1)) = omega arith in
    ap (λ (k : ℕ). noted findings (flat_map f (range_with_len i k))) more
    ∙ noted-append findings (f i) (flat_map f (range_with_len (i + 1) (n - (i + 1))))
    ∙ ap (λ (s : Findings). noted s (flat_map f (range_with_len (i + 1) (n - (i + 1))))) (sym step)

-- no number is left
pub noted-no_number : (findings : Findings) (f : ℕ → List Note) (i n : ℕ) → n ≤ i → noted findings (flat_map f (range_with_len i (n - i))) ≡ findings
noted-no_number findings f i n above =
    let none : n - i ≡ 0 = omega arith in
    ap (λ (k : ℕ). noted findings (flat_map f (range_with_len i k))) none ∙ noted-none findings

pub ruleset noted_steps = (noted-append, noted-none, noted-one, noted-next, noted-end, noted-next_number, noted-no_number)
