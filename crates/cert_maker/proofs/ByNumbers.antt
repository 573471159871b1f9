-- A trace asks a device for its numbers alone.
use Rattle.std.specs.Option.{option_map}
use Rattle.std.proofs.Common.{◌≡◌, ℕ, zero, suc, List, [], ◌∷◌, Option, Some, None, refl, ◌∙◌, ap}
use Rattle.std.proofs.Math.Path.{fun_ext}
use Rattle.std.specs.Prelude.{Bool}
use Rattle.std.specs.List.{flat_map}
use Rattle.cert_checker.specs.config_record.declared.coord.Coord.{Coord}
use Rattle.cert_checker.specs.config_record.ComparedNumber.{record_number, device_number}
use Rattle.cert_checker.specs.config_match.Answer.{is_pass, is_yes}
use Rattle.cert_checker.specs.config_match.Table.{answer_of_table}
use Rattle.cert_checker.specs.config_match.Conditions.{all_conditions}
use Rattle.cert_checker.specs.config_match.Matching.{is_match}
use Rattle.cert_checker.specs.config_precedence.Rules.{all_rules}
use Rattle.cert_checker.specs.config_precedence.Precedence.{is_better}
use Rattle.cert_checker.specs.overlay_map.Layer.{LayerOf}
use Rattle.cert_checker.specs.overlay_map.Candidates.{CandOf, cand_of, candidates_of}
use Rattle.cert_checker.specs.reference_resolver.declared.step.Step.{Step}
use Rattle.cert_checker.specs.reference_resolver.declared.end.End.{End}
use Rattle.cert_checker.specs.reference_resolver.Selection.{beats, beats_best, step_of, best_after, scan_candidates, best_of, selected}
use Rattle.cert_checker.specs.reference_resolver.Ends.{next_of, end_of}
use Rattle.cert_checker.specs.reference_resolver.Trace.{Trace, look_ups_of, scan_look_up, scan_chain, trace_of}
use Rattle.cert_checker.specs.box_trace.declared.parting.Parting.{Parting}
use Rattle.cert_checker.specs.box_trace.Parting.{says_yes, answer_of}

-- devices of the same numbers have one trace
abbrev pub GoesByNumbers : (List ℕ → Trace) → Type 0
GoesByNumbers trace = (x y : List ℕ) → ((c : Coord) → device_number x c ≡ device_number y c) → trace x ≡ trace y

abbrev pub SameNumbers : List ℕ → List ℕ → Type 0
SameNumbers x y = device_number x ≡ device_number y

matches-same : (r x y : List ℕ) → SameNumbers x y → is_match r x ≡ is_match r y
unfolding is_match
matches-same r x y e = ap (λ numbers. is_pass (answer_of_table all_conditions (record_number r) (record_number r) numbers)) e

beats-same : (a b : CandOf) (x y : List ℕ) → SameNumbers x y → beats a b x ≡ beats a b y
unfolding beats is_better
beats-same a b x y e = rw (ap (λ numbers. is_yes (answer_of_table all_rules (record_number a.row.config) (record_number b.row.config) numbers)) e)

beats-best-same : (best : Option CandOf) (a : CandOf) (x y : List ℕ) → SameNumbers x y → beats_best best a x ≡ beats_best best a y
beats-best-same None a x y e = refl
beats-best-same (Some best) a x y e = beats-same a best x y e

step-same : (best : Option CandOf) (a : CandOf) (x y : List ℕ) → SameNumbers x y → step_of best a x ≡ step_of best a y
step-same best a x y e = rw (matches-same a.row.config x y e, beats-best-same best a x y e)

scan-same : (best : Option CandOf) (candidates : List CandOf) (x y : List ℕ) → SameNumbers x y → scan_candidates step_of best candidates x ≡ scan_candidates step_of best candidates y
scan-same best [] x y e = refl
scan-same best (a ∷ candidates) x y e =
    let here = step-same best a x y e in
    let rest = scan-same (best_after (step_of best a y) best a) candidates x y e in
    ap (λ step. step ∷ scan_candidates step_of (best_after step best a) candidates x) here ∙ ap (λ steps. step_of best a y ∷ steps) rest

best-same : (best : Option CandOf) (candidates : List CandOf) (x y : List ℕ) → SameNumbers x y → best_of best candidates x ≡ best_of best candidates y
best-same best [] x y e = refl
best-same best (a ∷ candidates) x y e =
    let here = step-same best a x y e in
    let rest = best-same (best_after (step_of best a y) best a) candidates x y e in
    ap (λ step. best_of (best_after step best a) candidates x) here ∙ rest

pub selected-same : (stack : List LayerOf) (id : ℕ) (x y : List ℕ) → SameNumbers x y → selected stack id x ≡ selected stack id y
unfolding selected
selected-same stack id x y e = best-same None (candidates_of stack id) x y e

next-same : (stack : List LayerOf) (id : ℕ) (x y : List ℕ) → SameNumbers x y → next_of id (selected stack id x) ≡ next_of id (selected stack id y)
next-same stack id x y e = ap (next_of id) (selected-same stack id x y e)

end-same : (stack : List LayerOf) (most id : ℕ) (x y : List ℕ) → SameNumbers x y → end_of stack most id x ≡ end_of stack most id y
end-same stack zero id x y e = rw (next-same stack id x y e)
end-same stack (suc most) id x y e =
    let rest : (next : ℕ) → end_of stack most next x ≡ end_of stack most next y = λ next. end-same stack most next x y e in
    simp (next-same stack id x y e, rest)

look-ups-same : (stack : List LayerOf) (most id : ℕ) (x y : List ℕ) → SameNumbers x y → look_ups_of stack most id x ≡ look_ups_of stack most id y
look-ups-same stack zero id x y e = refl
look-ups-same stack (suc most) id x y e =
    let rest : (next : ℕ) → look_ups_of stack most next x ≡ look_ups_of stack most next y = λ next. look-ups-same stack most next x y e in
    simp (next-same stack id x y e, rest)

pub scan-look-up-same : (stack : List LayerOf) (x y : List ℕ) → SameNumbers x y → scan_look_up step_of stack x ≡ scan_look_up step_of stack y
scan-look-up-same stack x y e = fun_ext (λ id. scan-same None (candidates_of stack id) x y e)

chain-same : (stack : List LayerOf) (most id : ℕ) (x y : List ℕ) → SameNumbers x y → scan_chain step_of stack most id x ≡ scan_chain step_of stack most id y
chain-same stack most id x y e =
    ap (λ ids. flat_map (scan_look_up step_of stack x) ids) (look-ups-same stack most id x y e)
    ∙ ap (λ tell. flat_map tell (look_ups_of stack most id y)) (scan-look-up-same stack x y e)

pub trace-same : (stack : List LayerOf) (most id : ℕ) (x y : List ℕ) → SameNumbers x y → trace_of stack most id x ≡ trace_of stack most id y
trace-same stack most id x y e =
    let with_steps : List Step → Trace = λ steps. record { steps = steps; end = end_of stack most id x } in
    let with_end : End → Trace = λ end. record { steps = scan_chain step_of stack most id y; end = end } in
    ap with_steps (chain-same stack most id x y e) ∙ ap with_end (end-same stack most id x y e)

-- so have the answers to a question
abbrev pub AnswersByNumbers : (List ℕ → Bool) → Type 0
AnswersByNumbers answer = (x y : List ℕ) → ((c : Coord) → device_number x c ≡ device_number y c) → answer x ≡ answer y

pub parting-by-numbers : (parting : Parting) → AnswersByNumbers (answer_of parting)
unfolding answer_of
parting-by-numbers parting x y same =
    ap (says_yes parting.asked) (step-same (option_map cand_of parting.best) (cand_of parting.candidate) x y (fun_ext same))
