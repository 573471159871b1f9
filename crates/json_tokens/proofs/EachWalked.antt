-- What is read of each item of a list that is walked.
use Rattle.std.proofs.Common.{◌≡◌, ℕ, List, [], ◌∷◌, ◌++◌, Option, Some, None, ok_or, Result, Ok, Err, refl, sym, ap, ◌∙◌, append_assoc}
use Rattle.contract_words.specs.Faults.{◌>>=◌}
use Rattle.contract_words.specs.Sequences.{with_front}
use Rattle.contract_words.proofs.SequenceSteps.{with_front_nil, with_front-twice}
use Rattle.json.specs.Token.{Token}
use Rattle.json.specs.Json.{parse_map, after_end_array}
use Rattle.json.proofs.Grammar.{left}
use Rattle.serde_json.specs.Data.{Data}
use Rattle.json_tokens.specs.json_input.Each.{each, list_of}
use Rattle.json_tokens.specs.Standing.{value_at, items_at}
use Rattle.json_input.proofs.EachSteps.{each-err}
use Rattle.json_input.proofs.EachLeft.{each-nil}
use Rattle.json_tokens.proofs.Standing.{read_some, list-read}
use Rattle.json_tokens.proofs.Walked.{Walked, Walked-none, Walked-next, Walked-end, Walked-malformed, Walked-passed, Walked-not_passed}

each-append : {A X E : Type 0} (f : A → Result X E) (before others : List A) → each f (before ++ others) ≡ (each f before >>= λ so_far. with_front so_far (each f others))
unfolding each
each-append f [] others = sym (with_front_nil (each f others))
each-append {A} {X} {E} f (a ∷ before) others = one (f a) (each-append f before others)
  where
    later : (x : X) (r : Result (List X) E) → with_front (x ∷ []) (r >>= λ so_far. with_front so_far (each f others)) ≡ (with_front (x ∷ []) r >>= λ so_far. with_front so_far (each f others))
    later x (Ok so_far) = with_front-twice (x ∷ []) so_far (each f others)
    later x (Err fault) = refl

    one : (r : Result X E) → each f (before ++ others) ≡ (each f before >>= λ so_far. with_front so_far (each f others))
        → (r >>= λ x. with_front (x ∷ []) (each f (before ++ others))) ≡ ((r >>= λ x. with_front (x ∷ []) (each f before)) >>= λ so_far. with_front so_far (each f others))
    one (Ok x) more = ap (with_front (x ∷ [])) more ∙ later x (each f before)
    one (Err fault) more = refl

-- what is read of some items, and of those behind them
after : {A X E : Type 0} (f : A → Result X E) (before others : List A) (so_far : List X) → each f before ≡ Ok so_far → each f (before ++ others) ≡ with_front so_far (each f others)
after {A} {X} {E} f before others so_far e = each-append f before others ∙ ap (λ (r : Result (List X) E). r >>= λ so_far. with_front so_far (each f others)) e

each-one_more : {A X E : Type 0} (f : A → Result X E) (before : List A) (a : A) (so_far : List X) (x : X) → each f before ≡ Ok so_far → f a ≡ Ok x → each f (before ++ a ∷ []) ≡ Ok (so_far ++ x ∷ [])
unfolding each
each-one_more {A} {X} {E} f before a so_far x e is =
    after f before (a ∷ []) so_far e ∙ ap (λ (r : Result X E). with_front so_far (r >>= λ x. with_front (x ∷ []) (each f []))) is

-- what stands behind the first fault does not matter
each-stops : {A X E : Type 0} (f : A → Result X E) (before others : List A) (a : A) (so_far : List X) (fault : E) → each f before ≡ Ok so_far → f a ≡ Err fault
    → each f ((before ++ a ∷ []) ++ others) ≡ Err fault
each-stops f before others a so_far fault e is =
    ap (each f) (append_assoc before (a ∷ []) others)
    ∙ after f before (a ∷ others) so_far e
    ∙ ap (with_front so_far) (each-err f a others fault is)

-- ---- a loop that stops at the first fault

-- what f reads of the items that were taken
pub record EachWalked {X E : Type 0} (f : Data → Result X E) (depth : ℕ) (start : List Token) (so_far : List X) (now : List Token) : Type 0 where
  pub before : List Data
  pub walked : Walked depth start before now
  pub read : each f before ≡ Ok so_far

pub EachWalked-none : {X E : Type 0} (f : Data → Result X E) (depth : ℕ) (start : List Token) → EachWalked f depth start [] start
EachWalked-none f depth start = record { before = []; walked = Walked-none depth start; read = each-nil f }

pub EachWalked-next : {X E : Type 0} (f : Data → Result X E) (depth : ℕ) (start now r : List Token) (so_far : List X) (x : X)
    → EachWalked f depth start so_far now → after_end_array now ≡ None → parse_map f (value_at depth now) ≡ Some (Ok x, r) → EachWalked f depth start (so_far ++ x ∷ []) r
EachWalked-next f depth start now r so_far x so going e =
    let d = read_some f (value_at depth now) (Ok x) r e in
    record {
      before = so.before ++ d.0 ∷ [];
      walked = Walked-next depth start now r so.before d.0 so.walked going d.1;
      read = each-one_more f so.before d.0 so_far x so.read d.2;
    }

pub EachWalked-end : {X E : Type 0} (f : Data → Result X E) (depth : ℕ) (start now r : List Token) (so_far : List X)
    → EachWalked f depth start so_far now → after_end_array now ≡ Some r → parse_map (each f) (items_at depth start) ≡ Some (Ok so_far, r)
EachWalked-end f depth start now r so_far so e =
    ap (parse_map (each f)) (Walked-end depth start now r so.before so.walked e) ∙ ap (λ y. Some (y, r)) so.read

pub EachWalked-stops : {X E : Type 0} (f : Data → Result X E) (depth : ℕ) (start now s r : List Token) (so_far : List X) (fault : E)
    → EachWalked f depth start so_far now → after_end_array now ≡ None → parse_map f (value_at depth now) ≡ Some (Err fault, s) → left (items_at depth s) ≡ Some r
    → parse_map (each f) (items_at depth start) ≡ Some (Err fault, r)
EachWalked-stops f depth start now s r so_far fault so going e passed =
    let d = read_some f (value_at depth now) (Err fault) s e in
    let others = Walked-passed depth start s r (so.before ++ d.0 ∷ []) (Walked-next depth start now s so.before d.0 so.walked going d.1) passed in
    ap (parse_map (each f)) others.1 ∙ ap (λ y. Some (y, r)) (each-stops f so.before others.0 d.0 so_far fault so.read d.2)

pub EachWalked-malformed : {X E : Type 0} (f : Data → Result X E) (depth : ℕ) (start now : List Token) (so_far : List X)
    → EachWalked f depth start so_far now → after_end_array now ≡ None → value_at depth now ≡ None → items_at depth start ≡ None
EachWalked-malformed f depth start now so_far so going e = Walked-malformed depth start now so.before so.walked going e

pub EachWalked-not_passed : {X E : Type 0} (f : Data → Result X E) (depth : ℕ) (start now s : List Token) (so_far : List X) (y : Result X E)
    → EachWalked f depth start so_far now → after_end_array now ≡ None → parse_map f (value_at depth now) ≡ Some (y, s) → items_at depth s ≡ None → items_at depth start ≡ None
EachWalked-not_passed f depth start now s so_far y so going e none =
    let d = read_some f (value_at depth now) y s e in
    Walked-not_passed depth start s (so.before ++ d.0 ∷ []) (Walked-next depth start now s so.before d.0 so.walked going d.1) none

-- what a list means of which each item is read
pub list-each : {X E : Type 0} (f : Data → Result X E) (no_list : E) (depth inner : ℕ) (ts s r : List Token) (y : Result (List X) E)
    → parse_map list_of (value_at depth ts) ≡ parse_map {A = List Data} Some (items_at inner s) → parse_map (each f) (items_at inner s) ≡ Some (y, r)
    → parse_map (λ value. ok_or (list_of value) no_list >>= each f) (value_at depth ts) ≡ Some (y, r)
list-each {X} {E} f no_list depth inner ts s r y entered e =
    let items = read_some (each f) (items_at inner s) y r e in
    let meant : Option (List Data) → Result (List X) E = λ items. ok_or items no_list >>= each f in
    list-read meant depth inner ts s r items.0 entered items.1 ∙ ap (λ y. Some (y, r)) items.2

pub ruleset each_walked_steps = (EachWalked-none, EachWalked-next, EachWalked-end, EachWalked-stops, EachWalked-malformed, EachWalked-not_passed)
