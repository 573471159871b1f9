-- How the spans of a style go on.
use Rattle.std.proofs.Common.{◌≡◌, ◌≢◌, ℕ, zero, suc, ◌+◌, ◌-◌, ◌*◌, ◌<◌, ◌≤◌, List, [], ◌∷◌, ◌++◌, length, drop, Result, Ok, Err, refl, sym, ap, ◌∙◌, arith, length-drop, drop-drop, inl, inr, ne_eqb}
use Rattle.std.proofs.lemmas.Bool.{cases_lt, lt-ltb, le-ltb}
use Rattle.std.proofs.lemmas.List.{append-nil}
use Rattle.contract_words.specs.Sequences.{with_front}
use Rattle.contract_words.proofs.SequenceSteps.{with_front_nil, with_front-twice}
use Rattle.chunk_walk.specs.Number.{number}
use Rattle.string_bytes.specs.declared.fault.StringFault.{StringFault}
use Rattle.string_bytes.specs.declared.fault.StringFault.TheVariants.{Cut}
use Rattle.string_pool.specs.declared.span.Span.{Span}
use Rattle.string_pool.specs.Style.{span_in, at_most_spans, spans_in}
use Rattle.string_pool.specs.Spans.{listed_spans}

-- ---- spans that are known to be there

pub listed_spans-none : (count : ℕ) (left : List ℕ) → count ≡ 0 → listed_spans count left ≡ []
unfolding listed_spans
listed_spans-none zero left e = refl
listed_spans-none (suc count) left e = absurd (omega arith)

pub listed_spans-next : (count : ℕ) (left behind : List ℕ) (span : Span) → 0 < count → span ≡ span_in left → behind ≡ drop 12 left
    → listed_spans count left ≡ span ∷ listed_spans (count - 1) behind
unfolding listed_spans
listed_spans-next zero left behind span some first others = absurd (omega arith)
listed_spans-next (suc count) left behind span some first others = let e : suc count - 1 ≡ count = omega arith in rw (e, others, first) refl

listed_spans-more : (count : ℕ) (left : List ℕ) → listed_spans (suc count) left ≡ listed_spans count left ++ span_in (drop (12 * count) left) ∷ []
unfolding listed_spans
listed_spans-more zero left = refl
listed_spans-more (suc count) left =
    let place : 12 + 12 * count ≡ 12 * suc count = omega arith in
    let behind : drop (12 * count) (drop 12 left) ≡ drop (12 * suc count) left = drop-drop (12 * count) 12 left ∙ ap (λ (n : ℕ). drop n left) place in
    ap (λ (spans : List Span). span_in left ∷ spans) (listed_spans-more count (drop 12 left) ∙ ap (λ (bytes : List ℕ). listed_spans count (drop 12 left) ++ span_in bytes ∷ []) behind)

pub ruleset listed_steps = (listed_spans-none, listed_spans-next)

-- ---- spans up to the name that ends them

more_than_enough : (n m : ℕ) (left : List ℕ) → length left ≤ n → length left ≤ m → at_most_spans n left ≡ at_most_spans m left
unfolding at_most_spans
more_than_enough zero zero left a b = refl
more_than_enough zero (suc m) left a b = rw (lt-ltb (length left) 4 (omega arith)) refl
more_than_enough (suc n) zero left a b = rw (lt-ltb (length left) 4 (omega arith)) refl
more_than_enough (suc n) (suc m) left a b =
    elim (cases_lt (length left) 12) [
      | inl lt ↦ rw (lt-ltb (length left) 12 lt) refl
      | inr le ↦ rw (more_than_enough n m (drop 12 left) (omega (arith, length-drop 12 left)) (omega (arith, length-drop 12 left))) refl
    ]

pub spans_in-short : (left : List ℕ) → length left < 4 → spans_in left ≡ Err Cut
unfolding spans_in at_most_spans
spans_in-short left short = ends (length left)
  where
    ends : (n : ℕ) → at_most_spans n left ≡ Err Cut
    ends zero = refl
    ends (suc n) = rw (lt-ltb (length left) 4 short) refl

pub spans_in-end : (left : List ℕ) → 4 ≤ length left → number 4 left 0 ≡ 0xffff_ffff → spans_in left ≡ Ok []
unfolding spans_in at_most_spans
spans_in-end left long is_end = ends (length left) refl
  where
    ends : (n : ℕ) → length left ≡ n → at_most_spans n left ≡ Ok []
    ends zero e = absurd (omega arith)
    ends (suc n) e = rw (le-ltb (length left) 4 long, is_end) refl

pub spans_in-cut : (left : List ℕ) → 4 ≤ length left → length left < 12 → number 4 left 0 ≢ 0xffff_ffff → spans_in left ≡ Err Cut
unfolding spans_in at_most_spans
spans_in-cut left long short is_name = ends (length left) refl
  where
    ends : (n : ℕ) → length left ≡ n → at_most_spans n left ≡ Err Cut
    ends zero e = refl
    ends (suc n) e = rw (le-ltb (length left) 4 long, ne_eqb (number 4 left 0) 0xffff_ffff is_name, lt-ltb (length left) 12 short) refl

pub spans_in-next : (left : List ℕ) → 12 ≤ length left → number 4 left 0 ≢ 0xffff_ffff → spans_in left ≡ with_front (span_in left ∷ []) (spans_in (drop 12 left))
unfolding spans_in at_most_spans
spans_in-next left long is_name = goes_on (length left) refl
  where
    goes_on : (n : ℕ) → length left ≡ n → at_most_spans n left ≡ with_front (span_in left ∷ []) (at_most_spans (length (drop 12 left)) (drop 12 left))
    goes_on zero e = absurd (omega arith)
    goes_on (suc n) e =
        rw (le-ltb (length left) 4 (omega arith), ne_eqb (number 4 left 0) 0xffff_ffff is_name, le-ltb (length left) 12 long)
        (ap (λ (spans : Result (List Span) StringFault). with_front (span_in left ∷ []) spans) (more_than_enough n (length (drop 12 left)) (drop 12 left) (omega (arith, length-drop 12 left)) (omega arith)))

-- ---- a loop that counts spans

-- so many spans were counted, and behind them those of what is left are still to come
pub record CountsSpans (count : ℕ) (behind left : List ℕ) : Type 0 where
  pub place : behind ≡ drop (12 * count) left
  pub fits : 12 * count + length behind ≡ length left
  pub others : with_front (listed_spans count left) (spans_in behind) ≡ spans_in left

pub CountsSpans-none : (left : List ℕ) → CountsSpans 0 left left
unfolding listed_spans
CountsSpans-none left = record { place = refl; fits = omega arith; others = with_front_nil (spans_in left) }

pub CountsSpans-next : (count : ℕ) (behind others left : List ℕ) → CountsSpans count behind left → 12 ≤ length behind → number 4 behind 0 ≢ 0xffff_ffff
    → others ≡ drop 12 behind → CountsSpans (count + 1) others left
CountsSpans-next count behind others left before long is_name split =
    let next : suc count ≡ count + 1 = omega arith in
    let after : 12 + 12 * count ≡ 12 * (count + 1) = omega arith in
    let listed : listed_spans (count + 1) left ≡ listed_spans count left ++ span_in behind ∷ [] =
    ap (λ (n : ℕ). listed_spans n left) (sym next) ∙ listed_spans-more count left
    ∙ ap (λ (bytes : List ℕ). listed_spans count left ++ span_in bytes ∷ []) (sym before.place) in
    record {
      place = split ∙ ap (λ (bytes : List ℕ). drop 12 bytes) before.place ∙ drop-drop 12 (12 * count) left ∙ ap (λ (n : ℕ). drop n left) (omega arith);
      fits = omega (arith, length-drop 12 behind, before.fits, ap (λ (bytes : List ℕ). length bytes) split);
      others =
          ap (λ (bytes : List ℕ). with_front (listed_spans (count + 1) left) (spans_in bytes)) split
          ∙ ap (λ (spans : List Span). with_front spans (spans_in (drop 12 behind))) listed
          ∙ sym (with_front-twice (listed_spans count left) (span_in behind ∷ []) (spans_in (drop 12 behind)))
          ∙ ap (λ (r : Result (List Span) StringFault). with_front (listed_spans count left) r) (sym (spans_in-next behind long is_name))
          ∙ before.others;
    }

pub CountsSpans-end : (count : ℕ) (behind left : List ℕ) → CountsSpans count behind left → spans_in behind ≡ Ok [] → spans_in left ≡ Ok (listed_spans count left)
CountsSpans-end count behind left before nothing =
    let wrapped : List Span → Result (List Span) StringFault = λ t. Ok t in
    sym before.others ∙ ap (λ (r : Result (List Span) StringFault). with_front (listed_spans count left) r) nothing
    ∙ ap wrapped (append-nil (listed_spans count left))

pub CountsSpans-stops : (count : ℕ) (behind left : List ℕ) → CountsSpans count behind left → spans_in behind ≡ Err Cut → spans_in left ≡ Err Cut
CountsSpans-stops count behind left before stops = sym before.others ∙ ap (λ (r : Result (List Span) StringFault). with_front (listed_spans count left) r) stops

pub ruleset span_steps = (CountsSpans-none, CountsSpans-next, CountsSpans-end, CountsSpans-stops, spans_in-short, spans_in-end, spans_in-cut)
