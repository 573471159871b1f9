-- How the chunks go on.
use Rattle.std.proofs.Common.{◌≡◌, ℕ, zero, suc, ◌+◌, ◌-◌, ◌*◌, ◌<◌, ◌≤◌, List, [], ◌∷◌, length, take, drop, Result, Ok, Err, refl, sym, ap, ◌∙◌, arith, length-drop, inl, inr}
use Rattle.std.proofs.lemmas.Bool.{cases_lt, ltb-false, lt-ltb, le-ltb}
use Rattle.std.proofs.lemmas.List.{length-take}
use Rattle.contract_words.proofs.FaultSteps.{checked_by-ok}
use Rattle.chunk_walk.specs.declared.chunk.ChunkFault.{ChunkFault}
use Rattle.chunk_walk.specs.Chunk.{ChunkOf, header_size_in, size_in, chunk_faults, fields_in, chunk_in}
use Rattle.chunk_walk.specs.Chunks.{followed_by, at_most_chunks, chunks_of}

-- what is known of a chunk that is found
pub record IsWithin (place : ℕ) (left : List ℕ) (min : ℕ) (c : ChunkOf) : Type 0 where
  pub stands : c.place ≡ place
  pub low : min ≤ length c.whole
  pub high : length c.whole ≤ length left

pub chunk_in-ok : (place : ℕ) (left : List ℕ) (min : ℕ) (c : ChunkOf) → chunk_in place left min ≡ Ok c → IsWithin place left min c
unfolding chunk_in
chunk_in-ok place left min c e =
    let r = checked_by-ok (chunk_faults place left min) (Ok (fields_in place left)) c e in
    let same : fields_in place left ≡ c = cc in
    let b : min ≤ header_size_in left = ltb-false _ _ r.0.1.0 in
    let d : header_size_in left ≤ size_in left = ltb-false _ _ r.0.1.1.0 in
    let f : size_in left ≤ length left = ltb-false _ _ r.0.1.1.1.1.0 in
    let n : length (take (size_in left) left) ≡ size_in left = omega (arith, length-take (size_in left) left) in
    let is-whole : take (size_in left) left ≡ c.whole = ap (λ (c : ChunkOf). c.whole) same in
    let m : length c.whole ≡ size_in left = sym (ap (λ (t : List ℕ). length t) is-whole) ∙ n in
    record {
      stands = ap (λ (c : ChunkOf). c.place) (sym same);
      low = omega arith;
      high = omega arith;
    }

-- what follows a chunk is the same list, where it is for whatever shorter bytes are left behind it
same_behind : (f g : ℕ → List ℕ → List (Result ChunkOf ChunkFault)) (place : ℕ) (left : List ℕ) (r : Result ChunkOf ChunkFault) → chunk_in place left 8 ≡ r
    → ((q : ℕ) (behind : List ℕ) → length behind + 8 ≤ length left → f q behind ≡ g q behind) → followed_by f left r ≡ followed_by g left r
same_behind f g place left (Err fault) found same = refl
same_behind f g place left (Ok c) found same =
    let w = chunk_in-ok place left 8 c found in
    let shorter : length (drop (length c.whole) left) + 8 ≤ length left = omega (arith, length-drop (length c.whole) left, w.low, w.high) in
    ap (λ (cs : List (Result ChunkOf ChunkFault)). Ok c ∷ cs) (same (c.place + length c.whole) (drop (length c.whole) left) shorter)

more_than_enough : (n m : ℕ) (place : ℕ) (left : List ℕ) → length left ≤ n → length left ≤ m → at_most_chunks n place left ≡ at_most_chunks m place left
unfolding at_most_chunks
more_than_enough zero zero place left a b = refl
more_than_enough zero (suc m) place left a b = rw (lt-ltb (length left) 8 (omega arith)) refl
more_than_enough (suc n) zero place left a b = rw (lt-ltb (length left) 8 (omega arith)) refl
more_than_enough (suc n) (suc m) place left a b =
    let behind = same_behind (at_most_chunks n) (at_most_chunks m) place left (chunk_in place left 8) refl
    (λ q behind shorter. more_than_enough n m q behind (omega arith) (omega arith)) in
    elim (cases_lt (length left) 8) [
      | inl lt ↦ rw (lt-ltb (length left) 8 lt) refl
      | inr le ↦ rw (le-ltb (length left) 8 le) behind
    ]

pub chunks_of-end : (place : ℕ) (left : List ℕ) → length left < 8 → chunks_of place left ≡ []
unfolding chunks_of at_most_chunks
chunks_of-end place left short = ends (length left) refl
  where
    ends : (n : ℕ) → length left ≡ n → at_most_chunks n place left ≡ []
    ends zero e = refl
    ends (suc n) e = rw (lt-ltb (length left) 8 short) refl

chunks_of-next : (place : ℕ) (left : List ℕ) (r : Result ChunkOf ChunkFault) → 8 ≤ length left → chunk_in place left 8 ≡ r → chunks_of place left ≡ followed_by chunks_of left r
unfolding chunks_of at_most_chunks
chunks_of-next place left r long found = goes_on (length left) refl ∙ at_each r found
  where
    goes_on : (n : ℕ) → length left ≡ n → at_most_chunks n place left ≡ followed_by (at_most_chunks (n - 1)) left r
    goes_on zero e = absurd (omega arith)
    goes_on (suc n) e = rw (le-ltb (length left) 8 long, found) (ap (λ (k : ℕ). followed_by (at_most_chunks k) left r) (omega arith))

    at_each : (r : Result ChunkOf ChunkFault) → chunk_in place left 8 ≡ r → followed_by (at_most_chunks (length left - 1)) left r ≡ followed_by chunks_of left r
    at_each r e = same_behind (at_most_chunks (length left - 1)) chunks_of place left r e
        (λ q behind shorter. more_than_enough (length left - 1) (length behind) q behind (omega arith) (omega arith))

pub chunks_of-ok : (place : ℕ) (left : List ℕ) (c : ChunkOf) → 8 ≤ length left → Ok c ≡ chunk_in place left 8
    → chunks_of place left ≡ Ok c ∷ chunks_of (place + length c.whole) (drop (length c.whole) left)
chunks_of-ok place left c long found =
    chunks_of-next place left (Ok c) long (sym found)
    ∙ ap (λ (q : ℕ). Ok c ∷ chunks_of (q + length c.whole) (drop (length c.whole) left)) (chunk_in-ok place left 8 c (sym found)).stands

pub chunks_of-err : (place : ℕ) (left : List ℕ) (f : ChunkFault) → 8 ≤ length left → Err f ≡ chunk_in place left 8 → chunks_of place left ≡ Err f ∷ []
chunks_of-err place left f long found = chunks_of-next place left (Err f) long (sym found)

-- each chunk has eight bytes at least, where this is so of what follows it
length-followed_by : (chunks : ℕ → List ℕ → List (Result ChunkOf ChunkFault)) (place : ℕ) (left : List ℕ) (r : Result ChunkOf ChunkFault) → chunk_in place left 8 ≡ r → 8 ≤ length left
    → ((q : ℕ) (behind : List ℕ) → 8 * length (chunks q behind) ≤ length behind) → 8 * length (followed_by chunks left r) ≤ length left
length-followed_by chunks place left (Err fault) found le few = omega arith
length-followed_by chunks place left (Ok c) found le few =
    let w = chunk_in-ok place left 8 c found in
    omega (arith, few (c.place + length c.whole) (drop (length c.whole) left), length-drop (length c.whole) left, w.low, w.high)

length-at_most_chunks : (n place : ℕ) (left : List ℕ) → 8 * length (at_most_chunks n place left) ≤ length left
unfolding at_most_chunks
length-at_most_chunks zero place left = omega arith
length-at_most_chunks (suc n) place left =
    elim (cases_lt (length left) 8) [
      | inl lt ↦ rw (lt-ltb (length left) 8 lt) (omega arith)
      | inr le ↦ rw (le-ltb (length left) 8 le) (length-followed_by (at_most_chunks n) place left (chunk_in place left 8) refl le (λ q behind. length-at_most_chunks n q behind))
    ]

pub length-chunks_of : (place : ℕ) (left : List ℕ) → 8 * length (chunks_of place left) ≤ length left
unfolding chunks_of
length-chunks_of place left = length-at_most_chunks (length left) place left

pub ruleset chunks_steps = (chunks_of-end, chunks_of-ok, chunks_of-err)
