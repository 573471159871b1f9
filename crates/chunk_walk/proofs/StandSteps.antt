-- Each chunk within another stands where its place says.
use Rattle.std.proofs.Common.{◌≡◌, ℕ, zero, suc, ◌+◌, ◌-◌, ◌≤◌, List, [], ◌∷◌, ◌++◌, length, length-append, length-drop, drop, Result, Ok, Err, refl, sym, ap, subst, ◌∙◌, arith, inl, inr}
use Rattle.std.specs.Prelude.{All}
use Rattle.std.proofs.lemmas.Bool.{cases_lt, lt-ltb, le-ltb}
use Rattle.std.proofs.lemmas.List.{drop-drop}
use Rattle.std.proofs.lemmas.List.Elements.{All-nil, All-cons}
use Rattle.std.proofs.Math.Seq.{drop-append_seam}
use Rattle.chunk_walk.specs.declared.chunk.ChunkFault.{ChunkFault}
use Rattle.chunk_walk.specs.Chunk.{ChunkOf, chunk_in}
use Rattle.chunk_walk.specs.Chunks.{followed_by, at_most_chunks, chunks_of, children_of, StandsAt, StandsIn}
use Rattle.chunk_walk.proofs.ChunksSteps.{chunk_in-ok}

module _ (outer : ChunkOf) where
  abbrev Stand : List (Result ChunkOf ChunkFault) → Type 0
  Stand chunks = All (StandsIn outer) chunks

  first-stands : (at : ℕ) (found : Result ChunkOf ChunkFault) (chunks : ℕ → List ℕ → List (Result ChunkOf ChunkFault)) → at ≤ length outer.whole
      → chunk_in (outer.place + at) (drop at outer.whole) 8 ≡ found
      → ((behind : ℕ) → behind ≤ length outer.whole → Stand (chunks (outer.place + behind) (drop behind outer.whole)))
      → Stand (followed_by chunks (drop at outer.whole) found)
  first-stands at (Err fault) chunks within is others = All-cons (StandsIn outer) (Err fault) [] tt (All-nil (StandsIn outer))
  first-stands at (Ok c) chunks within is others =
      let w = chunk_in-ok (outer.place + at) (drop at outer.whole) 8 c is in
      let left : length (drop at outer.whole) ≡ length outer.whole - at = length-drop at outer.whole in
      let high : length c.whole ≤ length (drop at outer.whole) = w.high in
      let same : c.place - outer.place ≡ at = omega (arith, w.stands) in
      let place : c.place + length c.whole ≡ outer.place + (at + length c.whole) = omega (arith, w.stands) in
      let here : StandsAt outer c = record {
        behind = omega (arith, w.stands);
        within = omega (arith, w.stands, left, high);
        found = rw same is;
      } in
      All-cons (StandsIn outer) (Ok c) _ here
      (rw (place, drop-drop (length c.whole) at outer.whole) (others (at + length c.whole) (omega (arith, left, high))))

  at-most-stand : (most at : ℕ) → at ≤ length outer.whole → Stand (at_most_chunks most (outer.place + at) (drop at outer.whole))
  unfolding at_most_chunks
  at-most-stand zero at within = All-nil (StandsIn outer)
  at-most-stand (suc most) at within =
      elim (cases_lt (length (drop at outer.whole)) 8) [
        | inl lt ↦ rw (lt-ltb (length (drop at outer.whole)) 8 lt) (All-nil (StandsIn outer))
        | inr le ↦ rw (le-ltb (length (drop at outer.whole)) 8 le)
            (first-stands at (chunk_in (outer.place + at) (drop at outer.whole) 8) (at_most_chunks most) within refl (λ behind below. at-most-stand most behind below))
      ]

  pub children-stand : outer.whole ≡ outer.header ++ outer.body → Stand (children_of outer)
  unfolding chunks_of
  children-stand parts =
      let body : drop (length outer.header) outer.whole ≡ outer.body = ap (λ (t : List ℕ). drop (length outer.header) t) parts ∙ drop-append_seam outer.header outer.body in
      let size : length outer.whole ≡ length outer.header + length outer.body = ap (λ (t : List ℕ). length t) parts ∙ length-append outer.header outer.body in
      subst (λ (t : List ℕ). Stand (at_most_chunks (length outer.body) (outer.place + length outer.header) t)) body
      (at-most-stand (length outer.body) (length outer.header) (omega (arith, size)))
