-- Which positions of a type have nothing: those behind the end of its body, however many it claims.
use Rattle.std.proofs.Common.{◌≡◌, ℕ, zero, suc, ◌+◌, ◌-◌, ◌*◌, ◌/◌, ◌<◌, ◌≤◌, Bool, true, false, List, [], ◌++◌, length, Option, Some, None, option_and_then, min, refl, ap, ◌∙◌, arith}
use Rattle.std.specs.List.{flat_map, range_with_len}
use Rattle.std.proofs.lemmas.Bool.{lt-ltb}
use Rattle.chunk_walk.specs.Number.{number_at}
use Rattle.chunk_walk.specs.Chunk.{ChunkOf}
use Rattle.resource_tool.specs.Findings.{Note}
use Rattle.resource_tool.specs.Entries.{is_sparse, has_short_offsets, offset_at, entry_flags, offset_count, notes_of_entry_flags, notes_of_entry, notes_of_entries}

number_at-behind : (n : ℕ) (bytes : List ℕ) (place : ℕ) → length bytes - place < n → number_at n bytes place ≡ None
number_at-behind n bytes place behind = rw (lt-ltb (length bytes - place) n behind) refl

module _ (chunk : ChunkOf) where
  -- an offset has two bytes at least, whatever its form is
  offset_at-behind : (position : ℕ) → length chunk.body < 2 * position + 2 → offset_at chunk position ≡ None
  unfolding offset_at
  offset_at-behind position behind = by-form (is_sparse chunk) (has_short_offsets chunk) refl refl
    where
      by-form : (sparse short : Bool) → is_sparse chunk ≡ sparse → has_short_offsets chunk ≡ short → offset_at chunk position ≡ None
      by-form true short is has = rw (is, number_at-behind 2 chunk.body (4 * position + 2) (omega (arith, behind))) refl
      by-form false true is has = rw (is, has, number_at-behind 2 chunk.body (2 * position) (omega (arith, behind))) refl
      by-form false false is has = rw (is, has, number_at-behind 4 chunk.body (4 * position) (omega (arith, behind))) refl

  entry_flags-behind : (position : ℕ) → length chunk.body < 2 * position + 2 → entry_flags chunk position ≡ None
  entry_flags-behind position behind = by-start (number_at 4 chunk.header 16)
    where
      by-start : (found : Option ℕ) → option_and_then (λ start. option_and_then (λ offset. number_at 2 chunk.whole (start + offset + 2)) (offset_at chunk position)) found ≡ None
      by-start None = refl
      by-start (Some start) = rw (offset_at-behind position behind) refl

  notes-behind : (position : ℕ) → length chunk.body < 2 * position + 2 → notes_of_entry chunk position ≡ []
  unfolding notes_of_entry
  notes-behind position behind = ap (λ (flags : Option ℕ). notes_of_entry_flags chunk.place flags) (entry_flags-behind position behind)

  no-notes : (count position : ℕ) → length chunk.body < 2 * position + 2 → flat_map (notes_of_entry chunk) (range_with_len position count) ≡ []
  no-notes zero position behind = refl
  no-notes (suc count) position behind =
      ap (λ (first : List Note). first ++ flat_map (notes_of_entry chunk) (range_with_len (position + 1) count)) (notes-behind position behind)
      ∙ no-notes count (position + 1) (omega arith)

  -- where positions are left out, they stand behind the body's end
  within : (few count position : ℕ) → few ≤ count → (few < count → length chunk.body < 2 * (position + few) + 2)
      → flat_map (notes_of_entry chunk) (range_with_len position count) ≡ flat_map (notes_of_entry chunk) (range_with_len position few)
  within zero zero position fewer behind = refl
  within zero (suc count) position fewer behind = no-notes (suc count) position (omega (arith, behind (omega arith)))
  within (suc few) zero position fewer behind = absurd (omega arith)
  within (suc few) (suc count) position fewer behind =
      ap (λ (others : List Note). notes_of_entry chunk position ++ others)
      (within few count (position + 1) (omega arith) (λ less. omega (arith, behind (omega arith))))

  pub notes-within : (count : ℕ) → count ≡ min (offset_count chunk) (length chunk.body / 2)
      → notes_of_entries chunk ≡ flat_map (notes_of_entry chunk) (range_with_len 0 count)
  unfolding notes_of_entries
  notes-within count is = within count (offset_count chunk) 0 (omega arith) (λ less. omega arith)
