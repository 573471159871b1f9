-- How the entries of a type are gone through.
use Rattle.std.proofs.Common.{◌≡◌, ℕ, zero, suc, ◌+◌, ◌-◌, ◌<◌, ◌≤◌, Bool, true, false, List, [], map, Result, Ok, Err, refl, sym, ap, ◌∙◌, arith}
use Rattle.std.specs.Prelude.{IsOk, nat_lt}
use borrow.Author.Count.{below_more}
use Rattle.std.proofs.lemmas.Bool.Decides.{nat_tests}
use Rattle.std.specs.List.{range_with_len, flat_map}
use Rattle.contract_words.specs.Sequences.{joined, joined_each, joined_from}
use Rattle.type_entries.specs.declared.fault.TableFault.{TableFault}
use Rattle.type_entries.specs.declared.fault.TableFault.TheVariants as faults
use Rattle.type_entries.specs.Row.{RowOf}
use Rattle.type_entries.specs.TypeChunk.{TypeChunkOf}
use Rattle.type_entries.specs.Entry.{rows_of_entry}
use Rattle.type_entries.specs.Entries.{rows_of_entries}
use Rattle.type_entries.specs.EntryOffsets.{is_empty, indexes_rise}
use Rattle.type_entries.specs.Entries.{AreEmpty, AreRead, IsChecked, or_none, row_at_position, rows_from}

-- where no entry is, nothing is wrong, and no row is
pub empty-read : (chunk : TypeChunkOf) (position : ℕ) → is_empty chunk position ≡ true → rows_of_entry chunk position ≡ Ok []
unfolding rows_of_entry
empty-read chunk position none = rw none refl

pub AreRead-empty : (chunk : TypeChunkOf) (from behind : ℕ) → AreRead chunk from → AreEmpty chunk from behind → AreRead chunk behind
AreRead-empty chunk from behind read empty position below = by (nat_lt position from) refl
  where
    by : (b : Bool) → nat_lt position from ≡ b → IsOk (rows_of_entry chunk position)
    by true e = read position (grind (arith, nat_tests))
    by false e = rw (empty-read chunk position (empty position (grind (arith, nat_tests)) below)) refl

pub AreRead-next : (chunk : TypeChunkOf) (from position : ℕ) → AreRead chunk from → AreEmpty chunk from position → IsOk (rows_of_entry chunk position) → AreRead chunk (position + 1)
AreRead-next chunk from position read empty one = below_more (λ i. IsOk (rows_of_entry chunk i)) position (AreRead-empty chunk from position read empty) one

-- ---- the rows of all entries, or the first fault

module _ (f : ℕ → Result (List RowOf) TableFault) where
  -- one more in front
  joined-first : (s n : ℕ) (first : Result (List RowOf) TableFault) → f s ≡ first → IsOk first → joined (map f (range_with_len (s + 1) n)) ≡ Ok (flat_map (λ i. or_none (f i)) (range_with_len (s + 1) n))
      → joined (map f (range_with_len s (suc n))) ≡ Ok (flat_map (λ i. or_none (f i)) (range_with_len s (suc n)))
  unfolding joined
  joined-first s n (Ok rows) e is others = rw (e, others) refl
  joined-first s n (Err fault) e is others = absurd cc

  joined-all : (s n : ℕ) → ((i : ℕ) → s ≤ i → i < s + n → IsOk (f i)) → joined (map f (range_with_len s n)) ≡ Ok (flat_map (λ i. or_none (f i)) (range_with_len s n))
  unfolding joined
  joined-all s zero all = refl
  joined-all s (suc n) all = joined-first s n (f s) refl (all s (omega arith) (omega arith)) (joined-all (s + 1) n (λ i from below. all i (omega arith) (omega arith)))

  -- a fault behind the first
  fault-behind : (s n : ℕ) (first : Result (List RowOf) TableFault) (fault : TableFault) → f s ≡ first → IsOk first → joined (map f (range_with_len (s + 1) n)) ≡ Err fault → joined (map f (range_with_len s (suc n))) ≡ Err fault
  unfolding joined
  fault-behind s n (Ok rows) fault e is others = rw (e, others) refl
  fault-behind s n (Err other) fault e is others = absurd cc

  fault-first : (s n : ℕ) (fault : TableFault) → f s ≡ Err fault → joined (map f (range_with_len s (suc n))) ≡ Err fault
  unfolding joined
  fault-first s n fault e = rw e refl

  joined-stops : (n s k : ℕ) (fault : TableFault) → k < n → ((i : ℕ) → s ≤ i → i < s + k → IsOk (f i)) → f (s + k) ≡ Err fault → joined (map f (range_with_len s n)) ≡ Err fault
  joined-stops zero s k fault below all wrong = absurd (omega arith)
  joined-stops (suc n) s zero fault below all wrong = let same : s + 0 ≡ s = omega arith in fault-first s n fault (ap f (sym same) ∙ wrong)
  joined-stops (suc n) s (suc k) fault below all wrong =
      let same : s + 1 + k ≡ s + suc k = omega arith in
      fault-behind s n (f s) fault refl (all s (omega arith) (omega arith)) (joined-stops n (s + 1) k fault (omega arith) (λ i above less. all i (omega arith) (omega arith)) (ap f same ∙ wrong))

pub rows_of_entries-read : (chunk : TypeChunkOf) → IsChecked chunk → rows_of_entries chunk ≡ Ok (rows_from chunk 0)
unfolding joined_from joined_each rows_from row_at_position
rows_of_entries-read chunk checked = rw checked.rise (joined-all (rows_of_entry chunk) 0 (chunk.offset_count - 0) (λ i from below. checked.read i (omega arith)))

-- where the indexes do not rise, no entry is looked at
pub rows_of_entries-falls : (chunk : TypeChunkOf) → indexes_rise chunk ≡ false → rows_of_entries chunk ≡ Err (faults.Offsets chunk.place)
rows_of_entries-falls chunk falls = rw falls refl

pub rows_of_entries-stops : (chunk : TypeChunkOf) (from position : ℕ) (fault : TableFault) → indexes_rise chunk ≡ true → AreRead chunk from → AreEmpty chunk from position → position < chunk.offset_count
    → rows_of_entry chunk position ≡ Err fault → rows_of_entries chunk ≡ Err fault
unfolding joined_from joined_each
rows_of_entries-stops chunk from position fault rise read empty within wrong =
    let same : 0 + position ≡ position = omega arith in
    rw rise (joined-stops (rows_of_entry chunk) (chunk.offset_count - 0) 0 position fault (omega arith) (λ i above below. AreRead-empty chunk from position read empty i (omega arith)) (ap (λ i. rows_of_entry chunk i) same ∙ wrong))

pub ruleset check_steps = (AreRead-empty, AreRead-next, rows_of_entries-falls, rows_of_entries-stops)
