-- What is known of an entry that has no fault.
use Rattle.std.proofs.Common.{◌≡◌, ◌≢◌, ℕ, ◌+◌, ◌*◌, ◌<◌, ◌≤◌, Bool, true, false, List, [], ◌∷◌, length, drop, Option, Some, None, Result, Ok, Err, refl, sym, subst, ◌∙◌, arith, ◌-◌, take, ap, length-drop}
use Rattle.std.proofs.lemmas.List.{take_all}
use Rattle.std.specs.Prelude.{IsOk, find, nat_lt, not, ◌==◌, ◌%◌, if◌then◌else◌}
use Rattle.std.specs.List.{range_with_len}
use Rattle.std.proofs.lemmas.Bool.Decides.{nat_tests}
use Rattle.contract_words.specs.Faults.{◌>>=◌, refuse}
use Rattle.string_pool.specs.chunk_walk.Number.{number}
use Rattle.res_value.specs.Cell.{CellOf, BagOf}
use Rattle.res_value.specs.MapRows.{map_rows_in, map_rows_at, has_wrong_size, unless_wrong}
use Rattle.res_value.specs.declared.map_rows.MapRowsFault.{MapRowsFault}
use Rattle.res_value.specs.declared.map_rows.MapRowsFault.TheVariants.{Short, ValueSize}
use Rattle.res_value.specs.declared.res_id.ResId.{ResId}
use Rattle.res_value.specs.declared.value.Value.{Value}
use Rattle.type_entries.specs.declared.fault.TableFault.{TableFault}
use Rattle.type_entries.specs.declared.fault.TableFault.TheVariants as faults
use Rattle.type_entries.specs.Layout.{least_entry, least_entry_size}
use Rattle.type_entries.specs.Row.{RowOf}
use Rattle.type_entries.specs.TypeChunk.{TypeChunkOf}
use Rattle.type_entries.specs.Entry.{is_row, is_complex, row_of_entry, bag_of_rows, bag_of_entry, value_of_entry, rows_of_entry_at}
use Rattle.type_entries.specs.Entries.{held_at, HasEntry}
use Rattle.type_entries.specs.Checks.{Checks}

-- four steps that may be refused, and what comes then
pub four_steps : {X E : Type 0} → Bool → E → Bool → E → Bool → E → Bool → E → Result X E → Result X E
four_steps a e b f c g d h last = do
  _ ← refuse a e
  _ ← refuse b f
  _ ← refuse c g
  _ ← refuse d h
  last

none_refused : {X E : Type 0} (a : Bool) (e : E) (b : Bool) (f : E) (c : Bool) (g : E) (d : Bool) (h : E) (last : Result X E) → IsOk (four_steps a e b f c g d h last)
    → (a ≡ false) × (b ≡ false) × (c ≡ false) × (d ≡ false) × (four_steps a e b f c g d h last ≡ last)
unfolding four_steps
none_refused true e b f c g d h last is = absurd cc
none_refused false e true f c g d h last is = absurd cc
none_refused false e false f true g d h last is = absurd cc
none_refused false e false f false g true h last is = absurd cc
none_refused false e false f false g false h last is = (refl, refl, refl, refl, refl)

pub all_passed : {X E : Type 0} (a : Bool) (e : E) (b : Bool) (f : E) (c : Bool) (g : E) (d : Bool) (h : E) (last : Result X E) → a ≡ false → b ≡ false → c ≡ false → d ≡ false → four_steps a e b f c g d h last ≡ last
unfolding four_steps
all_passed a e b f c g d h last ea eb ec ed = rw (ea, eb, ec, ed) refl

-- the rows that follow from what an entry holds
abbrev pub rows_with : TypeChunkOf → ℕ → ℕ → Result CellOf TableFault → Result (List RowOf) TableFault
rows_with chunk index at held = held >>= λ cell. Ok (if is_row chunk index then row_of_entry chunk index at cell ∷ [] else [])

held-ok : (chunk : TypeChunkOf) (index at : ℕ) (held : Result CellOf TableFault) → IsOk (rows_with chunk index at held) → IsOk held
held-ok chunk index at (Ok cell) is = refl
held-ok chunk index at (Err fault) is = absurd cc

module _ (chunk : TypeChunkOf) (index at : ℕ) (is : IsOk (rows_of_entry_at chunk index at)) where
  abbrev size : ℕ
  size = number 2 chunk.whole at

  whole : (not (at % 4 == 0) ≡ false) × (nat_lt (length chunk.whole) (at + least_entry) ≡ false) × (nat_lt size (least_entry_size (is_complex chunk at)) ≡ false)
      × (nat_lt (length chunk.whole) (at + size) ≡ false) × (rows_of_entry_at chunk index at ≡ rows_with chunk index at (held_at chunk at))
  unfolding rows_of_entry_at held_at four_steps
  whole = none_refused (not (at % 4 == 0)) (faults.Entry (chunk.place + at)) (nat_lt (length chunk.whole) (at + least_entry)) (faults.Entry (chunk.place + at))
      (nat_lt size (least_entry_size (is_complex chunk at))) (faults.Entry (chunk.place + at)) (nat_lt (length chunk.whole) (at + size)) (faults.Entry (chunk.place + at))
      (rows_with chunk index at (held_at chunk at)) is

  pub entry_at-with : rows_of_entry_at chunk index at ≡ rows_with chunk index at (held_at chunk at)
  entry_at-with = whole.4

  pub entry_at-has : HasEntry chunk at
  entry_at-has = record {
    fields = grind (arith, nat_tests, whole.1);
    size = grind (arith, nat_tests, whole.2);
    fits = grind (arith, nat_tests, whole.3);
    holds = held-ok chunk index at (held_at chunk at) (rw (sym whole.4) is);
  }

  pub entry_at-rows : (cell : CellOf) → Ok cell ≡ held_at chunk at → rows_of_entry_at chunk index at ≡ Ok (if is_row chunk index then row_of_entry chunk index at cell ∷ [] else [])
  entry_at-rows cell held = whole.4 ∙ rw (sym held) refl

pub ruleset entry_steps = (entry_at-has, entry_at-rows)

pub held-bag : (chunk : TypeChunkOf) (at : ℕ) → is_complex chunk at ≡ true → held_at chunk at ≡ bag_of_entry chunk at (at + number 2 chunk.whole at)
unfolding held_at
held-bag chunk at complex = rw complex refl

pub held-value : (chunk : TypeChunkOf) (at : ℕ) → is_complex chunk at ≡ false → held_at chunk at ≡ value_of_entry chunk at (at + number 2 chunk.whole at)
unfolding held_at
held-value chunk at plain = rw plain refl

-- what was checked of what an entry holds was checked of its rows
with-checked : (chunk : TypeChunkOf) (index at : ℕ) (result : Result (Unit {0}) TableFault) (held : Result CellOf TableFault) → Checks result held
    → Checks result (rows_with chunk index at held)
with-checked chunk index at (Ok done) (Ok cell) checked = refl
with-checked chunk index at (Ok done) (Err fault) checked = absurd cc
with-checked chunk index at (Err fault) (Ok cell) checked = absurd cc
with-checked chunk index at (Err fault) (Err found) checked = cc

pub rows-checked : (chunk : TypeChunkOf) (index at : ℕ) (result : Result (Unit {0}) TableFault) → at % 4 ≡ 0 → at + least_entry ≤ length chunk.whole → least_entry_size (is_complex chunk at) ≤ number 2 chunk.whole at
    → at + number 2 chunk.whole at ≤ length chunk.whole → Checks result (held_at chunk at) → Checks result (rows_of_entry_at chunk index at)
unfolding rows_of_entry_at four_steps held_at
rows-checked chunk index at result aligned fields least fits checked =
    let passed = all_passed (not (at % 4 == 0)) (faults.Entry (chunk.place + at)) (nat_lt (length chunk.whole) (at + least_entry)) (faults.Entry (chunk.place + at))
    (nat_lt (number 2 chunk.whole at) (least_entry_size (is_complex chunk at))) (faults.Entry (chunk.place + at)) (nat_lt (length chunk.whole) (at + number 2 chunk.whole at)) (faults.Entry (chunk.place + at))
    (rows_with chunk index at (held_at chunk at)) (grind (arith, nat_tests, aligned)) (grind (arith, nat_tests, fields)) (grind (arith, nat_tests, least)) (grind (arith, nat_tests, fits)) in
    subst (λ (r : Result (List RowOf) TableFault). Checks result r) (sym passed) (with-checked chunk index at result (held_at chunk at) checked)

-- ---- entries that are refused

module _ (chunk : TypeChunkOf) (index at : ℕ) where
  pub entry-unaligned : at % 4 ≢ 0 → rows_of_entry_at chunk index at ≡ Err (faults.Entry (chunk.place + at))
  unfolding rows_of_entry_at
  entry-unaligned unaligned = let aligned : (at % 4 == 0) ≡ false = grind (arith, nat_tests) in rw aligned refl

  module _ (aligned : at % 4 ≡ 0) where
    pub entry-cut : length chunk.whole < at + least_entry → rows_of_entry_at chunk index at ≡ Err (faults.Entry (chunk.place + at))
    unfolding rows_of_entry_at
    entry-cut cut = let fields : nat_lt (length chunk.whole) (at + least_entry) ≡ true = grind (arith, nat_tests) in rw (aligned, fields) refl

    module _ (fields : at + least_entry ≤ length chunk.whole) where
      has_fields : nat_lt (length chunk.whole) (at + least_entry) ≡ false
      has_fields = grind (arith, nat_tests)

      pub entry-small : number 2 chunk.whole at < least_entry_size (is_complex chunk at) → rows_of_entry_at chunk index at ≡ Err (faults.Entry (chunk.place + at))
      unfolding rows_of_entry_at
      entry-small small =
          let size : nat_lt (number 2 chunk.whole at) (least_entry_size (is_complex chunk at)) ≡ true = grind (arith, nat_tests) in
          rw (aligned, has_fields, size) refl

      pub entry-long : least_entry_size (is_complex chunk at) ≤ number 2 chunk.whole at → length chunk.whole < at + number 2 chunk.whole at
          → rows_of_entry_at chunk index at ≡ Err (faults.Entry (chunk.place + at))
      unfolding rows_of_entry_at
      entry-long least long =
          let size : nat_lt (number 2 chunk.whole at) (least_entry_size (is_complex chunk at)) ≡ false = grind (arith, nat_tests) in
          let fits : nat_lt (length chunk.whole) (at + number 2 chunk.whole at) ≡ true = grind (arith, nat_tests) in
          rw (aligned, has_fields, size, fits) refl

-- ---- bags

module _ (chunk : TypeChunkOf) (at behind : ℕ) (is : IsOk (bag_of_entry chunk at behind)) where
  abbrev count : ℕ
  count = number 4 chunk.whole (at + 12)

  abbrev bytes : List ℕ
  bytes = drop behind chunk.whole

  -- rows that were read have no fault
  by_rows : (read : Result (List (ResId × Value)) MapRowsFault) → IsOk (bag_of_rows chunk at behind read) → IsOk read
  by_rows (Ok rows) is = refl
  by_rows (Err Short) is = absurd cc
  by_rows (Err (ValueSize row)) is = absurd cc

  by_search : (found : Option ℕ) → IsOk (unless_wrong count bytes found) → unless_wrong count bytes found ≡ Ok (map_rows_at count bytes)
  by_search None is = refl
  by_search (Some row) is = absurd cc

  rows-read : IsOk (map_rows_in count bytes)
  unfolding bag_of_entry
  rows-read = by_rows (map_rows_in count bytes) is

  by_size : (short : Bool) (others : Result (List (ResId × Value)) MapRowsFault) → IsOk (if short then Err Short else others) → (short ≡ false) × IsOk others
  by_size true others is = absurd cc
  by_size false others is = (refl, is)

  parts : (nat_lt (length bytes) (12 * count) ≡ false) × IsOk (unless_wrong count bytes (find (has_wrong_size bytes) (range_with_len 0 count)))
  unfolding map_rows_in
  parts = by_size (nat_lt (length bytes) (12 * count)) (unless_wrong count bytes (find (has_wrong_size bytes) (range_with_len 0 count))) rows-read

  pub bag-fits : 12 * count ≤ length bytes
  bag-fits = grind (arith, nat_tests, parts.0)

  read-all : map_rows_in count bytes ≡ Ok (map_rows_at count bytes)
  unfolding map_rows_in
  read-all = rw (parts.0) (by_search (find (has_wrong_size bytes) (range_with_len 0 count)) parts.1)

  pub bag-rows : bag_of_entry chunk at behind ≡ Ok (BagOf (record { 0 = number 4 chunk.whole (at + 8) }) (map_rows_at count bytes))
  unfolding bag_of_entry
  bag-rows = rw read-all refl

pub ruleset bag_steps = (bag-fits, bag-rows)

-- ---- a bag whose rows are read

behind_all : (bytes : List ℕ) (behind : ℕ) → take (length bytes - behind) (drop behind bytes) ≡ drop behind bytes
behind_all bytes behind = take_all (length bytes - behind) (drop behind bytes) (omega (arith, length-drop behind bytes))

pub bag-read : (chunk : TypeChunkOf) (at behind count : ℕ) (rows : Result (List (ResId × Value)) MapRowsFault) → count ≡ number 4 chunk.whole (at + 12)
    → rows ≡ map_rows_in count (take (length chunk.whole - behind) (drop behind chunk.whole)) → bag_of_entry chunk at behind ≡ bag_of_rows chunk at behind rows
unfolding bag_of_entry
bag-read chunk at behind count rows counted read =
    ap (λ (n : ℕ). bag_of_rows chunk at behind (map_rows_in n (drop behind chunk.whole))) (sym counted)
    ∙ ap (λ (bytes : List ℕ). bag_of_rows chunk at behind (map_rows_in count bytes)) (sym (behind_all chunk.whole behind))
    ∙ ap (bag_of_rows chunk at behind) (sym read)
