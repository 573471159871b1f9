use Rattle.std.proofs.Common.{Bool, ◌≤◌, ◌≡◌, ℕ, ◌+◌, ◌%◌, true, false, Result, sym, ap, subst, ◌∙◌, arith}
use Rattle.type_entries.specs.Layout.{least_bag, least_entry_size}
use Rattle.string_pool.specs.chunk_walk.Number.{number}
use Rattle.res_value.specs.Cell.{CellOf}
use Rattle.type_entries.specs.declared.fault.TableFault.{TableFault}
use Rattle.type_entries.specs.Checks.{Checks}
use Rattle.type_entries.specs.TypeChunk.{type_chunk_of}
use Rattle.type_entries.specs.Entry.{is_complex, bag_of_entry, value_of_entry}
use Rattle.type_entries.proofs.EntrySteps.{held-bag, held-value, rows-checked, entry-unaligned, entry-cut, entry-small, entry-long}
use Rattle.type_entries.proofs.type_chunk.TypeChunk.check_entry_at.Goals as goal
use Rattle.type_entries.proofs.type_chunk.TypeChunk.check_entry_at.Goals.{then-at-ne0-via-then-at-ne0, then-at-ne0-via-else-at-ne0+then-whole-at, then-size-least_entry_size-via-then-size-least_entry_size, then-size-least_entry_size-via-else-size-least_entry_size+then-whole-at-2}

bag_header : (at size least : ℕ) (complex : Bool) → least ≤ size → least ≡ least_entry_size complex → complex ≡ true → at + least_bag ≤ at + size
bag_header at size least complex fits is so = let same : least ≡ least_bag = is ∙ ap least_entry_size so in omega (arith, same, fits)

pub returns-then-is_complex-clause-checked : goal.returns-then-is_complex-clause-checked
returns-then-is_complex-clause-checked c =
    let chunk = type_chunk_of c.args.self.now in
    let complex : is_complex chunk c.args.at ≡ true = rw (← c.u16_within.ensures, ← c.from_bits_retain-flags.ensures) (sym c.if-is_complex.ensures) in
    let here : c.args.at + 0 ≡ c.args.at = omega arith in
    let size : c.u16_within-size.result ≡ number 2 chunk.whole c.args.at = c.u16_within-size.ensures ∙ ap (λ (n : ℕ). number 2 chunk.whole n) here in
    let held = held-bag chunk c.args.at complex ∙ ap (λ (n : ℕ). bag_of_entry chunk c.args.at (c.args.at + n)) (sym size) in
    let least = rw (c.least_entry_size.ensures, c.is_complex-is_complex.ensures, c.from_bits_retain-flags.ensures, c.u16_within.ensures, size) at c.if-size-least_entry_size.false in
    rows-checked chunk c.args.index c.args.at c.check_bag.result (omega (arith, c.if-at-ne0.false)) (omega (arith, c.if-whole-at.false)) least (omega (arith, c.if-whole-at-2.false, size))
    (subst (λ (r : Result CellOf TableFault). Checks c.check_bag.result r) (sym held) c.check_bag.ensures.checked)

pub returns-else-is_complex-clause-checked : goal.returns-else-is_complex-clause-checked
returns-else-is_complex-clause-checked c =
    let chunk = type_chunk_of c.args.self.now in
    let complex : is_complex chunk c.args.at ≡ false = rw (← c.u16_within.ensures, ← c.from_bits_retain-flags.ensures) (sym c.if-is_complex.ensures) in
    let here : c.args.at + 0 ≡ c.args.at = omega arith in
    let size : c.u16_within-size.result ≡ number 2 chunk.whole c.args.at = c.u16_within-size.ensures ∙ ap (λ (n : ℕ). number 2 chunk.whole n) here in
    let held = held-value chunk c.args.at complex ∙ ap (λ (n : ℕ). value_of_entry chunk c.args.at (c.args.at + n)) (sym size) in
    let least = rw (c.least_entry_size.ensures, c.is_complex-is_complex.ensures, c.from_bits_retain-flags.ensures, c.u16_within.ensures, size) at c.if-size-least_entry_size.false in
    rows-checked chunk c.args.index c.args.at c.check_value.result (omega (arith, c.if-at-ne0.false)) (omega (arith, c.if-whole-at.false)) least (omega (arith, c.if-whole-at-2.false, size))
    (subst (λ (r : Result CellOf TableFault). Checks c.check_value.result r) (sym held) c.check_value.ensures)

pub returns-then-at-ne0-clause-checked : goal.returns-then-at-ne0-clause-checked
returns-then-at-ne0-clause-checked c =
    let chunk = type_chunk_of c.args.self.now in
    elim c.then-at-ne0.branch [
      | then-at-ne0-via-then-at-ne0 w ↦ entry-unaligned chunk c.args.index c.args.at w.if-at-ne0.true
      | then-at-ne0-via-else-at-ne0+then-whole-at w ↦ entry-cut chunk c.args.index c.args.at (omega (arith, w.if-at-ne0.false)) w.if-whole-at.true
    ]

pub returns-then-size-least_entry_size-clause-checked : goal.returns-then-size-least_entry_size-clause-checked
returns-then-size-least_entry_size-clause-checked c =
    let chunk = type_chunk_of c.args.self.now in
    let here : c.args.at + 0 ≡ c.args.at = omega arith in
    let size : c.u16_within-size.result ≡ number 2 chunk.whole c.args.at = c.u16_within-size.ensures ∙ ap (λ (n : ℕ). number 2 chunk.whole n) here in
    let aligned : c.args.at % 4 ≡ 0 = omega (arith, c.if-at-ne0.false) in
    elim c.then-size-least_entry_size.branch [
      | then-size-least_entry_size-via-then-size-least_entry_size w ↦
          let small = rw (c.least_entry_size.ensures, c.is_complex-is_complex.ensures, c.from_bits_retain-flags.ensures, c.u16_within.ensures, size) at w.if-size-least_entry_size.true in
          entry-small chunk c.args.index c.args.at aligned c.if-whole-at.false small
      | then-size-least_entry_size-via-else-size-least_entry_size+then-whole-at-2 w ↦
          let least = rw (c.least_entry_size.ensures, c.is_complex-is_complex.ensures, c.from_bits_retain-flags.ensures, c.u16_within.ensures, size) at w.if-size-least_entry_size.false in
          entry-long chunk c.args.index c.args.at aligned c.if-whole-at.false least (rw size at w.if-whole-at-2.true)
    ]

pub check_bag-requires-clause-header : goal.check_bag-requires-clause-header
check_bag-requires-clause-header c =
    bag_header c.args.at c.u16_within-size.result c.least_entry_size.result c.is_complex-is_complex.result c.if-size-least_entry_size.false c.least_entry_size.ensures c.if-is_complex.true
