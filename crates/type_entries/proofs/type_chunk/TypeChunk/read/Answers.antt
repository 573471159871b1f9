use Rattle.std.proofs.Common.{◌≡◌, Option, Err, sym, ap, ◌∙◌, arith, drop}
use Rattle.std.proofs.lemmas.List.{take_rest}
use Rattle.std.specs.Option.{option_map}
use Rattle.string_pool.specs.chunk_walk.Chunk.{chunk_of}
use Rattle.config_record.specs.Record.{record_in, seen}
use Rattle.type_entries.specs.declared.type_spec.TypeSpec.{TypeSpec}
use Rattle.type_entries.specs.TypeSpec.{type_spec_of}
use Rattle.type_entries.proofs.TypeSteps.{header-short, id-zero, spec-none, config-wrong, offsets-short, type-read}
use Rattle.type_entries.proofs.type_chunk.TypeChunk.read.Goals as goal

pub returns-then-chunk-lt-LEAST_SIZE-clause-value : goal.returns-then-chunk-lt-LEAST_SIZE-clause-value
returns-then-chunk-lt-LEAST_SIZE-clause-value c = sym (header-short _ _ (chunk_of c.args.chunk.now) c.if-chunk-lt-LEAST_SIZE.true)

pub returns-then-id-eq0-clause-value : goal.returns-then-id-eq0-clause-value
returns-then-id-eq0-clause-value c = sym (id-zero _ _ (chunk_of c.args.chunk.now) c.if-chunk-lt-LEAST_SIZE.false c.if-id-eq0.true)

pub returns-in_default-clause-value : goal.returns-in_default-clause-value
returns-in_default-clause-value c =
    let none = ap (λ (o : Option TypeSpec). option_map type_spec_of o) c.in_default.is in
    sym (spec-none _ _ (chunk_of c.args.chunk.now) c.if-chunk-lt-LEAST_SIZE.false c.if-id-eq0.false none)

pub returns-in_default-read-clause-value : goal.returns-in_default-read-clause-value
returns-in_default-read-clause-value c =
    let header = c.args.chunk.now.header.now in
    let known = ap (λ (o : Option TypeSpec). option_map type_spec_of o) c.in-Some.is in
    let wrong : record_in (drop 20 header) ≡ Err c.in_default-read.field-0 = ap record_in (sym (take_rest header 20)) ∙ sym c.read.ensures ∙ ap seen c.in_default-read.is in
    sym (config-wrong _ _ (chunk_of c.args.chunk.now) c.if-chunk-lt-LEAST_SIZE.false c.if-id-eq0.false _ known _ wrong)

pub returns-then-chunk-offset_count-clause-value : goal.returns-then-chunk-offset_count-clause-value
returns-then-chunk-offset_count-clause-value c =
    let known = ap (λ (o : Option TypeSpec). option_map type_spec_of o) c.in-Some.is in
    let right = ap record_in (sym (take_rest c.args.chunk.now.header.now 20)) ∙ sym c.in-Ok.ensures in
    let short = rw c.u32_within-offset_count.ensures at c.if-chunk-offset_count.true in
    sym (offsets-short _ _ (chunk_of c.args.chunk.now) c.if-chunk-lt-LEAST_SIZE.false c.if-id-eq0.false _ known _ right short)

pub invariant_of-result : goal.invariant_of-result
invariant_of-result c = record { in_range = c.args.chunk.now.in_range; small = c.args.chunk.now.small; few = omega arith; offsets_fit = c.if-chunk-offset_count.false }

pub returns-clause-value : goal.returns-clause-value
returns-clause-value c =
    let known = ap (λ (o : Option TypeSpec). option_map type_spec_of o) c.in-Some.is in
    let right = ap record_in (sym (take_rest c.args.chunk.now.header.now 20)) ∙ sym c.in-Ok.ensures in
    let fit = rw c.u32_within-offset_count.ensures at c.if-chunk-offset_count.false in
    rw (c.is_sparse.ensures, c.from_bits_retain-flags.ensures, c.u32_within-offset_count.ensures, c.u32_within.ensures)
    (sym (type-read _ _ (chunk_of c.args.chunk.now) c.if-chunk-lt-LEAST_SIZE.false c.if-id-eq0.false _ known _ right fit))
