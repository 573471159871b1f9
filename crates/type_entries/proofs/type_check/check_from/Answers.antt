use Rattle.std.proofs.Common.{◌∙◌, arith}
use Rattle.std.proofs.lemmas.Result.{err_from_is_err_and}
use Rattle.type_entries.specs.TypeChunk.{type_chunk_of}
use Rattle.type_entries.proofs.EntriesSteps.{AreRead-empty, AreRead-next, rows_of_entries-stops}
use Rattle.type_entries.proofs.type_check.check_from.Goals as goal

pub loop-position-preserved : goal.loop-position-preserved
loop-position-preserved c =
    let so_far = c.loop-position.invariant in
    let found = c.in-Some.ensures.found in
    record {
      behind = omega (arith, so_far.behind, found.0);
      bags = c.check_entry.ensures.same ∙ so_far.bags;
      read = AreRead-next (type_chunk_of c.args.chunk.now) c.loop-position.behind c.in-Some.position so_far.read found.2 c.in_ok-check_entry.ensures.checked;
    }

pub returns-in_err-check_entry-clause-fault : goal.returns-in_err-check_entry-clause-fault
returns-in_err-check_entry-clause-fault c =
    let p = err_from_is_err_and c.from_residual.result c.from_residual.ensures.1 in
    let found = c.in-Some.ensures.found in
    rw (p.1, p.2) (rows_of_entries-stops (type_chunk_of c.args.chunk.now) c.loop-position.behind c.in-Some.position _ c.requires.rise c.loop-position.invariant.read found.2 found.1 c.in_err-check_entry.ensures.checked)

pub returns-clause-read : goal.returns-clause-read
returns-clause-read c = AreRead-empty (type_chunk_of c.args.chunk.now) c.loop-position.behind c.args.chunk.now.offset_count c.loop-position.invariant.read c.in_default.ensures.none

pub returns-then-need_counts-clause-read : goal.returns-then-need_counts-clause-read
returns-then-need_counts-clause-read c =
    AreRead-next (type_chunk_of c.args.chunk.now) c.loop-position.behind c.in-Some.position c.loop-position.invariant.read c.in-Some.ensures.found.2 c.in_ok-check_entry.ensures.checked
