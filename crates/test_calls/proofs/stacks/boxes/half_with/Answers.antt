use Rattle.bags_themes.specs.config_match.Matching.{is_match}
use Rattle.std.proofs.Common.{true, slice_index_or}
use Rattle.test_calls.proofs.stacks.boxes.half_with.Goals as goal

-- What is marked matches all members of the box, and so those of its half.
pub half-found-requires : goal.half-found-requires
half-found-requires c = λ k d within marked device inside.
    let keeps = rw c.in-Halves.is at c.in_ok-german.ensures.answers in
    let candidate = (slice_index_or c.in_ok-whole.whole k d).candidate in
    keeps.0 (is_match candidate.row.config) true ((c.in_ok-whole.ensures.each k d within).mark.0 marked) device inside
