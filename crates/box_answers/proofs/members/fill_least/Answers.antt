use Rattle.std.proofs.Common.{rules, ◌≡◌, length, refl}
use Rattle.config_precedence.specs.config_record.Coord.{number_at}
use Rattle.box_answers.specs.NumberSet.{set_of, IsLeastIn}
use Rattle.box_answers.specs.Members.{sets_of, set_at}
use Rattle.box_answers.proofs.Coords.{every-coord}
use Rattle.box_answers.proofs.Sets.{fill-next, set_count}
use Rattle.box_answers.proofs.members.fill_least.Goals as goal

pub set_at-requires : goal.set_at-requires
set_at-requires c = set_count c.args.sets.now c.requires.sets

pub loop-coord-preserved : goal.loop-coord-preserved
loop-coord-preserved c =
    let count : length c.loop-coord.numbers ≡ 25 = search rules in
    let least : IsLeastIn (set_of c.set_at.result.now) c.least.result = c.least.ensures in
    rw c.place.ensures.value
    (fill-next (sets_of c.args.sets.now) c.loop-coord.numbers c.loop-coord.coord-index _ c.args.coords.now _ c.least.result
    c.requires.coords refl c.loop-coord-test.true count (rw c.set_at.ensures at least) c.loop-coord.invariant)

pub returns : goal.returns
returns c =
    every-coord (λ k. IsLeastIn (set_at (sets_of c.args.sets.now) k) (number_at c.loop-coord.numbers k)) c.loop-coord.coord-index c.args.coords.now
    c.requires.coords c.loop-coord-test.false c.loop-coord.invariant
