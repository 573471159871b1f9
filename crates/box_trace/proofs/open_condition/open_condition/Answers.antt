use Rattle.box_trace.proofs.BoxValues.{can-have-range, can-have-locales}
use Rattle.box_trace.proofs.open_condition.open_condition.Goals as goal

pub open_in_range-requires : goal.open_in_range-requires
open_in_range-requires c =
    rw (c.from.ensures, c.from-in-Range.ensures) (can-have-range c.args.members.now c.args.at c.in-Range.low c.in-Range.high c.in-Range.ensures.sets c.in-Range.ensures.value)

pub open_among_locales-requires : goal.open_among_locales-requires
open_among_locales-requires c = can-have-locales c.args.members.now c.args.at c.in-Locales.locales.now c.in-Locales.ensures.sets c.in-Locales.ensures.value
