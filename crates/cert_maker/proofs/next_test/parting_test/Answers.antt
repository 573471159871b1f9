use Rattle.std.proofs.Common.{◌≡◌, true, sym, ap, arith}
use Rattle.cert_checker.specs.config_record.DeviceSeen.{device_numbers}
use Rattle.cert_checker.specs.box_answers.Members.{set_at}
use Rattle.cert_checker.proofs.config_record.DeviceLemmas.{greatest-fits}
use Rattle.cert_checker.specs.box_trace.Parting.{answer_of}
use Rattle.cert_checker.specs.config_box.Tests.{is_range}
use Rattle.cert_maker.specs.Listed.{answer_with, answer_in}
use Rattle.cert_maker.proofs.Cut.{cut-range}
use Rattle.cert_maker.proofs.Listings.{needed-numbers, needed-locales, can-locales, numbers-fit, locales-fit, not-locale, right-range}
use Rattle.cert_maker.proofs.next_test.parting_test.Goals as goal

pub listed_locales-requires : goal.listed_locales-requires
listed_locales-requires c = can-locales c.args.members.now c.args.parting.now.pair.coord c.in-Locales.locales.now c.in-Locales.ensures.sets c.in-Locales.ensures.value

-- the number of a device is small where it is no locale's
pub overflow_cast-result : goal.overflow_cast-result
overflow_cast-result c =
    let at = c.args.parting.now.pair.coord in
    let range : is_range (set_at c.args.members.now at) ≡ true = ap is_range (sym c.in-Range.ensures.value) in
    let other = not-locale c.args.members.now at (c.in-Range.ensures.sets.each at).kind range in
    omega (arith, c.compared_number-first.ensures.within other, greatest-fits at, c.min-lesser.ensures)

pub returns-in-Range-clause-needed : goal.returns-in-Range-clause-needed
returns-in-Range-clause-needed c =
    let at = c.args.parting.now.pair.coord in
    let range : is_range (set_at c.args.members.now at) ≡ true = ap is_range (sym c.in-Range.ensures.value) in
    cut-range (answer_of c.args.parting.now) c.args.members.now (device_numbers c.args.parting.now.pair.yes) (device_numbers c.args.parting.now.pair.no) at c.min-lesser.result c.requires range
    (right-range c.args.members.now at c.min-lesser.result (c.in-Range.ensures.sets.each at).kind range) (cc)

pub returns-in_ok-listed-in-Numbers-clause-needed : goal.returns-in_ok-listed-in-Numbers-clause-needed
returns-in_ok-listed-in-Numbers-clause-needed c =
    needed-numbers c.args.parting.now c.args.members.now (device_numbers c.args.parting.now.pair.yes) (device_numbers c.args.parting.now.pair.no) c.args.parting.now.pair.coord c.in-Numbers.numbers.now
    c.in_ok-listed-in-Numbers.listed.items c.requires c.in-Numbers.ensures.sets c.in-Numbers.ensures.value c.in_ok-listed-in-Numbers.ensures

pub returns-in_ok-listed-in-Locales-clause-needed : goal.returns-in_ok-listed-in-Locales-clause-needed
returns-in_ok-listed-in-Locales-clause-needed c =
    needed-locales c.args.parting.now c.args.members.now (device_numbers c.args.parting.now.pair.yes) (device_numbers c.args.parting.now.pair.no) c.args.parting.now.pair.coord c.in-Locales.locales.now
    c.in_ok-listed-in-Locales.listed.items c.requires c.in-Locales.ensures.sets c.in-Locales.ensures.value c.in_ok-listed-in-Locales.ensures.listed

pub returns-in_ok-listed-in-Numbers-clause-fits : goal.returns-in_ok-listed-in-Numbers-clause-fits
returns-in_ok-listed-in-Numbers-clause-fits c =
    numbers-fit c.args.members.now c.args.parting.now.pair.coord (answer_with (answer_of c.args.parting.now) (device_numbers c.args.parting.now.pair.yes) c.args.parting.now.pair.coord) c.in-Numbers.numbers.now c.in_ok-listed-in-Numbers.listed.items
    c.in-Numbers.ensures.sets c.in-Numbers.ensures.value c.in_ok-listed-in-Numbers.ensures

pub returns-in_ok-listed-in-Locales-clause-fits : goal.returns-in_ok-listed-in-Locales-clause-fits
returns-in_ok-listed-in-Locales-clause-fits c =
    locales-fit c.args.members.now (device_numbers c.args.parting.now.pair.yes) c.args.parting.now.pair.coord (answer_in (answer_of c.args.parting.now) (device_numbers c.args.parting.now.pair.yes)) c.in-Locales.locales.now c.in_ok-listed-in-Locales.listed.items
    c.in-Locales.ensures.sets c.requires.parts.yes.member c.in-Locales.ensures.value c.in_ok-listed-in-Locales.ensures.listed c.in_ok-listed-in-Locales.ensures.back
