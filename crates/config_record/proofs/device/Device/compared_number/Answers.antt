use Rattle.std.proofs.Common.{rules, ◌≡◌, ◌∙◌, ap, slice_index_or, slice_index}
use Rattle.config_record.specs.declared.coord.Coord.TheVariants as coords
use Rattle.config_record.specs.Coord.{place_of, number_at}
use Rattle.locales.proofs.GivenLemmas.{no_language}
use Rattle.config_record.proofs.device.Device.compared_number.Goals as goal

pub returns-clause-with_language : goal.returns-clause-with_language
unfolding place_of
returns-clause-with_language c = λ is low.
    let at : c.place.result ≡ 2 = c.place.ensures.value ∙ ap place_of is in
    let same : slice_index_or c.args.self.now.numbers c.place.result 0 ≡ slice_index c.args.self.now.numbers 2 = rw at (search rules) in
    rw same (no_language (number_at c.args.self.now.numbers coords.Locale) c.args.self.now.with_locale (rw same at low))
