use Rattle.std.proofs.Common.{rules}
use Rattle.config_match.specs.config_record.declared.coord.Coord.TheVariants as coords
use Rattle.config_match.specs.config_record.ComparedNumber.{device_number}
use Rattle.config_match.specs.config_record.DeviceSeen.{device_numbers}
use Rattle.config_match.specs.config_record.Record.{record_bytes}
use Rattle.config_match.proofs.config_record.locales.GivenLemmas.{no_language}
use Rattle.config_match.proofs.RegionAlone.{region_alone}
use Rattle.config_match.proofs.matching.matches.Goals as goal

pub returns-clause-region_alone : goal.returns-clause-region_alone
returns-clause-region_alone c = λ alone.
    let whole = no_language (device_number (device_numbers c.args.device.now) coords.Locale) c.args.device.now.with_locale in
    let fails = region_alone (record_bytes c.args.stored.now) (device_numbers c.args.device.now) alone whole in
    search (rules, fails)
