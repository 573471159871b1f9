use Rattle.std.proofs.Common.{rules, ◌≡◌, ◌<◌, ◌^◌, length, arith}
use Rattle.config_record.specs.declared.coord.Coord.TheVariants as coords
use Rattle.config_record.specs.Coord.{number_at}
use Rattle.notation.proofs.JsonBack.{device_json-back}
use Rattle.notation.proofs.json_text.write_known.Goals as goal

pub returns-clause-reads_back : goal.returns-clause-reads_back
returns-clause-reads_back g c =
    let device = c.args.device in
    let count : length device.numbers ≡ 25 = search rules in
    let fits : number_at device.numbers coords.Locale < 2 ^ 64 = omega (arith, c.compared_number.ensures.value) in
    device_json-back _ device.numbers (record { count = count; of_locale = fits; in_range = device.in_range; with_density = device.with_density }) device.with_locale
