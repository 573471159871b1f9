use Rattle.std.proofs.Common.{◌≢◌, arith}
use Rattle.config_record.specs.declared.coord.Coord.TheVariants as coords
use Rattle.config_record.proofs.DeviceLemmas.{greatest-fits}
use Rattle.config_record.proofs.device.Device.get.Goals as goal

pub overflow_cast-result : goal.overflow_cast-result
overflow_cast-result c =
    let other : c.args.coord ≢ coords.Locale = c.in_default.not-Locale in
    let within = c.compared_number.ensures.within other in
    let least = greatest-fits c.args.coord in
    omega arith
