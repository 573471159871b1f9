use Rattle.std.proofs.lemmas.Result.{err_from_is_err_and}
use Rattle.config_record.specs.Coord.{all_coords}
use Rattle.config_record.specs.Device.{device_with}
use Rattle.config_record.proofs.DeviceLemmas.{device-within, device-with_density, device-with_locale}
use Rattle.config_record.proofs.device.Device.with.Goals as goal

pub invariant_of-result : goal.invariant_of-result
unfolding all_coords
invariant_of-result c = record {
  in_range = device-within _ _ _ c.in_ok-fill_numbers.ensures;
  with_density = device-with_density _ _ _ c.in_ok-fill_numbers.ensures;
  with_locale = device-with_locale _ _ _ c.in_ok-fill_numbers.ensures (c.locale_number_in.ensures.given c.requires);
}

pub returns-in_err-fill_numbers : goal.returns-in_err-fill_numbers
unfolding device_with all_coords
returns-in_err-fill_numbers c =
    let p = err_from_is_err_and c.from_residual.result c.from_residual.ensures.1 in
    rw (p.1, p.2, ← c.locale_number_in.ensures.value) c.in_err-fill_numbers.ensures
