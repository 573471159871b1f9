use Rattle.config_record.specs.declared.coord.Coord.TheVariants as coords
use Rattle.config_record.proofs.DeviceLemmas.{inside-some}
use Rattle.config_record.proofs.ChangedNumber.{can_have-within}
use Rattle.config_record.proofs.device.Device.of_numbers.Goals as goal

pub invariant_of-result : goal.invariant_of-result
invariant_of-result c = record {
  in_range = λ k other. can_have-within k _ (c.requires k) other;
  with_density = inside-some _ (c.requires coords.Density);
  with_locale = c.requires coords.Locale;
}
