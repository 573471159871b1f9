use Rattle.std.proofs.Common.{rules, ◌≡◌, length}
use Rattle.config_record.proofs.ChangedNumber.{changed-in_range, changed-with_density, changed-with_locale, number_at-set_same, number_at-set_other}
use Rattle.config_record.proofs.device.Device.changed.Goals as goal

pub returns : goal.returns
returns c =
    let count : length c.args.self.now.numbers ≡ 25 = search rules in
    rw c.place.ensures.value (record {
      same = number_at-set_same _ _ _ count;
      others = λ k other. number_at-set_other _ _ _ _ other;
    })

pub invariant_of-result : goal.invariant_of-result
invariant_of-result c =
    let count : length c.args.self.now.numbers ≡ 25 = search rules in
    rw c.place.ensures.value (record {
      in_range = changed-in_range _ _ _ count c.requires c.args.self.now.in_range;
      with_density = changed-with_density _ _ _ count c.requires c.args.self.now.with_density;
      with_locale = changed-with_locale _ _ _ count c.requires c.args.self.now.with_locale;
    })
