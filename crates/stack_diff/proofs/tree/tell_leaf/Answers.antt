use Rattle.std.proofs.Common.{Option, Some, inl, inr, refl, sym, ap, ◌∙◌}
use Rattle.std.specs.Option.{option_map}
use Rattle.cert_maker.specs.cert_checker.config_record.DeviceSeen.{device_numbers}
use Rattle.stack_diff.specs.declared.difference.Difference.{Difference}
use Rattle.stack_diff.specs.DifferenceSeen.{difference_of}
use Rattle.stack_diff.proofs.Leaves.{differ-at-ends}
use Rattle.stack_diff.proofs.tree.tell_leaf.Goals as goal

pub returns-in_default : goal.returns-in_default
returns-in_default c =
    let e = device_numbers c.corner-device.result in
    inl (
      refl,
      λ d m. differ-at-ends c.args.pair c.args.members.now c.args.before c.args.after d e c.requires.one c.requires.ends m (λ k. (c.corner-device.ensures k).is_in) ∙ sym c.in_ok-found.ensures
          ∙ ap (λ (found : Option Difference). option_map difference_of found) c.in_default.is,
    )

pub returns-in_ok-push : goal.returns-in_ok-push
returns-in_ok-push c =
    let e = device_numbers c.corner-device.result in
    inr (
      record { difference = c.in_ok-difference.difference; members = c.in_ok-members.members },
      c.in_ok-push.ensures.items,
      record {
        members = c.in_ok-members.ensures.value;
        so = λ d m. differ-at-ends c.args.pair c.args.members.now c.args.before c.args.after d e c.requires.one c.requires.ends m (λ k. (c.corner-device.ensures k).is_in) ∙ sym c.in_ok-found.ensures
            ∙ ap (λ (found : Option Difference). option_map difference_of found) c.in-Some.is
            ∙ ap (λ (difference : Difference). Some (difference_of difference)) (sym c.in_ok-difference.ensures.ok);
      },
    )
