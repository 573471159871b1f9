use Rattle.std.proofs.Common.{◌≡◌, inl, inr, List, length, get_or, refl, ap, ◌∙◌, arith}
use Rattle.std.proofs.lemmas.Bool.{cases_eq}
use Rattle.config_box.specs.config_record.declared.coord.Coord.{Coord}
use Rattle.config_box.specs.config_record.declared.coord.Coord.TheVariants as coords
use Rattle.config_box.specs.config_record.Coord.{place_of}
use Rattle.config_box.specs.box_answers.NumberSet.{SetOf}
use Rattle.config_box.proofs.ReadSteps.{place-at}
use Rattle.config_box.proofs.box_answers.Coords.{all_coords-count, place_of-below}
use Rattle.config_box.proofs.RangeSteps.{none-of-them-join}
use Rattle.config_box.specs.Least.{DifferByRanges, DifferByChoices}
use Rattle.config_box.specs.Ranges.{AreJoinedRanges}
use Rattle.config_box.specs.OneChoice.{IsOneChoice}
use Rattle.config_box.proofs.AlongSteps.{along-before, along-there, along-after}
use Rattle.config_box.proofs.CountSteps.{keep-devices}
use Rattle.config_box.proofs.joined_boxes.joined_along.Goals as goal

pub returns-clause-devices : goal.returns-clause-devices
returns-clause-devices c = keep-devices _ _ c.loop-at.invariant.counts

pub loop-at-preserved : goal.loop-at-preserved
loop-at-preserved c =
    let boxes : List (List SetOf) = c.args.boxes.items in
    let old : List (List SetOf) = c.loop-at.joined.items in
    let new : List (List SetOf) = c.in_ok-joined.joined.items in
    let at : Coord = get_or c.args.coords.now c.loop-at.at-index coords.Mcc in
    let here : place_of at ≡ c.loop-at.at-index = place-at c.loop-at.at-index at coords.Mcc c.args.coords.now c.requires refl c.loop-at-test.true in
    let so_far = c.loop-at.invariant in record {
      counts = λ d. c.in_ok-joined.ensures.counts d ∙ so_far.counts d;
      no_more = omega (arith, c.in_ok-joined.ensures.no_more, so_far.no_more);
      some = λ q. c.in_ok-joined.ensures.some (so_far.some q);
      kinds = λ sets h. c.in_ok-joined.ensures.kinds sets (so_far.kinds sets h);
      before = λ k differ le. along-before k at boxes old new differ (so_far.before k differ (omega arith)) (omega arith) c.in_ok-joined.ensures.stay;
      ranges = λ k differ lt. elim (cases_eq (place_of k) (place_of at)) [
        | inl same ↦ along-there DifferByRanges AreJoinedRanges k at boxes old new differ (so_far.before k differ.differ (omega arith)) same c.in_ok-joined.ensures.ranges
        | inr other ↦
            (let joined = so_far.ranges k differ (omega arith) in
            along-after DifferByRanges AreJoinedRanges k at boxes old new differ.differ joined joined.alike (omega arith) c.in_ok-joined.ensures.stay)
      ];
      choices = λ k differ lt. elim (cases_eq (place_of k) (place_of at)) [
        | inl same ↦ along-there DifferByChoices IsOneChoice k at boxes old new differ (so_far.before k differ.differ (omega arith)) same c.in_ok-joined.ensures.choices
        | inr other ↦
            (let chosen = so_far.choices k differ (omega arith) in
            along-after DifferByChoices IsOneChoice k at boxes old new differ.differ chosen chosen.alike (omega arith) c.in_ok-joined.ensures.stay)
      ];
    }

pub returns-clause-least : goal.returns-clause-least
returns-clause-least c =
    let past = c.loop-at-test.false in
    let count = ap (λ (cs : List Coord). length cs) c.requires in record {
      ranges = λ k differ. none-of-them-join k c.args.boxes.items c.loop-at.joined.items (c.loop-at.invariant.ranges k differ (omega (arith, place_of-below k, all_coords-count)));
      choices = λ k differ. let one = c.loop-at.invariant.choices k differ (omega (arith, place_of-below k, all_coords-count)) in one.one;
    }
