use Rattle.std.proofs.Common.{refl}
use Rattle.box_answers.proofs.Sets.{member-changed}
use Rattle.box_answers.proofs.SearchSteps.{none_so}
use Rattle.box_answers.proofs.matching.parted_by.Goals as goal

pub returns-in-None-clause-first : goal.returns-in-None-clause-first
returns-in-None-clause-first c =
    none_so c.args.parted (
      member-changed _ _ _ c.args.at c.args.passing (λ k. (c.corner.ensures k).is_in) c.requires.passing c.changed-in-None.ensures.same c.changed-in-None.ensures.others,
      c.changed-in-None.ensures.same,
      refl,
      refl,
    )
