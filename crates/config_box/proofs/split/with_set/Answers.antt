use Rattle.std.proofs.Common.{ℕ, List, set, ap, ◌∙◌}
use Rattle.std.proofs.lemmas.List.{map-set}
use Rattle.box_answers.specs.NumberSet.{SetOf, set_of}
use Rattle.box_answers.specs.Members.{sets_of}
use Rattle.config_box.proofs.split.with_set.Goals as goal

pub returns : goal.returns
returns c =
    map-set set_of c.in_ok-copy.copy.items c.place.result c.args.set
    ∙ ap (λ (l : List SetOf). set l c.place.result (set_of c.args.set)) c.in_ok-copy.ensures
    ∙ ap (λ (i : ℕ). set (sets_of c.args.sets.now) i (set_of c.args.set)) c.place.ensures.value
