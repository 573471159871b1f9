use Rattle.std.proofs.Common.{sym, ap, subst, ◌∙◌}
use Rattle.box_answers.specs.Members.{sets_of, IsBox}
use Rattle.config_box.proofs.config_box.ConfigBox.shared.Goals as goal

pub returns-clause-sets : goal.returns-clause-sets
returns-clause-sets c = subst IsBox (sym (c.in_ok-shared_sets.ensures ∙ ap sets_of c.as_slice.ensures.value)) c.self.invariant
