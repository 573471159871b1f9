-- The sets of a box that are lent.
use Rattle.std.proofs.Common.{◌≡◌, List, length, sym, ap, subst, ◌∙◌}
use Rattle.std.proofs.lemmas.List.{length-map}
use Rattle.box_answers.specs.declared.number_set.NumberSet.{NumberSet}
use Rattle.box_answers.specs.NumberSet.{set_of}
use Rattle.box_answers.specs.Members.{sets_of, IsBox}

pub box-count : (sets : List NumberSet) → IsBox (sets_of sets) → length sets ≡ 25
box-count sets box = sym (length-map sets set_of) ∙ box.count

pub lent-box : (lent sets : List NumberSet) → lent ≡ sets → IsBox (sets_of sets) → IsBox (sets_of lent)
lent-box lent sets is box = subst (λ (l : List NumberSet). IsBox (sets_of l)) (sym is) box

pub lent-count : (lent sets : List NumberSet) → lent ≡ sets → IsBox (sets_of sets) → length lent ≡ 25
lent-count lent sets is box = ap (λ (l : List NumberSet). length l) is ∙ box-count sets box
