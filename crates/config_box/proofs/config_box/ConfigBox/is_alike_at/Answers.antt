use Rattle.std.proofs.Common.{◌≡◌, ◌≢◌, MatchBool, List, ap, subst, ◌∙◌}
use Rattle.box_answers.specs.NumberSet.{SetOf, set_of}
use Rattle.box_answers.specs.Members.{sets_of, set_at}
use Rattle.config_box.proofs.Lent.{lent-count}
use Rattle.config_box.proofs.config_box.ConfigBox.is_alike_at.Goals as goal

pub returns : goal.returns
returns c =
    let first : set_of c.set_at.result.now ≡ set_at c.args.self.now c.args.at = c.set_at.ensures ∙ ap (λ (b : List SetOf). set_at b c.args.at) (ap sets_of c.as_slice.ensures.value ∙ c.self.view_is) in
    let second : set_of c.set_at-2.result.now ≡ set_at c.args.other.now c.args.at = c.set_at-2.ensures ∙ ap (λ (b : List SetOf). set_at b c.args.at) (ap sets_of c.as_slice-2.ensures.value ∙ c.other.view_is) in
    subst (λ (s : SetOf). MatchBool c.is_same.result (s ≡ set_at c.args.other.now c.args.at) (s ≢ set_at c.args.other.now c.args.at)) first
    (subst (λ (s : SetOf). MatchBool c.is_same.result (set_of c.set_at.result.now ≡ s) (set_of c.set_at.result.now ≢ s)) second c.is_same.ensures)

pub set_at-requires : goal.set_at-requires
set_at-requires c = lent-count c.as_slice.result.now c.self.inside.sets.items c.as_slice.ensures.value c.self.invariant

pub set_at-requires-2 : goal.set_at-requires-2
set_at-requires-2 c = lent-count c.as_slice-2.result.now c.other.inside.sets.items c.as_slice-2.ensures.value c.other.invariant
