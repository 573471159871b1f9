-- Where all that differs is told, what is not told is the same.
use Rattle.std.proofs.Common.{◌≡◌, ◌≢◌, ℕ, List, Option, Some, None, refl, sym, ◌∙◌}
use Rattle.std.specs.List.{All}
use Rattle.cert_maker.specs.box_answers.NumberSet.{SetOf}
use Rattle.cert_maker.specs.box_answers.Members.{IsMember}
use Rattle.config_box.specs.Devices.{HasOnce}
use Rattle.config_box.proofs.CountSteps.{none-count, once-count}
use Rattle.stack_diff.specs.Difference.{DifferenceOf}
use Rattle.stack_diff.specs.Changes.{ChangeOf, IsReal, AreChanges, boxes_in}

unless-some : (found : Option DifferenceOf) → (found ≢ None → ⊥) → found ≡ None
unless-some None not = refl
unless-some (Some difference) not = absurd (not (λ e. cc))

pub are-changes : (differs : List ℕ → Option DifferenceOf) (sets : List SetOf) (changes : List ChangeOf) → All (IsReal differs sets) changes
    → ((d : List ℕ) → IsMember sets d → differs d ≢ None → HasOnce d (boxes_in changes)) → AreChanges differs sets changes
are-changes differs sets changes real once = record {
  real = real;
  once = once;
  same = λ d member none. unless-some (differs d) (λ differ. let count = sym (none-count d (boxes_in changes) none) ∙ once-count d (boxes_in changes) (once d member differ) in cc);
}
