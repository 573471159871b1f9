use Rattle.std.proofs.Common.{◌≡◌, ℕ, ◌<◌, ◌^◌, ap, ◌∙◌, length, subst}
use Rattle.std.proofs.lemmas.List.Elements.{Contains-get_or}
use Rattle.config_box.specs.Choices.{rising}
use Rattle.config_box.proofs.ChoiceSteps.{each-by_index, rising-each}
use Rattle.config_box.proofs.read.numbers_set.Goals as goal

pub narrowed-requires : goal.narrowed-requires
narrowed-requires c = λ k q.
    let numbers = c.args.numbers.now in
    let same : c.as_slice.result.now ≡ rising numbers = c.as_slice.ensures.value ∙ c.in_ok-chosen.ensures.value in
    let on : k < length (rising numbers) = rw same at q in
    rw same (rising-each (λ (n : ℕ). n < 2 ^ 32) numbers (each-by_index (λ (n : ℕ). n < 2 ^ 32) numbers c.requires) _ (Contains-get_or (rising numbers) k 0 on))
