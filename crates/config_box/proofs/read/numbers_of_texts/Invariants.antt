use Rattle.std.proofs.Common.{◌≡◌, ◌<◌, ℕ, map, take, length, get_or}
use Rattle.config_box.specs.BoxJson.{number_of_text}
use Rattle.config_box.specs.ByRule.{IsOfRule}
use Rattle.config_box.proofs.read.numbers_of_texts.Given as goal

abbrev pub invariant-loop-text : goal.invariant-loop-text
invariant-loop-text l = record {
  same : l.numbers.items ≡ map (number_of_text l.rule) (map (λ text. text.now) (take l.text-index l.texts));
  of_rule : (k : ℕ) → k < length l.numbers.items → IsOfRule l.rule (get_or l.numbers.items k 0);
}
