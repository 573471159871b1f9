use Rattle.std.proofs.Common.{◌≤◌, map, length}
use Rattle.config_box.specs.Written.{text_item}
use Rattle.config_box.proofs.TokenSteps.{KeptWalked}
use Rattle.config_box.proofs.written.text_items.Given as goal

abbrev pub invariant-items : goal.invariant-items
invariant-items l = record {
  read : KeptWalked text_item l.depth l.initial.tokens (map (λ text. text.now) l.texts.items) l.tokens;
  shorter : length l.tokens ≤ length l.initial.tokens;
}

abbrev pub decreases-items : goal.decreases-items
decreases-items l = length l.tokens
