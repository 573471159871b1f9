use Rattle.std.proofs.Common.{◌≤◌, length}
use Rattle.config_box.specs.Written.{number_item}
use Rattle.config_box.proofs.TokenSteps.{KeptWalked}
use Rattle.config_box.proofs.written.number_items.Given as goal

abbrev pub invariant-items : goal.invariant-items
invariant-items l = record {
  read : KeptWalked number_item l.depth l.initial.tokens l.numbers.items l.tokens;
  shorter : length l.tokens ≤ length l.initial.tokens;
}

abbrev pub decreases-items : goal.decreases-items
decreases-items l = length l.tokens
