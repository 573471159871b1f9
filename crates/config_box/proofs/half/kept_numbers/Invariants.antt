use Rattle.std.proofs.Common.{◌≡◌, filter, take}
use Rattle.config_box.specs.Tests.{test_of}
use Rattle.config_box.specs.HalfSets.{gives}
use Rattle.config_box.proofs.half.kept_numbers.Given as goal

abbrev pub invariant-loop-number : goal.invariant-loop-number
invariant-loop-number l = l.kept.items ≡ filter (λ n. gives (test_of l.test) l.answer n) (take l.number-index l.numbers)
