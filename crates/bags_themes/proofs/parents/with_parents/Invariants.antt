use Rattle.std.proofs.Common.{◌≡◌}
use Rattle.reference_resolver.specs.config_record.DeviceSeen.{device_numbers}
use Rattle.contract_words.specs.Sequences.{with_front}
use Rattle.bags_themes.specs.Bag.{chain_of}
use Rattle.bags_themes.specs.FoundBag.{found_bag_of, found_bags_of}
use Rattle.bags_themes.proofs.parents.with_parents.Given as goal

-- behind the bags so far stands the chain of the bag at hand, with the parents that are left
abbrev pub invariant-chain : goal.invariant-chain
invariant-chain l =
    with_front (found_bags_of l.chain.items) (chain_of l.stack l.left (found_bag_of l.bag) (device_numbers l.device))
    ≡ chain_of l.stack l.fn.most (found_bag_of l.fn.bag) (device_numbers l.device)

abbrev pub decreases-chain : goal.decreases-chain
decreases-chain l = l.left
