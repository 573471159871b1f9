use Rattle.std.proofs.Common.{sym, ap, ◌∙◌, arith}
use Rattle.std.specs.Option.{option_map}
use Rattle.reference_resolver.specs.config_record.DeviceSeen.{device_numbers}
use Rattle.bags_themes.specs.FoundBag.{found_bag_of}
use Rattle.bags_themes.proofs.ChainSteps.{ends_at, too_deep_at, goes_on_at, found_bags_of-last}
use Rattle.bags_themes.proofs.parents.with_parents.Goals as goal

pub returns-in_default : goal.returns-in_default
returns-in_default c =
    ends_at c.args.stack.now c.chain.left (found_bag_of c.chain.bag) (device_numbers c.args.device.now) _ _ _ c.chain.invariant
    (found_bags_of-last _ _ _ c.in_ok-push.ensures.ok)
    (sym c.parent.ensures ∙ ap (λ o. option_map found_bag_of o) c.in_default.is)

pub returns-then-left-eq0 : goal.returns-then-left-eq0
returns-then-left-eq0 c = λ other.
    too_deep_at c.args.stack.now c.chain.left (found_bag_of c.chain.bag) (found_bag_of c.in-Some.parent) (device_numbers c.args.device.now) _ _ c.chain.invariant
    (sym c.parent.ensures ∙ ap (λ o. option_map found_bag_of o) c.in-Some.is) c.if-left-eq0.true

pub chain-preserved : goal.chain-preserved
chain-preserved c =
    goes_on_at c.args.stack.now c.chain.left (found_bag_of c.chain.bag) (found_bag_of c.in-Some.parent) (device_numbers c.args.device.now) _ _ _ c.chain.invariant
    (found_bags_of-last _ _ _ c.in_ok-push.ensures.ok)
    (sym c.parent.ensures ∙ ap (λ o. option_map found_bag_of o) c.in-Some.is) (omega (arith, c.if-left-eq0.false))
