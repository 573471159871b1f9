use Rattle.std.proofs.Common.{◌≡◌, refl, sym, ◌∙◌}
use Rattle.config_precedence.specs.config_record.DeviceSeen.{device_numbers}
use Rattle.reference_resolver.specs.Ends.{end_of}
use Rattle.reference_resolver.proofs.Chains.{ends_within, goes_on_within, is_the_end}
use Rattle.reference_resolver.proofs.references.resolve_within.Goals as goal

ended : (c : goal.In-EndsAt) → c.in-EndsAt.end ≡ end_of c.args.stack.now c.args.most c.args.id.0 (device_numbers c.args.device.now)
ended c = sym (ends_within _ _ _ _ _ (sym c.next_within.ensures ∙ c.in-EndsAt.is)).0 ∙ c.chain.invariant

pub returns-in-EndsAt-clause-value : goal.returns-in-EndsAt-clause-value
returns-in-EndsAt-clause-value c = ended c

pub returns-in-EndsAt-clause-chain : goal.returns-in-EndsAt-clause-chain
returns-in-EndsAt-clause-chain c = is_the_end _ _ _ _ _ (ended c)

pub chain-init : goal.chain-init
chain-init c = refl

pub chain-preserved : goal.chain-preserved
chain-preserved c = sym (goes_on_within _ _ _ _ _ (sym c.next_within.ensures ∙ c.in-LookUp.is)).1 ∙ c.chain.invariant
