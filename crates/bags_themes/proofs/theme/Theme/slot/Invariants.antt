use Rattle.std.proofs.Common.{◌≡◌}
use Rattle.bags_themes.specs.Theme.{value_of}
use Rattle.bags_themes.specs.Attribute.{attributes_followed, slot_of}
use Rattle.bags_themes.proofs.theme.Theme.slot.Given as goal

-- the slot is that of the attribute at hand, with the attributes that are left
abbrev pub invariant-attributes : goal.invariant-attributes
invariant-attributes l = slot_of (value_of l.self) l.left l.attr.0 ≡ slot_of (value_of l.self) attributes_followed l.fn.attr.0

abbrev pub decreases-attributes : goal.decreases-attributes
decreases-attributes l = l.left
