use Rattle.std.proofs.Common.{◌≡◌, drop}
use Rattle.std.specs.List.{flat_map}
use Rattle.resource_tool.specs.Counting.{counted, no_qualifiers, said_by_layer}
use Rattle.resource_tool.proofs.survey.qualifiers.Qualifiers.of_stack.Given as goal

-- with what the layers that are left say it comes to what all layers say
abbrev pub invariant-loop-place : goal.invariant-loop-place
invariant-loop-place l = counted l.qualifiers (flat_map said_by_layer (drop l.place l.stack)) ≡ counted no_qualifiers (flat_map said_by_layer l.stack)
