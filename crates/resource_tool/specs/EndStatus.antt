-- The status of a command that prints an end.
use Rattle.std.specs.Prelude.{Bool, not, if◌then◌else◌}
use Rattle.command_base.specs.answer_text.reference_resolver.declared.end.End.{End}
use Rattle.command_base.specs.answer_text.reference_resolver.Ends.{is_value}
use Rattle.command_base.specs.declared.status.Status.{Status}
use Rattle.command_base.specs.declared.status.Status.TheVariants.{Done, Negative}

-- nothing was found, or too many references
abbrev pub is_unresolved : End → Bool
is_unresolved end = not (is_value end)

-- done at a value or a bag, else negative
abbrev pub status_of_end : End → Status
status_of_end end = if is_value end then Done else Negative
