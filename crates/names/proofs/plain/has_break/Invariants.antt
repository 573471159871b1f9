use Rattle.std.proofs.Common.{◌≡◌}
use Rattle.std.specs.List.{list_any}
use Rattle.names.specs.Plain.{breaks_line}
use Rattle.bstr.specs.Utf8.{lossy_chars}
use Rattle.names.proofs.plain.has_break.Given as goal

-- one of the characters that are left breaks a line where one of all does
abbrev pub invariant-loop-character : goal.invariant-loop-character
invariant-loop-character l = record {
  can : (goal.iterator-loop-character).can_next l.character-iterator;
  ends : (goal.iterator-loop-character).is_finite l.character-iterator;
  left : list_any breaks_line l.character-iterator ≡ list_any breaks_line (lossy_chars l.fn.name);
}
