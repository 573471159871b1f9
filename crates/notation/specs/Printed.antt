-- The text that `am get-config` prints: `config:`, a blank, and the line of the device; then lines of other kinds.
use Rattle.std.specs.Prelude.{ℕ, ◌==◌, ◌||◌, not, Bool, List, [], ◌∷◌, ◌++◌, take, drop, position, codes, Option, Some, None, is_some, unwrap_or, Result}
use Rattle.config_record.specs.locales.declared.locale_rule.LocaleRule.{LocaleRule}
use Rattle.notation.specs.declared.line.NoLine.{NoLine}
use Rattle.notation.specs.Cut.{behind}
use Rattle.notation.specs.Fault.{FaultOf}
use Rattle.notation.specs.Config.{device_of_config_by}
use Rattle.notation.specs.LineParts.{line_text}
use Rattle.notation.specs.Line.{unsaid, if_all_said}

-- such a text
abbrev pub is_printed : List ℕ → Bool
is_printed text = is_some (behind (codes "config:") text)

-- ---- read

-- a space or a tab
abbrev pub is_blank : ℕ → Bool
is_blank byte = byte == 32 || byte == 9

abbrev pub from_place : List ℕ → Option ℕ → List ℕ
from_place text None = []
from_place text (Some place) = drop place text

-- from the first byte on that is no blank
abbrev pub without_blanks : List ℕ → List ℕ
without_blanks text = from_place text (position (λ byte. not (is_blank byte)) text)

-- a line feed or a carriage return
abbrev pub ends_line : ℕ → Bool
ends_line byte = byte == 10 || byte == 13

abbrev pub up_to_place : List ℕ → Option ℕ → List ℕ
up_to_place text None = text
up_to_place text (Some place) = take place text

abbrev pub first_line : List ℕ → List ℕ
first_line text = up_to_place text (position ends_line text)

-- A text without `config:` begins with the line.
unfoldable pub line_in : List ℕ → List ℕ
line_in text = first_line (without_blanks (unwrap_or (behind (codes "config:") text) text))

-- the device of such a text, or the first fault of its line
unfoldable pub device_of_printed_by : LocaleRule → List ℕ → Result (List ℕ) FaultOf
device_of_printed_by rule text = device_of_config_by rule (line_in text)

-- ---- written

abbrev pub printed_text : List ℕ → List ℕ
printed_text device = codes "config: " ++ line_text device ++ 10 ∷ []

-- A device has a text where that reads as the device by this rule: not where it has a number that no part can say, as the
-- type 0 of the interface.
unfoldable pub printed_of_by : LocaleRule → List ℕ → Result (List ℕ) NoLine
printed_of_by rule device = if_all_said (printed_text device) (unsaid (device_of_printed_by rule (printed_text device)) device)
