-- Texts that a file or a device has, in lines of errors.
use Rattle.std.specs.Prelude.{ℕ, true, List, if◌then◌else◌}
use Rattle.std.specs.List.{list_any}
use Rattle.answer_text.specs.string_pool.Shown.{is_control, shown_text}

-- As it is; or as strings are shown, where it has a control character of ASCII, such as a line feed or an escape.
unfoldable pub in_one_line : List ℕ → List ℕ
in_one_line text = if list_any is_control text then shown_text (record { utf8 = true; bytes = text }) else text
