-- Are two records equal? All their fields count but the size, with the bits and the byte in which no
-- coordinate stands (AOSP: ResTable_config::compare). A record is the list of its bytes.
use Rattle.std.specs.Prelude.{ℕ, ◌==◌, ◌&&◌, Bool, List, bytes_eq}
use Rattle.config_match.specs.config_record.Record.{mcc, mnc, language, country, locale_script, locale_variant, orientation, touchscreen, density, keyboard, navigation, input_flags, input_pad, screen_width, screen_height, sdk_version, minor_version, screen_layout, screen_layout2, color_mode, ui_mode, smallest_screen_width_dp, screen_width_dp, screen_height_dp}

abbrev pub same_operator : List ℕ → List ℕ → Bool
same_operator a b = mcc a == mcc b && mnc a == mnc b

abbrev pub same_locale : List ℕ → List ℕ → Bool
same_locale a b =
    bytes_eq (language a) (language b) && bytes_eq (country a) (country b)
    && bytes_eq (locale_script a) (locale_script b) && bytes_eq (locale_variant a) (locale_variant b)

-- the bytes 12 to 15
abbrev pub same_screen_type : List ℕ → List ℕ → Bool
same_screen_type a b = orientation a == orientation b && touchscreen a == touchscreen b && density a == density b

-- the bytes 16 to 19
abbrev pub same_input : List ℕ → List ℕ → Bool
same_input a b =
    keyboard a == keyboard b && navigation a == navigation b
    && input_flags a == input_flags b && input_pad a == input_pad b

abbrev pub same_screen_size : List ℕ → List ℕ → Bool
same_screen_size a b = screen_width a == screen_width b && screen_height a == screen_height b

abbrev pub same_version : List ℕ → List ℕ → Bool
same_version a b = sdk_version a == sdk_version b && minor_version a == minor_version b

-- whole bytes
abbrev pub same_screen_config : List ℕ → List ℕ → Bool
same_screen_config a b =
    screen_layout a == screen_layout b && screen_layout2 a == screen_layout2 b
    && color_mode a == color_mode b && ui_mode a == ui_mode b

abbrev pub same_screen_size_dp : List ℕ → List ℕ → Bool
same_screen_size_dp a b =
    smallest_screen_width_dp a == smallest_screen_width_dp b
    && screen_width_dp a == screen_width_dp b && screen_height_dp a == screen_height_dp b

unfoldable pub is_same : List ℕ → List ℕ → Bool
is_same a b =
    same_operator a b && same_locale a b && same_screen_type a b && same_input a b
    && same_screen_size a b && same_version a b && same_screen_config a b && same_screen_size_dp a b
