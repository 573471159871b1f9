-- Which values that are set for attributes are undefined.
use Rattle.std.specs.Prelude.{◌==◌, Bool, ◌&&◌, not}
use Rattle.res_value.specs.Kind.{null_kind, empty_word}
use Rattle.bag_rows.specs.declared.theme_value.ThemeValue.{ThemeValue}

-- null, but not empty
abbrev pub is_undefined_value : ThemeValue → Bool
is_undefined_value set = set.value.kind == null_kind && not (set.value.word == empty_word)
