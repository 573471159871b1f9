-- The number that a row says at a coordinate. Of the locale it is that of its language and its region.
use Rattle.std.specs.Prelude.{ℕ, List}
use Rattle.command_base.specs.cert_tree.config_box.config_record.declared.coord.Coord.{Coord}
use Rattle.command_base.specs.cert_tree.config_box.config_record.declared.coord.Coord.TheVariants as coords
use Rattle.command_base.specs.cert_tree.config_box.config_record.locales.LocaleNumber.{locale_number}
use Rattle.command_base.specs.cert_tree.config_box.config_record.ComparedNumber.{record_number}
use Rattle.command_base.specs.cert_tree.config_box.config_record.Record.{locale_in}

unfoldable pub number_said : List ℕ → Coord → ℕ
number_said r coords.Locale = locale_number (locale_in r)
number_said r c = record_number r c
