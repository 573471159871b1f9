-- The number of a locale: of its eight bytes, language first, script last and the highest byte first, so that the order of
-- these numbers is the order of the bytes.
use Rattle.std.specs.Prelude.{ℕ, ◌++◌, take, drop}
use Rattle.std.specs.Int.{w64, from_be_bytes, to_be_bytes}
use Rattle.locales.specs.declared.locale.Locale.{Locale}

unfoldable pub locale_number : Locale → ℕ
locale_number l = from_be_bytes w64 (l.language ++ l.region ++ l.script)

-- the locale of these eight bytes
unfoldable pub locale_of_number : ℕ → Locale
locale_of_number n = let bytes = to_be_bytes w64 n in record { language = take 2 bytes; region = take 2 (drop 2 bytes); script = drop 4 bytes }
