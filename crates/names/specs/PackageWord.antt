-- Which package a word names, before its `:`: by its number, `0x01`, or by its name, `android`.
use Rattle.std.specs.Prelude.{ℕ, List, drop, codes, slice_index, Option, None, nat_eq, if◌then◌else◌}
use Rattle.std.specs.List.{starts_with}
use Rattle.std.specs.Option.{option_map, option_map_or}
use Rattle.std.specs.Result.{result_ok}
use Rattle.hex.specs.Hex.{decode_sized}
use Rattle.names.specs.declared.package_word.PackageWord.{PackageWord}
use Rattle.names.specs.declared.package_word.PackageWord.TheVariants.{Number, Name}

pub data PackageWordOf : Type 0 where
  Numbered : ℕ → PackageWordOf
  Called : List ℕ → PackageWordOf

abbrev pub package_word_of : PackageWord → PackageWordOf
package_word_of (Number number) = Numbered number
package_word_of (Name name) = Called name.now

-- the number that a text spells: `0x` and two hexadecimal digits of either case
unfoldable pub number_in : List ℕ → Option ℕ
number_in text =
    if starts_with nat_eq text (codes "0x")
    then option_map (λ bytes. slice_index bytes 0) (result_ok (decode_sized (drop 2 text) 1))
    else None

-- a number, or else a name
unfoldable pub package_word_in : List ℕ → PackageWordOf
package_word_in text = option_map_or (λ number. Numbered number) (number_in text) (Called text)
