-- The values of a box are numbers that devices can have.
use Rattle.std.proofs.Common.{◌≡◌, ℕ, arith, ◌≤◌, List, get_or, subst}
use Rattle.std.specs.List.{All}
use Rattle.std.proofs.lemmas.List.{get_or-map, length-map}
use Rattle.bags_themes.specs.config_record.declared.coord.Coord.{Coord}
use Rattle.bags_themes.specs.config_record.locales.declared.locale.Locale.{Locale}
use Rattle.bags_themes.specs.config_record.locales.LocaleNumber.{locale_number}
use Rattle.bags_themes.specs.config_record.Device.{CanHave}
use Rattle.config_box.specs.box_answers.NumberSet.{SetOf, RangeOf, LocalesOf, IsIn, locale_numbers}
use Rattle.config_box.specs.box_answers.Members.{set_at, IsBox}

pub can-have-range : (sets : List SetOf) (c : Coord) (low high : ℕ) → IsBox sets → RangeOf low high ≡ set_at sets c → (n : ℕ) → low ≤ n → n ≤ high → CanHave c n
can-have-range sets c low high b e n above below = (b.each c).can n (subst (λ (s : SetOf). IsIn s n) e (above, below))

pub can-have-locales : (sets : List SetOf) (c : Coord) (locales : List Locale) → IsBox sets → LocalesOf (locale_numbers locales) ≡ set_at sets c → All (λ locale. CanHave c (locale_number locale)) locales
can-have-locales sets c locales b e k locale q =
    let n = locale_number (get_or locales k locale) in
    let count = length-map locales locale_number in
    (b.each c).can n (subst (λ (s : SetOf). IsIn s n) e (k, omega (arith, count, q), get_or-map locale_number locales k locale n q))
