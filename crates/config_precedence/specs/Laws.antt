-- What holds of 'better' among the records that match a device, and of the rule that decides.
use Rattle.std.specs.Prelude.{ℕ, ◌≡◌, ◌==◌, ◌&&◌, ◌||◌, nat_le, Bool, List, Some, IsTrue, IsFalse}
use Rattle.config_match.specs.config_record.declared.coord.Coord.TheVariants as coords
use Rattle.config_match.specs.config_record.ComparedNumber.{device_number}
use Rattle.config_match.specs.config_record.Record.{density}
use Rattle.config_match.specs.Comparisons.{medium_density}
use Rattle.config_match.specs.Locale.{is_by_language_and_region}
use Rattle.config_match.specs.Matching.{is_match}
use Rattle.config_precedence.specs.Precedence.{is_better, deciding_of, keeping_out_of}

-- These laws are those of devices that are compared by language and region. On a phone P3 says yes of one record and nothing of the
-- other, and English has three records of which each is better than the next.
abbrev pub IsComparedPlainly : List ℕ → Type 0
IsComparedPlainly d = IsTrue (is_by_language_and_region (device_number d coords.Locale))

-- ---- the rule that decides

-- It is the same in either order of the two records, also where none decides, and whether they match or not.
abbrev pub DecidesInEitherOrder : List ℕ → List ℕ → List ℕ → Type 0
DecidesInEitherOrder a b d = IsComparedPlainly d → deciding_of a b d ≡ deciding_of b a d

-- It is the one that keeps the first record out.
abbrev pub KeepsOutByDeciding : List ℕ → List ℕ → List ℕ → Type 0
KeepsOutByDeciding a b d = IsComparedPlainly d → keeping_out_of a b d ≡ deciding_of a b d

-- ---- densities of 0 and 160, which count alike

-- the number of the rule that compares densities
abbrev pub density_rule : ℕ
density_rule = 15

abbrev pub densities_tie : List ℕ → List ℕ → Bool
densities_tie a b = (density a == 0 && density b == medium_density) || (density a == medium_density && density b == 0)

-- the densities are 0 and 160, and no earlier rule decides
pub record IsTie (a b d : List ℕ) : Type 0 where
  pub densities : IsTrue (densities_tie a b)
  pub decided : deciding_of a b d ≡ Some density_rule

-- Then each record is better than the other at a device of 160 and more, and neither is below.
abbrev pub BothOrNeitherIsBetter : List ℕ → List ℕ → List ℕ → Type 0
BothOrNeitherIsBetter a b d =
    IsComparedPlainly d
    → IsTie a b d
    → (is_better a b d ≡ nat_le medium_density (device_number d coords.Density))
    × (is_better b a d ≡ nat_le medium_density (device_number d coords.Density))

-- ---- an order

-- Of two records that match the device at most one is better than the other, but for that tie. Without matching
-- it does not hold: with the mcc 310 and 311 each is better than the other at a device that has any mcc.
abbrev pub AtMostOneIsBetter : List ℕ → List ℕ → List ℕ → Type 0
AtMostOneIsBetter a b d = IsComparedPlainly d → IsTrue (is_match a d) → IsTrue (is_match b d) → ¬ IsTie a b d → IsTrue (is_better a b d) → IsFalse (is_better b a d)

-- a is better, and b is not better than a
abbrev pub IsStrictlyBetter : List ℕ → List ℕ → List ℕ → Type 0
IsStrictlyBetter a b d = IsTrue (is_better a b d) × IsFalse (is_better b a d)

-- Among records that match the device: where a is strictly better than b, and b than c, a is strictly better
-- than c. But for that tie 'strictly' asks for no more than 'better', by the law above.
abbrev pub IsTransitiveFrom : List ℕ → List ℕ → List ℕ → Type 0
IsTransitiveFrom a b d =
    IsComparedPlainly d
    → (c : List ℕ) → IsTrue (is_match a d) → IsTrue (is_match b d) → IsTrue (is_match c d)
    → IsStrictlyBetter a b d → IsStrictlyBetter b c d → IsStrictlyBetter a c d
