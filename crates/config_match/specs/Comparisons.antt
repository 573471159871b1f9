-- How two records are compared at a coordinate (AOSP: ResTable_config::isBetterThan). Here a and b are
-- their numbers there, and d is the device's; 0 says nothing. (The locale of a phone that has none is another number.)
use Rattle.std.specs.Prelude.{ℕ, ◌-◌, ◌*◌, ◌==◌, ◌&&◌, ◌||◌, not, nat_lt, nat_le, Bool, true, false, if◌then◌else◌, ℤ, pos, ◌+ℤ◌, ◌-ℤ◌, int_lt}
use Rattle.config_match.specs.declared.answer.Answer.{Answer}
use Rattle.config_match.specs.declared.answer.Answer.TheVariants.{Yes, No, Pass}
use Rattle.config_match.specs.declared.kind.Numbers.{Numbers}
use Rattle.config_match.specs.Answer.{answer_where}
use Rattle.config_record.specs.locales.Compared.{record_locale_of, device_locale_of}
use Rattle.config_record.specs.locales.Better.{is_better_of}
use Rattle.config_match.specs.Locale.{language, region, is_by_language_and_region}

abbrev pub is_given : ℕ → Bool
is_given n = not (n == 0)

abbrev pub differ : ℕ → ℕ → Bool
differ a b = not (a == b)

-- ---- the one that says something, or more

-- decides where a and b differ and the device says something; then a is better where it says something
abbrev pub given_answer : ℕ → ℕ → ℕ → Answer
given_answer a b d = answer_where (differ a b && is_given d) (is_given a)

-- decides in the same cases; then a is better where it is larger
abbrev pub larger_answer : ℕ → ℕ → ℕ → Answer
larger_answer a b d = answer_where (differ a b && is_given d) (nat_lt b a)

-- decides where a and b differ, whatever the device says
abbrev pub always_larger_answer : ℕ → ℕ → Answer
always_larger_answer a b = answer_where (differ a b) (nat_lt b a)

-- ---- the locale

-- 0 without language and region, 2 with both, else 1
abbrev pub locale_rank : ℕ → ℕ
locale_rank l =
    if is_given (language l) && is_given (region l) then 2
    else if is_given (language l) || is_given (region l) then 1
    else 0

-- by language and region it decides where the ranks differ; then a is better where its rank is larger
abbrev pub plain_answer : ℕ → ℕ → Answer
plain_answer a b = always_larger_answer (locale_rank a) (locale_rank b)

-- as a phone does it never says that a is not better
abbrev pub phone_answer : ℕ → ℕ → ℕ → Answer
phone_answer a b d = if is_better_of (record_locale_of a) (record_locale_of b) (device_locale_of d) then Yes else Pass

-- the device says by which rule
unfoldable pub locale_answer : ℕ → ℕ → ℕ → Answer
locale_answer a b d = if is_by_language_and_region d then plain_answer a b else phone_answer a b d

-- ---- two dimensions

-- what is left of the device's dimension beside the record's, where the device has one; it may be negative
unfoldable pub rest_of : ℕ → ℕ → ℤ
rest_of a d = if d == 0 then pos 0 else pos d -ℤ pos a

-- what is left of both
unfoldable pub rest_of_both : Numbers → Numbers → ℤ
rest_of_both a d = rest_of a.first d.first +ℤ rest_of a.second d.second

-- decides where two sums differ; then the smaller is better
unfoldable pub smaller_answer : ℤ → ℤ → Answer
smaller_answer x y = if int_lt x y then Yes else if int_lt y x then No else Pass

unfoldable pub dimensions_answer : Numbers → Numbers → Numbers → Answer
dimensions_answer a b d = smaller_answer (rest_of_both a d) (rest_of_both b d)

-- ---- the screen's size

abbrev pub normal_size : ℕ
normal_size = 2

-- a size of 0 counts as normal
abbrev pub counted_size : ℕ → ℕ
counted_size n = if n == 0 then normal_size else n

-- At a device of at least normal size: of two that count alike the one that says so is better, else the
-- larger. At a small device the larger is better, and 0 is 0.
abbrev pub is_better_size : ℕ → ℕ → ℕ → Bool
is_better_size a b d =
    if nat_lt d normal_size then nat_lt b a
    else if counted_size a == counted_size b then is_given a
    else nat_lt (counted_size b) (counted_size a)

-- decides where a and b differ and the device says something
abbrev pub screen_size_answer : ℕ → ℕ → ℕ → Answer
screen_size_answer a b d = answer_where (differ a b && is_given d) (is_better_size a b d)

-- ---- the density

-- the number of a record that suits any density
abbrev pub any_density : ℕ
any_density = 65534

abbrev pub medium_density : ℕ
medium_density = 160

-- a density of 0 counts as medium
abbrev pub counted_density : ℕ → ℕ
counted_density n = if n == 0 then medium_density else n

-- Whether of two densities the larger is better, or the only one where they are equal: where the device has
-- as much; else not where it has no more than the smaller; and between them where scaling the smaller up
-- is worse than scaling the larger down, which counts as twice as good. A difference below 0 counts as 0
-- here: neither is more than a square.
unfoldable pub is_larger_better : ℕ → ℕ → ℕ → Bool
is_larger_better l h d =
    if nat_le h d then true
    else if nat_le d l then false
    else not (nat_lt (d * d) ((2 * l - d) * h))

-- The density `any` is better than every other. Else a is better where it is the better one of the two; where they
-- count alike a is looked at as the larger, so that 0 and 160 are both better than the other, or neither is: then the later
-- of two candidates takes over, or the earlier stays.
abbrev pub is_better_density : ℕ → ℕ → ℕ → Bool
is_better_density a b d =
    let x = counted_density a in
    let y = counted_density b in
    if x == any_density then true
    else if y == any_density then false
    else if nat_le y x then is_larger_better y x d
    else not (is_larger_better x y d)

-- decides where a and b differ; the number 65535, none, is a density like any other
abbrev pub density_answer : ℕ → ℕ → ℕ → Answer
density_answer a b d = answer_where (differ a b) (is_better_density a b d)

-- ---- what is hidden

-- Decides where a and b differ, the device says something, and one of them says nothing or just what the device
-- says: the one that says something is better, and of two such the one that says what the device says.
abbrev pub keys_answer : ℕ → ℕ → ℕ → Answer
keys_answer a b d =
    answer_where (differ a b && is_given d && (a == 0 || b == 0 || a == d || b == d))
    (is_given a && (b == 0 || a == d))

-- decides where a and b differ, the device says something, and one of them says nothing
abbrev pub navigation_answer : ℕ → ℕ → ℕ → Answer
navigation_answer a b d = answer_where (differ a b && is_given d && (a == 0 || b == 0)) (is_given a)
