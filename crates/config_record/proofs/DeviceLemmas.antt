-- The numbers of a device are in their ranges.
use Rattle.std.proofs.Common.{◌≡◌, ℕ, zero, suc, ◌<◌, ◌≤◌, ◌≢◌, ◌==◌, nat_lt, Bool, true, false, List, [], ◌∷◌, length, get_or, ◌⊎◌, inl, inr, Result, Ok, Err, IfOk, refl, sym, ap, subst, ◌∙◌, arith}
use Rattle.std.specs.Prelude.{IfErr}
use Rattle.std.proofs.lemmas.Bool.{ltb-false, eqb-false, or_parts}
use Rattle.locales.specs.contract_words.Faults.{◌>>=◌, checked_by}
use Rattle.locales.specs.contract_words.Sequences.{with_front}
use Rattle.locales.proofs.contract_words.FaultSteps.{checked_by-ok}
use Rattle.json_input.specs.Each.{each}
use Rattle.config_record.specs.declared.coord.Coord.{Coord}
use Rattle.config_record.specs.declared.coord.Coord.TheVariants as coords
use Rattle.locales.specs.declared.locale.Locale.{Locale}
use Rattle.locales.specs.declared.locale.LocaleFault.{LocaleFault}
use Rattle.locales.specs.declared.locale.LocaleFault.TheVariants as of_locale
use Rattle.config_record.specs.declared.fields.DeviceFault.{DeviceFault}
use Rattle.config_record.specs.declared.fields.DeviceFault.TheVariants.{FieldRange, RegionAlone, Density}
use Rattle.config_record.specs.Coord.{all_coords, place_of, number_at, greatest_of, greatest_of_device, is_outside}
use Rattle.config_record.specs.declared.device.Device.{Device}
use Rattle.config_record.specs.ComparedNumber.{device_number}
use Rattle.locales.specs.LocaleNumber.{locale_number, locale_of_number}
use Rattle.config_record.specs.DeviceSeen.{device_numbers, seen}
use Rattle.config_record.specs.Device.{density_in, field_in, locale_number_in, number_in, device_with, device_locale, CanHave}
use Rattle.locales.proofs.LocaleLemmas.{locale_of-gives}
use Rattle.locales.specs.Locale.{locale_of, locale_faults, checked_locale, IsOfSomeText, plain_text}
use Rattle.locales.specs.Text.{IsGiven}

-- ---- the number of each coordinate stands at its place

-- the first number and the others
record Parts (r : Result ℕ DeviceFault) (others : Result (List ℕ) DeviceFault) (numbers : List ℕ) : Type 0 where
  first : ℕ
  behind : List ℕ
  gives_first : r ≡ Ok first
  gives_others : others ≡ Ok behind
  same : numbers ≡ first ∷ behind

parts-of : (r : Result ℕ DeviceFault) (others : Result (List ℕ) DeviceFault) (numbers : List ℕ) → (r >>= (λ n. with_front (n ∷ []) others)) ≡ Ok numbers → Parts r others numbers
parts-of (Ok n) (Ok ns) numbers e = record { first = n; behind = ns; gives_first = refl; gives_others = refl; same = cc }
parts-of (Ok n) (Err fault) numbers e = absurd cc
parts-of (Err fault) others numbers e = absurd cc

each-at : (f : Coord → Result ℕ DeviceFault) (cs : List Coord) (numbers : List ℕ) (i : ℕ) (d : Coord) → each f cs ≡ Ok numbers → i < length cs
    → f (get_or cs i d) ≡ Ok (get_or numbers i 0)
unfolding each
each-at f [] numbers i d e on = absurd (omega arith)
each-at f (c ∷ cs) numbers zero d e on =
    let p = parts-of (f c) (each f cs) numbers e in
    rw p.same p.gives_first
each-at f (c ∷ cs) numbers (suc i) d e on =
    let p = parts-of (f c) (each f cs) numbers e in
    rw p.same (each-at f cs p.behind i d p.gives_others (omega arith))

pub coordinate-at_place : (c : Coord) → get_or all_coords (place_of c) coords.Mcc ≡ c
unfolding all_coords place_of
coordinate-at_place coords.Mcc = refl
coordinate-at_place c = refl

pub place_of-within : (c : Coord) → place_of c < length all_coords
unfolding all_coords place_of
place_of-within coords.Mcc = omega arith
place_of-within c = omega arith

pub number_at-given : (f : Coord → Result ℕ DeviceFault) (numbers : List ℕ) (c : Coord) → each f all_coords ≡ Ok numbers → f c ≡ Ok (number_at numbers c)
number_at-given f numbers c e =
    ap f (sym (coordinate-at_place c)) ∙ each-at f all_coords numbers (place_of c) coords.Mcc e (place_of-within c)

-- ---- and is in its range

same_number : (a b : ℕ) (r : Result ℕ DeviceFault) → r ≡ Ok a → r ≡ Ok b → a ≡ b
same_number a b r e f = cc

pub inside-within : (c : Coord) (n : ℕ) → is_outside c n ≡ false → n ≤ greatest_of_device c
unfolding is_outside
inside-within coords.Density n e = let h = or_parts (n == 0) (nat_lt (greatest_of_device coords.Density) n) e in let within = ltb-false (greatest_of_device coords.Density) n h.1 in omega arith
inside-within c n e = let within = ltb-false (greatest_of_device c) n e in omega arith

pub greatest-fits : (c : Coord) → greatest_of_device c < 65536
unfolding greatest_of_device greatest_of
greatest-fits coords.Mcc = omega arith
greatest-fits c = omega arith

pub inside-some : (n : ℕ) → is_outside coords.Density n ≡ false → 1 ≤ n
unfolding is_outside
inside-some n e = let h = or_parts (n == 0) (nat_lt (greatest_of_device coords.Density) n) e in let some = eqb-false n 0 h.0 in omega arith

pub inside-can : (c : Coord) (n : ℕ) → c ≢ coords.Locale → is_outside c n ≡ false → CanHave c n
inside-can coords.Locale n other e = absurd (other refl)
inside-can c n other e = e

field_in-within : (c : Coord) (asked n : ℕ) → field_in c asked ≡ Ok n → n ≤ greatest_of_device c
field_in-within c asked n e =
    let p = checked_by-ok ((is_outside c asked, FieldRange c) ∷ []) (Ok asked) n e in
    let below = inside-within c asked p.0.0 in
    let same : asked ≡ n = same_number asked n (Ok asked) refl p.1 in
    omega arith

field_in-asked : (c : Coord) (asked n : ℕ) → field_in c asked ≡ Ok n → n ≡ asked
field_in-asked c asked n e =
    let p = checked_by-ok ((is_outside c asked, FieldRange c) ∷ []) (Ok asked) n e in
    sym (same_number asked n (Ok asked) refl p.1)

density_in-within : (asked n : ℕ) → density_in asked ≡ Ok n → (1 ≤ n) × (n ≤ greatest_of_device coords.Density)
density_in-within asked n e =
    let p = checked_by-ok ((is_outside coords.Density asked, Density) ∷ []) (Ok asked) n e in
    let not_zero = inside-some asked p.0.0 in
    let below = inside-within coords.Density asked p.0.0 in
    let same : asked ≡ n = same_number asked n (Ok asked) refl p.1 in
    (omega arith, omega arith)

density_in-asked : (asked n : ℕ) → density_in asked ≡ Ok n → n ≡ asked
density_in-asked asked n e =
    let p = checked_by-ok ((is_outside coords.Density asked, Density) ∷ []) (Ok asked) n e in
    sym (same_number asked n (Ok asked) refl p.1)

number_in-within : (asked : List ℕ) (l : Result ℕ DeviceFault) (c : Coord) (n : ℕ) → number_in asked l c ≡ Ok n → c ≢ coords.Locale → n ≤ greatest_of_device c
unfolding number_in
number_in-within asked l coords.Locale n e other = absurd (other refl)
number_in-within asked l coords.Density n e other = (density_in-within (number_at asked coords.Density) n e).1
number_in-within asked l c n e other = field_in-within c (number_at asked c) n e

pub device-within : (asked numbers : List ℕ) (l : Result ℕ DeviceFault) → Ok numbers ≡ each (number_in asked l) all_coords
    → (c : Coord) → c ≢ coords.Locale → number_at numbers c ≤ greatest_of_device c
device-within asked numbers l e c other = number_in-within asked l c (number_at numbers c) (number_at-given (number_in asked l) numbers c (sym e)) other

pub device-with_density : (asked numbers : List ℕ) (l : Result ℕ DeviceFault) → Ok numbers ≡ each (number_in asked l) all_coords → 1 ≤ number_at numbers coords.Density
unfolding number_in
device-with_density asked numbers l e = (density_in-within (number_at asked coords.Density) (number_at numbers coords.Density) (number_at-given (number_in asked l) numbers coords.Density (sym e))).0

-- ---- the locale is one that a text gives

locale_number-given : (locale : Result ℕ DeviceFault) (n : ℕ) → locale ≡ Ok n → IfOk locale (λ m. IsGiven (locale_of_number m)) → IsGiven (locale_of_number n)
locale_number-given (Ok m) n e given = let same : m ≡ n = same_number m n (Ok m) refl e in rw (← same) given
locale_number-given (Err fault) n e given = absurd cc

pub device-with_locale : (asked numbers : List ℕ) (locale : Result ℕ DeviceFault) → Ok numbers ≡ each (number_in asked locale) all_coords
    → IfOk locale (λ m. IsGiven (locale_of_number m)) → IsGiven (device_locale numbers)
unfolding number_in
device-with_locale asked numbers locale e given =
    locale_number-given locale (number_at numbers coords.Locale) (number_at-given (number_in asked locale) numbers coords.Locale (sym e)) given

-- ---- and is the one that was asked for

number_in-asked : (asked : List ℕ) (l : Result ℕ DeviceFault) (c : Coord) (n : ℕ) → number_in asked l c ≡ Ok n → c ≢ coords.Locale → n ≡ number_at asked c
unfolding number_in
number_in-asked asked l coords.Locale n e other = absurd (other refl)
number_in-asked asked l coords.Density n e other = density_in-asked (number_at asked coords.Density) n e
number_in-asked asked l c n e other = field_in-asked c (number_at asked c) n e

pub device-asked : (asked : List ℕ) (l : Result Locale LocaleFault) (r : Result Device DeviceFault) → seen r ≡ device_with asked l
    → IfOk r (λ d. (c : Coord) → c ≢ coords.Locale → device_number (device_numbers d) c ≡ number_at asked c)
unfolding device_with
device-asked asked l (Ok d) e = λ c other. number_in-asked asked (locale_number_in l) c (number_at (device_numbers d) c) (number_at-given (number_in asked (locale_number_in l)) (device_numbers d) c (sym e)) other
device-asked asked l (Err fault) e = tt

-- ---- and its locale is the one that was asked for

same_locale : (own m : Locale) → checked_locale own ≡ Ok m → own ≡ m
unfolding checked_locale
same_locale own m e = let p = checked_by-ok (locale_faults own) (Ok own) m e in same_value own m (Ok own) refl p.1
  where
    same_value : (a b : Locale) (r : Result Locale LocaleFault) → r ≡ Ok a → r ≡ Ok b → a ≡ b
    same_value a b r e f = cc

locale_number-asked : (own : Locale) (l : Result Locale LocaleFault) (n : ℕ) → l ≡ checked_locale own → IfOk l (λ m. locale_of_number (locale_number m) ≡ m)
    → locale_number_in l ≡ Ok n → locale_of_number n ≡ own
locale_number-asked own (Ok m) n checked back e =
    let same : own ≡ m = same_locale own m (sym checked) in
    ap (λ (k : ℕ). locale_of_number k) (same_number n (locale_number m) (Ok n) refl (sym e)) ∙ back ∙ sym same
locale_number-asked own (Err of_locale.RegionAlone) n checked back e = absurd cc
locale_number-asked own (Err of_locale.Malformed) n checked back e = absurd cc

pub device-locale_asked : (asked : List ℕ) (own : Locale) (l : Result Locale LocaleFault) (r : Result Device DeviceFault) → seen r ≡ device_with asked l
    → l ≡ checked_locale own → IfOk l (λ m. locale_of_number (locale_number m) ≡ m) → IfOk r (λ d. device_locale (device_numbers d) ≡ own)
unfolding device_with number_in
device-locale_asked asked own l (Ok d) e checked back =
    locale_number-asked own l (number_at (device_numbers d) coords.Locale) checked back (number_at-given (number_in asked (locale_number_in l)) (device_numbers d) coords.Locale (sym e))
device-locale_asked asked own l (Err fault) e checked back = tt

-- ---- which some text stands for

some_text-asked : (own : Locale) (l : Result Locale LocaleFault) (n : ℕ) → l ≡ checked_locale own → IfOk l (λ m. locale_of (plain_text m) ≡ Ok m)
    → locale_number_in l ≡ Ok n → IsOfSomeText own
some_text-asked own (Ok m) n checked read e = subst (λ (l : Locale). IsOfSomeText l) (sym (same_locale own m (sym checked))) (plain_text m, read)
some_text-asked own (Err of_locale.RegionAlone) n checked read e = absurd cc
some_text-asked own (Err of_locale.Malformed) n checked read e = absurd cc

pub device-some_text : (asked : List ℕ) (own : Locale) (l : Result Locale LocaleFault) (r : Result Device DeviceFault) → seen r ≡ device_with asked l
    → l ≡ checked_locale own → IfOk l (λ m. locale_of_number (locale_number m) ≡ m) → IfOk l (λ m. locale_of (plain_text m) ≡ Ok m)
    → IfOk r (λ d. IsOfSomeText (device_locale (device_numbers d)))
unfolding device_with number_in
device-some_text asked own l (Ok d) e checked back read =
    let some = some_text-asked own l (number_at (device_numbers d) coords.Locale) checked read (number_at-given (number_in asked (locale_number_in l)) (device_numbers d) coords.Locale (sym e)) in
    subst (λ (l : Locale). IsOfSomeText l) (sym (device-locale_asked asked own l (Ok d) e checked back)) some
device-some_text asked own l (Err fault) e checked back read = tt

-- ---- and a locale that some text stands for is no fault

first_or_later : (r : Result ℕ DeviceFault) (others : Result (List ℕ) DeviceFault) (fault : DeviceFault) → (r >>= (λ n. with_front (n ∷ []) others)) ≡ Err fault → (r ≡ Err fault) ⊎ (others ≡ Err fault)
first_or_later (Ok n) (Ok ns) fault e = absurd cc
first_or_later (Ok n) (Err other) fault e = let same : other ≡ fault = cc in inr (rw same refl)
first_or_later (Err other) others fault e = let same : other ≡ fault = cc in inl (rw same refl)

each-fault : (f : Coord → Result ℕ DeviceFault) (cs : List Coord) (fault : DeviceFault) → each f cs ≡ Err fault → (c : Coord) × (f c ≡ Err fault)
unfolding each
each-fault f [] fault e = absurd cc
each-fault f (c ∷ cs) fault e = elim (first_or_later (f c) (each f cs) fault e) [ inl here ↦ (c, here) | inr later ↦ each-fault f cs fault later ]

one_fault : (test : Bool) (n : ℕ) (f fault : DeviceFault) → checked_by ((test, f) ∷ []) (Ok n) ≡ Err fault → fault ≡ f
one_fault true n f fault e = let same : f ≡ fault = cc in sym same
one_fault false n f fault e = absurd cc

-- no fault of a locale
abbrev IsElsewhere : DeviceFault → Type 0
IsElsewhere fault = (fault ≢ RegionAlone) × (fault ≢ FieldRange coords.Locale)

number_in-elsewhere : (asked : List ℕ) (l : ℕ) (c : Coord) (fault : DeviceFault) → number_in asked (Ok l) c ≡ Err fault → IsElsewhere fault
unfolding number_in
number_in-elsewhere asked l coords.Locale fault e = absurd cc
number_in-elsewhere asked l coords.Density fault e = let is = one_fault _ _ Density fault e in (λ h. cc, λ h. cc)
number_in-elsewhere asked l c fault e = let is = one_fault _ _ (FieldRange c) fault e in (λ h. cc, λ h. cc)

pub device-not_refused : (asked : List ℕ) (own : Locale) (l : Result Locale LocaleFault) (r : Result Device DeviceFault) → seen r ≡ device_with asked l
    → l ≡ checked_locale own → IsOfSomeText own → IfErr r IsElsewhere
unfolding device_with
device-not_refused asked own l (Ok d) e checked some = tt
device-not_refused asked own l (Err fault) e checked some =
    let passes : l ≡ Ok own = checked ∙ (locale_of-gives some.0 own some.1).passes in
    let f = each-fault (number_in asked (Ok (locale_number own))) all_coords fault (rw passes at (sym e)) in
    number_in-elsewhere asked (locale_number own) f.0 fault f.1
