-- What is written of a device as JSON is read as that device.
use Rattle.std.proofs.Common.{◌≡◌, ◌≢◌, ℕ, zero, suc, ◌^◌, ◌<◌, ◌≤◌, ◌==◌, ◌&&◌, not, Bool, true, false, if◌then◌else◌, List, [], ◌∷◌, ◌++◌, codes, map, length, get_or, position, unwrap_or, Option, Some, None, option_map, ok_or, Result, Ok, Err, inl, inr, refl, sym, ap, ◌∙◌, arith, lt-ltb, le-ltb}
use Rattle.std.specs.List.{flat_map, join_with_byte}
use Rattle.std.specs.Option.{option_map_or}
use Rattle.std.proofs.lemmas.Bool.{and_parts, cases_Bool, eqb-true, ne_eqb}
use Rattle.std.proofs.lemmas.Nat.{from_be_bytes-to_be_bytes_8}
use Rattle.contract_words.specs.Faults.{◌>>=◌, refuse}
use Rattle.contract_words.specs.Sequences.{with_front}
use Rattle.contract_words.proofs.FaultSteps.{checked_by-ok}
use Rattle.serde_json.specs.Data.{Data, object, no_members}
use Rattle.json_input.specs.Each.{each}
use Rattle.json_input.specs.Json.{value_of}
use Rattle.json_input.specs.Shape.{has_only}
use Rattle.json_input.proofs.EachLeft.{each-nil}
use Rattle.json_input.proofs.EachSteps.{each-ok}
use Rattle.config_record.specs.declared.coord.Coord.{Coord}
use Rattle.config_record.specs.declared.coord.Coord.TheVariants as coords
use Rattle.config_record.specs.declared.fields.DeviceFault.{DeviceFault}
use Rattle.config_record.specs.declared.fields.DeviceFault.TheVariants.{Syntax, Shape}
use Rattle.config_record.specs.locales.declared.locale.Locale.{Locale}
use Rattle.config_record.specs.locales.declared.locale.LocaleFault.{LocaleFault}
use Rattle.config_record.specs.locales.Locale.{dash, no_part, without_script, region_of, with_region, with_region_faults, cut_at, locale_of, plain_text}
use Rattle.config_record.specs.locales.LocaleNumber.{locale_number, locale_of_number}
use Rattle.config_record.specs.locales.Zero.{is_zero}
use Rattle.config_record.specs.locales.declared.locale_rule.LocaleRule.{LocaleRule}
use Rattle.config_record.specs.locales.declared.locale_rule.LocaleRule.TheVariants.{LanguageAndRegion, Android}
use Rattle.config_record.specs.locales.Text.{is_dash, written_script, language_part, behind_language, with_script, with_likely_script, in_likely_script, scripted_locale_of, locale_by, region_alone, text_with_script, shows_script, locale_text, IsGivenBy}
use Rattle.config_record.specs.Coord.{all_coords, place_of, name_of, greatest_of_device, is_outside, number_at}
use Rattle.config_record.specs.ComparedNumber.{device_number}
use Rattle.config_record.specs.Device.{number_in, device_with, device_locale, device_coordinate}
use Rattle.config_record.specs.DeviceJson.{number_or_0, text_or_empty, number_asked, numbers_asked, locale_asked, device_in_value, device_in_json_by}
use Rattle.config_record.proofs.DeviceLemmas.{greatest-fits}
use Rattle.config_record.proofs.locales.ReadBack.{found_in}
use Rattle.notation.specs.JsonText.{number_member, locale_member, members_at, device_members, device_json}
use Rattle.notation.proofs.DeviceSteps.{of_coords}
use Rattle.notation.proofs.PlainText.{HasBytes, locale_text-plain}
use Rattle.notation.proofs.JsonPrint.{Entry, numeral, text, entry_data, Fits, member_of, puts, line-value}
use Rattle.notation.proofs.JsonFound.{only_coords, found_at}

-- what is known of the numbers of a device
pub record IsDevice (d : List ℕ) : Type 0 where
  pub count : length d ≡ 25
  pub of_locale : number_at d coords.Locale < 2 ^ 64
  pub in_range : (c : Coord) → c ≢ coords.Locale → number_at d c ≤ greatest_of_device c
  pub with_density : 1 ≤ number_at d coords.Density

-- ---- what stands at each coordinate

abbrev number_entry : ℕ → Option Entry
number_entry n = if n == 0 then None else Some (numeral n)

abbrev locale_entry : Locale → Option Entry
locale_entry l = if is_zero l.language && is_zero l.region then None else Some (text (locale_text l))

abbrev entry_at : List ℕ → Coord → Option Entry
entry_at d coords.Locale = locale_entry (device_locale d)
entry_at d c = number_entry (device_number d c)

number-fits : (n : ℕ) → n < 2 ^ 64 → Fits (number_entry n)
number-fits n small = elim (cases_Bool (n == 0)) [
  | inl none ↦ rw none tt
  | inr some ↦ rw some small
]

two_bytes : (a b : ℕ) → a < 256 → b < 256 → (i : ℕ) → get_or (a ∷ b ∷ []) i 0 < 256
two_bytes a b p q zero = p
two_bytes a b p q (suc zero) = q
two_bytes a b p q (suc (suc i)) = omega arith

bytes_of : (n : ℕ) → HasBytes (locale_of_number n)
unfolding locale_of_number
bytes_of n = record { language = two_bytes _ _ (omega arith) (omega arith); region = two_bytes _ _ (omega arith) (omega arith) }

locale-fits : (l : Locale) → HasBytes l → Fits (locale_entry l)
locale-fits l small = elim (cases_Bool (is_zero l.language && is_zero l.region)) [
  | inl none ↦ rw none tt
  | inr some ↦ rw some (locale_text-plain l small)
]

small : (d : List ℕ) → IsDevice d → (c : Coord) → number_at d c < 2 ^ 64
small d is coords.Locale = is.of_locale
small d is c =
    let within = is.in_range c (λ h. cc) in
    let least = greatest-fits c in
    omega arith

fits_at : (d : List ℕ) → IsDevice d → (c : Coord) → Fits (entry_at d c)
fits_at d is coords.Locale = locale-fits (device_locale d) (bytes_of (number_at d coords.Locale))
fits_at d is c = number-fits (number_at d c) (small d is c)

-- ---- that is its text

number-texts : (c : Coord) (n : ℕ) → number_member c n ≡ member_of c (number_entry n)
unfolding number_member
number-texts c n = elim (cases_Bool (n == 0)) [
  | inl none ↦ rw none refl
  | inr some ↦ rw some refl
]

locale-texts : (l : Locale) → locale_member l ≡ member_of coords.Locale (locale_entry l)
unfolding locale_member
locale-texts l = elim (cases_Bool (is_zero l.language && is_zero l.region)) [
  | inl none ↦ rw none refl
  | inr some ↦ rw some refl
]

texts_at : (d : List ℕ) (c : Coord) → members_at d c ≡ member_of c (entry_at d c)
unfolding members_at device_coordinate
texts_at d coords.Locale = locale-texts (device_locale d)
texts_at d c = number-texts c (device_number d c)

value_is : (d : List ℕ) → IsDevice d → value_of (device_json d) ≡ Some (object (puts (entry_at d) all_coords no_members))
unfolding device_json device_members
value_is d is =
    ap (λ (texts : List (List ℕ)). value_of ((codes "{" ++ join_with_byte 44 texts ++ codes "}") ++ 10 ∷ [])) (λ i. flat_map (λ c. texts_at d c i) all_coords)
    ∙ line-value (entry_at d) (fits_at d is) all_coords

-- ---- each number is read of it

number-read : (n : ℕ) → ◌≡◌ {A = Result ℕ DeviceFault} (ok_or (number_or_0 (option_map entry_data (number_entry n))) Shape) (Ok n)
number-read n = elim (cases_Bool (n == 0)) [
  | inl none ↦ let wrapped : ℕ → Result ℕ DeviceFault = λ m. Ok m in rw none (ap wrapped (sym (eqb-true n 0 none)))
  | inr some ↦ rw some refl
]

asked_at : (d : List ℕ) (c : Coord) → number_asked (object (puts (entry_at d) all_coords no_members)) c ≡ Ok (device_coordinate d c)
unfolding number_asked device_coordinate
asked_at d coords.Locale = refl
asked_at d c = ap (λ o. ok_or (number_or_0 o) Shape) (found_at (entry_at d) c) ∙ number-read (device_number d c)

each-all : {A X E : Type 0} (f : A → Result X E) (g : A → X) (items : List A) → ((a : A) → f a ≡ Ok (g a)) → each f items ≡ Ok (map g items)
each-all f g [] given = each-nil f
each-all f g (a ∷ items) given = each-ok f a items (g a) (given a) ∙ ap (with_front (g a ∷ [])) (each-all f g items given)

abbrev asked : List ℕ → List ℕ
asked d = map (device_coordinate d) all_coords

numbers_are : (d : List ℕ) → numbers_asked (object (puts (entry_at d) all_coords no_members)) ≡ Ok (asked d)
unfolding numbers_asked
numbers_are d = each-all (number_asked (object (puts (entry_at d) all_coords no_members))) (device_coordinate d) all_coords (asked_at d)

-- ---- and the locale

-- a text that begins with a dash gives none
no_region_alone : (rest : List ℕ) (l : Locale) → locale_of (dash ∷ rest) ≡ Ok l → ⊥
no_region_alone rest l e =
    let region = unwrap_or (region_of rest) no_part in
    let first : position is_dash (dash ∷ rest) ≡ Some 0 = rw (lt-ltb 0 (length (dash ∷ rest)) (omega arith)) refl in
    let read : with_region [] rest ≡ Ok l = sym (ap (cut_at (dash ∷ rest)) first) ∙ e in
    let met = checked_by-ok (with_region_faults [] rest) (Ok (without_script no_part region)) l read in
    let no = met.0.1.0 in
    absurd cc

no_fault : (fault : LocaleFault) (l : Locale) → ◌≡◌ {A = Result Locale LocaleFault} (Err fault) (Ok l) → ⊥
no_fault fault l e = cc

not_false : true ≡ false → ⊥
not_false e = cc

no_locale : (rule : LocaleRule) (rest : List ℕ) (l : Locale) → locale_by rule (dash ∷ rest) ≡ Ok l → ⊥
unfolding locale_by scripted_locale_of
no_locale LanguageAndRegion rest l e = no_region_alone rest l e
no_locale Android rest l e = by_script (written_script (language_part (behind_language (dash ∷ rest)))) e
  where
    likely : (r : Result Locale LocaleFault) → locale_of (dash ∷ rest) ≡ r → (r >>= λ m. Ok (in_likely_script m)) ≡ Ok l → ⊥
    likely (Ok m) read f = no_region_alone rest m read
    likely (Err fault) read f = absurd (no_fault fault l f)

    by_script : (o : Option (List ℕ)) → option_map_or (with_script (dash ∷ rest)) o (with_likely_script (dash ∷ rest)) ≡ Ok l → ⊥
    by_script None f = likely (locale_of (dash ∷ rest)) refl f
    by_script (Some script) f = absurd (not_false (found_in (dash ∷ rest) script l f).given)

-- what has no language and no region has an empty text
shown_is : (l : Locale) (shown : Bool) → shows_script l ≡ shown → locale_text l ≡ (if shown then text_with_script l else plain_text l)
unfolding locale_text
shown_is l shown e = ap (λ (b : Bool). if b then text_with_script l else plain_text l) e

silent : (rule : LocaleRule) (l : Locale) → IsGivenBy rule l → (is_zero l.language && is_zero l.region) ≡ true → locale_text l ≡ []
unfolding plain_text
silent rule l given none = by (shows_script l) refl
  where
    by : (shown : Bool) → shows_script l ≡ shown → locale_text l ≡ []
    by true e =
        let zeros = and_parts (is_zero l.language) (is_zero l.region) none in
        let begins : text_with_script l ≡ dash ∷ (l.script ++ plain_text (region_alone l)) = rw (zeros.0) refl in
        absurd (no_locale rule (l.script ++ plain_text (region_alone l)) l (ap (locale_by rule) (sym (shown_is l true e ∙ begins)) ∙ given))
    by false e =
        let zeros = and_parts (is_zero l.language) (is_zero l.region) none in
        shown_is l false e ∙ rw (zeros.0, zeros.1) refl

text-read : (rule : LocaleRule) (l : Locale) → IsGivenBy rule l → ◌≡◌ {A = Result (List ℕ) DeviceFault} (ok_or (text_or_empty (option_map entry_data (locale_entry l))) Shape) (Ok (locale_text l))
text-read rule l given = elim (cases_Bool (is_zero l.language && is_zero l.region)) [
  | inl none ↦ let wrapped : List ℕ → Result (List ℕ) DeviceFault = λ t. Ok t in rw none (ap wrapped (sym (silent rule l given none)))
  | inr some ↦ rw some refl
]

text_is : (rule : LocaleRule) (d : List ℕ) → IsGivenBy rule (device_locale d) → locale_asked (object (puts (entry_at d) all_coords no_members)) ≡ Ok (locale_text (device_locale d))
unfolding locale_asked
text_is rule d given = ap (λ o. ok_or (text_or_empty o) Shape) (found_at (entry_at d) coords.Locale) ∙ text-read rule (device_locale d) given

number_back : (n : ℕ) → n < 2 ^ 64 → locale_number (locale_of_number n) ≡ n
unfolding locale_number locale_of_number
number_back n small = from_be_bytes-to_be_bytes_8 n small

-- ---- which is the device

inside : (d : List ℕ) → IsDevice d → (c : Coord) → c ≢ coords.Locale → is_outside c (number_at d c) ≡ false
unfolding is_outside
inside d is coords.Density other =
    let some = is.with_density in
    rw (ne_eqb (number_at d coords.Density) 0 (λ e. omega arith), le-ltb (greatest_of_device coords.Density) (number_at d coords.Density) (is.in_range coords.Density other)) refl
inside d is c other = le-ltb (greatest_of_device c) (number_at d c) (is.in_range c other)

asked-number : (d : List ℕ) (c : Coord) → number_at (asked d) c ≡ device_coordinate d c
unfolding all_coords place_of
asked-number d coords.Mcc = refl
asked-number d c = refl

checked : (d : List ℕ) (l : Locale) → IsDevice d → l ≡ device_locale d → (c : Coord) → number_in (asked d) (Ok (locale_number l)) c ≡ Ok (number_at d c)
unfolding number_in device_coordinate
checked d l is same coords.Locale =
    let wrapped : ℕ → Result ℕ DeviceFault = λ m. Ok m in
    ap wrapped (ap locale_number same ∙ number_back (number_at d coords.Locale) is.of_locale)
checked d l is same coords.Density = rw (asked-number d coords.Density, inside d is coords.Density (λ h. cc)) refl
checked d l is same c = rw (asked-number d c, inside d is c (λ h. cc)) refl

is_device : (d : List ℕ) → IsDevice d → device_with (asked d) (Ok (device_locale d)) ≡ Ok d
unfolding device_with
is_device d is =
    let wrapped : List ℕ → Result (List ℕ) DeviceFault = λ ns. Ok ns in
    each-all (number_in (asked d) (Ok (locale_number (device_locale d)))) (number_at d) all_coords (checked d (device_locale d) is refl)
    ∙ ap wrapped (of_coords d is.count)

-- of a value whose members are known
abbrev pub device_of : LocaleRule → Bool → Result (List ℕ) DeviceFault → Result (List ℕ) DeviceFault → Result (List ℕ) DeviceFault
device_of rule only numbers locale = refuse (not only) Shape >>= λ _. numbers >>= λ ns. locale >>= λ t. device_with ns (locale_by rule t)

pub read_of : (rule : LocaleRule) (value : Data) → device_in_value rule value ≡ device_of rule (has_only (map name_of all_coords) value) (numbers_asked value) (locale_asked value)
unfolding device_in_value
read_of rule value = refl

value-back : (rule : LocaleRule) (d : List ℕ) → IsDevice d → IsGivenBy rule (device_locale d) → device_in_value rule (object (puts (entry_at d) all_coords no_members)) ≡ Ok d
value-back rule d is given =
    let value = object (puts (entry_at d) all_coords no_members) in
    read_of rule value
    ∙ ap (λ (only : Bool). device_of rule only (numbers_asked value) (locale_asked value)) (only_coords (entry_at d) all_coords)
    ∙ ap (λ (numbers : Result (List ℕ) DeviceFault). device_of rule true numbers (locale_asked value)) (numbers_are d)
    ∙ ap (λ (read : Result (List ℕ) DeviceFault). device_of rule true (Ok (asked d)) read) (text_is rule d given)
    ∙ ap (device_with (asked d)) given
    ∙ is_device d is

-- by the rule of its locale
pub device_json-back : (rule : LocaleRule) (d : List ℕ) → IsDevice d → IsGivenBy rule (device_locale d) → device_in_json_by rule (device_json d) ≡ Ok d
device_json-back rule d is given = ap (λ o. ok_or o Syntax >>= device_in_value rule) (value_is d is) ∙ value-back rule d is given
