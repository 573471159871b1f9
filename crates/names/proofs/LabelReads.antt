-- What is printed of a name without quotes is read as that name.
use Rattle.std.proofs.Common.{◌≡◌, ℕ, zero, suc, ◌^◌, ◌<◌, ◌==◌, ◌&&◌, ◌||◌, not, Bool, true, false, cond, List, [], ◌∷◌, ◌++◌, length, nat_lt, codes, find, Option, Some, None, is_none, option_and_then, refl, sym, ap, ◌∙◌, append_assoc, arith}
use Rattle.std.proofs.lemmas.Bool.{and_parts}
use Rattle.std.proofs.lemmas.Bool.Decides.{nat_tests}
use Rattle.std.proofs.lemmas.List.Folds.{list_any-append}
use Rattle.std.specs.List.{list_all, list_any}
use Rattle.std.specs.Option.{option_map_or}
use Rattle.bstr.specs.Utf8.{lossy_chars}
use Rattle.hex.specs.Hex.{IsBytes, encode_lower, lower_digits}
use Rattle.hex.proofs.HexLemmas.{decode_sized-encode_lower}
use Rattle.names.specs.LabelReads.{NameReadsBack, has_quote}
use Rattle.names.specs.LabelText.{app_package, bare_or_quoted, full_name_text, is_apps, is_bare_type, package_before, parts_text}
use Rattle.names.specs.Named.{ByName, behind_sign, is_colon, is_of_no_name, is_part, is_slash, name_in, named_in, type_word_in}
use Rattle.names.specs.PackageWord.{PackageWordOf, Called, Numbered, number_in, package_word_in}
use Rattle.names.specs.Packages.{PackageNameOf}
use Rattle.names.specs.Plain.{breaks_line, is_misread, is_plain}
use Rattle.names.specs.Quoted.{quoted_text}
use Rattle.names.specs.WordText.{before_type, can_name, is_told, name_text, number_text, package_told, package_word_for, package_word_text}
use Rattle.names.proofs.Cuts.{Lacks, after-at, any-at, before-at, encoded-lacks, neither}
use Rattle.names.proofs.NoIds.{no-id}

-- ---- the word of a package

-- the text of a word is read as the word, before a colon
record IsPackageText (word : PackageWordOf) : Type 0 where
  part : is_part (package_word_text word) ≡ true
  no_colon : Lacks is_colon (package_word_text word)
  no_slash : Lacks is_slash (package_word_text word)
  back : package_word_in (package_word_text word) ≡ word

filled : (b : ℕ) (text : List ℕ) → nat_lt 0 (length (b ∷ text)) ≡ true
filled b text = grind (arith, nat_tests)

both : (a b : Bool) → a ≡ true → b ≡ false → (a && not b) ≡ true
both true false p q = refl
both true true p q = absurd cc
both false b p q = absurd cc

is-bytes : (n : ℕ) → n < 2 ^ 8 → IsBytes (n ∷ [])
is-bytes n fits zero = fits
is-bytes n fits (suc i) = omega arith

numbered : (n : ℕ) → n < 2 ^ 8 → IsPackageText (Numbered n)
unfolding package_word_in number_in
numbered n fits = record {
  part = both (nat_lt 0 (length (number_text n))) (list_any is_of_no_name (number_text n)) (filled 48 (120 ∷ encode_lower (n ∷ [])))
      (encoded-lacks is_of_no_name lower_digits (n ∷ []) refl refl);
  no_colon = encoded-lacks is_colon lower_digits (n ∷ []) refl refl;
  no_slash = encoded-lacks is_slash lower_digits (n ∷ []) refl refl;
  back = rw (decode_sized-encode_lower (n ∷ []) 1 refl (is-bytes n fits)) refl;
}

is-not : (b : Bool) → not b ≡ true → b ≡ false
is-not true e = absurd cc
is-not false e = refl

is-none : {A : Type 0} (o : Option A) → is_none o ≡ true → o ≡ None
is-none None e = refl
is-none (Some x) e = absurd cc

plain-part : (name : List ℕ) → is_plain name ≡ true → is_part name ≡ true
plain-part name plain =
    (and_parts (is_part name) (not (list_any is_misread name)) (and_parts (is_part name && not (list_any is_misread name)) (not (list_any breaks_line (lossy_chars name))) plain).0).0

called : (name : List ℕ) → can_name name ≡ true → IsPackageText (Called name)
unfolding package_word_in
called name can =
    let both = and_parts (is_plain name && not (list_any is_colon name) && not (list_any is_slash name)) (is_none (number_in name)) can in
    let parted = and_parts (is_plain name && not (list_any is_colon name)) (not (list_any is_slash name)) both.0 in
    let plain = and_parts (is_plain name) (not (list_any is_colon name)) parted.0 in
    let word : PackageWordOf = Called name in
    record {
      part = plain-part name plain.0;
      no_colon = is-not (list_any is_colon name) plain.1;
      no_slash = is-not (list_any is_slash name) parted.1;
      back = ap (λ (o : Option ℕ). option_map_or (λ number. Numbered number) o word) (is-none (number_in name) both.1);
    }

told : (packages : List PackageNameOf) (n : ℕ) (name : List ℕ) → n < 2 ^ 8 → IsPackageText (package_told packages n name)
unfolding package_told
told packages n name fits = by (can_name name) refl (list_all (is_told name n) packages)
  where
    by : (can : Bool) → can_name name ≡ can → (alone : Bool) → IsPackageText (cond (can && alone) (Called name) (Numbered n))
    by true can true = called name can
    by true can false = numbered n fits
    by false can alone = numbered n fits

word-for : (packages : List PackageNameOf) (n : ℕ) → n < 2 ^ 8 → IsPackageText (package_word_for packages n)
unfolding package_word_for
word-for packages n fits = by (option_and_then (λ found. found.name) (find (λ found. found.number == n) packages))
  where
    by : (name : Option (List ℕ)) → IsPackageText (option_map_or (package_told packages n) name (Numbered n))
    by None = numbered n fits
    by (Some name) = told packages n name fits

-- what stands before the type
data IsBefore : Option PackageWordOf → Type 0 where
  nothing : IsBefore None
  a_word : {word : PackageWordOf} → IsPackageText word → IsBefore (Some word)

before-is : (packages : List PackageNameOf) (n : ℕ) → n < 2 ^ 8 → IsBefore (package_before packages n)
unfolding package_before
before-is packages n fits = by (n == app_package && list_all is_apps packages)
  where
    by : (apps : Bool) → IsBefore (cond apps None (Some (package_word_for packages n)))
    by true = nothing
    by false = a_word (word-for packages n fits)

-- ---- the type

-- what stands before the slash is read as the type in the package
record IsTypeText (in_package : Option PackageWordOf) (type_name : List ℕ) : Type 0 where
  no_slash : Lacks is_slash (before_type in_package ++ type_name)
  no_sign : (others : List ℕ) → behind_sign ((before_type in_package ++ type_name) ++ others) ≡ None
  back : type_word_in (before_type in_package ++ type_name) ≡ Some (record { in_package = in_package; type_name = type_name })

no-sign : (text others : List ℕ) → is_part text ≡ true → behind_sign (text ++ others) ≡ None
no-sign [] others part = absurd cc
no-sign (b ∷ text) others part =
    let lacks = is-not (list_any is_of_no_name (b ∷ text)) (and_parts (nat_lt 0 (length (b ∷ text))) (not (list_any is_of_no_name (b ∷ text))) part).1 in
    let here = neither (is_of_no_name b) (list_any is_of_no_name text) lacks in
    let sign = neither (b == 42 || b == 44) (b == 64) here.0 in
    let behind : Option (List ℕ) = Some (text ++ others) in
    ap (λ (s : Bool). cond s behind None) sign.1

type-is : (in_package : Option PackageWordOf) (type_name : List ℕ) → IsBefore in_package → is_bare_type in_package type_name ≡ true → IsTypeText in_package type_name
unfolding type_word_in
type-is None type_name nothing bare =
    let both = and_parts (is_plain type_name && not (list_any is_slash type_name)) (not (list_any is_colon type_name)) bare in
    let plain = and_parts (is_plain type_name) (not (list_any is_slash type_name)) both.0 in
    let part = plain-part type_name plain.0 in
    record {
      no_slash = is-not (list_any is_slash type_name) plain.1;
      no_sign = λ others. no-sign type_name others part;
      back = rw (is-not (list_any is_colon type_name) both.1, part) refl;
    }
type-is (Some word) type_name (a_word is) bare =
    let text = package_word_text word in
    let plain = and_parts (is_plain type_name) (not (list_any is_slash type_name)) (and_parts (is_plain type_name && not (list_any is_slash type_name)) true bare).0 in
    let part = plain-part type_name plain.0 in
    let spelled : (text ++ codes ":") ++ type_name ≡ text ++ 58 ∷ type_name = append_assoc text (codes ":") type_name in
    record {
      no_slash = ap (list_any is_slash) spelled ∙ list_any-append is_slash text (58 ∷ type_name)
          ∙ rw (is.no_slash, is-not (list_any is_slash type_name) plain.1) refl;
      no_sign = λ others. ap (λ (front : List ℕ). behind_sign (front ++ others)) spelled ∙ ap behind_sign (append_assoc text (58 ∷ type_name) others)
          ∙ no-sign text ((58 ∷ type_name) ++ others) is.part;
      back = rw (
        spelled,
        any-at is_colon text type_name 58 refl,
        before-at is_colon text type_name 58 refl is.no_colon refl,
        after-at is_colon text type_name 58 refl is.no_colon refl,
        is.part,
        part,
        is.back,
      ) refl;
    }

-- ---- the name

-- a word whose parts are bare is read as its name
front-back : (in_package : Option PackageWordOf) (type_name entry_name : List ℕ) → IsTypeText in_package type_name → is_part entry_name ≡ true
    → named_in ((before_type in_package ++ type_name) ++ 47 ∷ entry_name) ≡ Some (ByName in_package type_name entry_name)
unfolding named_in name_in
front-back in_package type_name entry_name is part =
    let front = before_type in_package ++ type_name in
    rw (
      no-id front entry_name,
      is.no_sign (47 ∷ entry_name),
      before-at is_slash front entry_name 47 refl is.no_slash refl,
      after-at is_slash front entry_name 47 refl is.no_slash refl,
      is.back,
      part,
    ) refl

word-back : (in_package : Option PackageWordOf) (type_name entry_name : List ℕ) → IsBefore in_package → is_bare_type in_package type_name ≡ true → is_plain entry_name ≡ true
    → named_in (name_text in_package type_name entry_name) ≡ Some (ByName in_package type_name entry_name)
word-back in_package type_name entry_name before bare plain =
    let before_word = before_type in_package in
    let spelled : name_text in_package type_name entry_name ≡ (before_word ++ type_name) ++ 47 ∷ entry_name =
    ap (λ (behind : List ℕ). before_word ++ behind) (append_assoc type_name (codes "/") entry_name) ∙ sym (append_assoc before_word type_name (47 ∷ entry_name)) in
    ap named_in spelled ∙ front-back in_package type_name entry_name (type-is in_package type_name before bare) (plain-part entry_name plain)

-- ---- quotes

abbrev is_quote : ℕ → Bool
is_quote byte = byte == 0x22

bare-or : (bare : Bool) (name : List ℕ) → has_quote (bare_or_quoted bare name) ≡ false → bare ≡ true
unfolding bare_or_quoted quoted_text
bare-or true name none = refl
bare-or false name none = absurd cc

parts-bare : (in_package : Option PackageWordOf) (type_name entry_name : List ℕ) → has_quote (parts_text in_package type_name entry_name) ≡ false
    → (is_bare_type in_package type_name ≡ true) × (is_plain entry_name ≡ true)
unfolding parts_text
parts-bare in_package type_name entry_name none =
    let type_text = bare_or_quoted (is_bare_type in_package type_name) type_name in
    let entry_text = bare_or_quoted (is_plain entry_name) entry_name in
    let both = neither (has_quote (type_text ++ codes "/")) (has_quote entry_text) (sym (list_any-append is_quote (type_text ++ codes "/") entry_text) ∙ none) in
    let front = neither (has_quote type_text) (has_quote (codes "/")) (sym (list_any-append is_quote type_text (codes "/")) ∙ both.0) in
    (bare-or (is_bare_type in_package type_name) type_name front.0, bare-or (is_plain entry_name) entry_name both.1)

parts-spelled : (in_package : Option PackageWordOf) (type_name entry_name : List ℕ) → is_bare_type in_package type_name ≡ true → is_plain entry_name ≡ true
    → before_type in_package ++ parts_text in_package type_name entry_name ≡ name_text in_package type_name entry_name
unfolding parts_text bare_or_quoted
parts-spelled in_package type_name entry_name bare plain = rw (bare, plain) refl

pub name-back : NameReadsBack
unfolding full_name_text
name-back packages name fits none =
    let in_package = package_before packages name.package_id in
    let both =
    neither (has_quote (before_type in_package)) (has_quote (parts_text in_package name.type_name name.entry_name))
    (sym (list_any-append is_quote (before_type in_package) (parts_text in_package name.type_name name.entry_name)) ∙ none) in
    let bare = parts-bare in_package name.type_name name.entry_name both.1 in
    ap named_in (parts-spelled in_package name.type_name name.entry_name bare.0 bare.1)
    ∙ word-back in_package name.type_name name.entry_name (before-is packages name.package_id fits) bare.0 bare.1
