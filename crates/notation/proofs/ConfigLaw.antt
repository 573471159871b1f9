-- The text of a record determines its numbers, its locale, its script and its variant.
use Rattle.std.proofs.Common.{◌≡◌, ℕ, zero, suc, ◌+◌, ◌^◌, ◌<◌, ◌==◌, Bool, true, false, if◌then◌else◌, List, [], ◌∷◌, ◌++◌, codes, refl, sym, ap, subst, ◌∙◌, inl, inr, arith}
use Rattle.std.specs.Prelude.{filter}
use Rattle.std.specs.List.{list_all, flat_map}
use Rattle.std.proofs.lemmas.Bool.{cases_Bool, eqb-true}
use Rattle.std.proofs.lemmas.List.{append-nil}
use Rattle.std.proofs.lemmas.List.Concat.{flat_map-append}
use Rattle.std.proofs.lemmas.List.Elements.{filter-append}
use Rattle.hex.specs.Hex.{IsBytes}
use Rattle.config_record.specs.declared.coord.Coord.{Coord}
use Rattle.config_record.specs.declared.coord.Coord.TheVariants as coords
use Rattle.config_record.specs.Coord.{place_of}
use Rattle.config_record.specs.Record.{byte, two_bytes, coordinate, locale_in, locale_script, locale_variant}
use Rattle.notation.specs.LineParts.{line_order}
use Rattle.notation.specs.ConfigText.{parts_at, config_parts, parts_text, config_text}
use Rattle.notation.specs.SameConfig.{IsSameConfig}
use Rattle.notation.proofs.Digits.{filter-all, filter-none, any-none}
use Rattle.notation.proofs.Pieces.{pieces_of, pieces_of-joined}
use Rattle.notation.proofs.PieceKinds.{kind_of}
use Rattle.notation.proofs.NumberPieces.{is_of, owner, number_pieces, number-all, number-same}
use Rattle.notation.proofs.PairPieces.{size_pieces, size-all, size-same, version_pieces, version-all, version-same}
use Rattle.notation.proofs.LocaleTexts.{AreBytes}
use Rattle.notation.proofs.LocalePieces.{all_pieces, IsOfBytes, SameLocale, locale-all, locale-determined}

-- ---- numbers fit

two_fit : (r : List ℕ) (offset : ℕ) → IsBytes r → two_bytes r offset < 2 ^ 64
two_fit r offset is = omega (arith, is offset, is (offset + 1))

fits : (r : List ℕ) → IsBytes r → (c : Coord) → coordinate r c < 2 ^ 64
unfolding coordinate
fits r is coords.Mcc = two_fit r 4 is
fits r is coords.Mnc = two_fit r 6 is
fits r is coords.Locale = omega arith
fits r is coords.LayoutDirection = omega (arith, is 28)
fits r is coords.SmallestWidthDp = two_fit r 30 is
fits r is coords.WidthDp = two_fit r 32 is
fits r is coords.HeightDp = two_fit r 34 is
fits r is coords.ScreenSize = omega (arith, is 28)
fits r is coords.Long = omega (arith, is 28)
fits r is coords.Round = omega (arith, is 48)
fits r is coords.WideColor = omega (arith, is 49)
fits r is coords.Hdr = omega (arith, is 49)
fits r is coords.Orientation = omega (arith, is 12)
fits r is coords.UiType = omega (arith, is 29)
fits r is coords.Night = omega (arith, is 29)
fits r is coords.Density = two_fit r 14 is
fits r is coords.Touchscreen = omega (arith, is 13)
fits r is coords.KeysHidden = omega (arith, is 18)
fits r is coords.NavHidden = omega (arith, is 18)
fits r is coords.Keyboard = omega (arith, is 16)
fits r is coords.Navigation = omega (arith, is 17)
fits r is coords.Width = two_fit r 20 is
fits r is coords.Height = two_fit r 22 is
fits r is coords.Sdk = two_fit r 24 is
fits r is coords.Minor = two_fit r 26 is

locale_fits : (r : List ℕ) → IsBytes r → AreBytes (byte r 8) (byte r 9) (byte r 10) (byte r 11)
locale_fits r is = record { first = is 8; second = is 9; third = is 10; fourth = is 11 }

script_fits : (r : List ℕ) → IsBytes r → IsOfBytes 4 (locale_script r)
script_fits r is = record { long = refl; fit = each }
  where
    each : IsBytes (locale_script r)
    each zero = is 36
    each (suc zero) = is 37
    each (suc (suc zero)) = is 38
    each (suc (suc (suc zero))) = is 39
    each (suc (suc (suc (suc i)))) = omega arith

variant_fits : (r : List ℕ) → IsBytes r → IsOfBytes 8 (locale_variant r)
variant_fits r is = record { long = refl; fit = each }
  where
    each : IsBytes (locale_variant r)
    each zero = is 40
    each (suc zero) = is 41
    each (suc (suc zero)) = is 42
    each (suc (suc (suc zero))) = is 43
    each (suc (suc (suc (suc zero)))) = is 44
    each (suc (suc (suc (suc (suc zero))))) = is 45
    each (suc (suc (suc (suc (suc (suc zero)))))) = is 46
    each (suc (suc (suc (suc (suc (suc (suc zero))))))) = is 47
    each (suc (suc (suc (suc (suc (suc (suc (suc i)))))))) = omega arith

-- ---- the pieces of each coordinate

pieces_at : List ℕ → Coord → List (List ℕ)
pieces_at r c = flat_map pieces_of (parts_at r c)

at_all : (r : List ℕ) → IsBytes r → (c : Coord) → list_all (is_of (place_of c)) (pieces_at r c) ≡ true
unfolding pieces_at parts_at place_of number_pieces size_pieces version_pieces all_pieces locale_in
at_all r is coords.Locale = locale-all (byte r 8) (byte r 9) (byte r 10) (byte r 11) (locale_script r) (locale_variant r) (locale_fits r is) (script_fits r is) (variant_fits r is)
at_all r is coords.Width = size-all (coordinate r coords.Width) (coordinate r coords.Height) (fits r is coords.Width) (fits r is coords.Height)
at_all r is coords.Sdk = version-all (coordinate r coords.Sdk) (coordinate r coords.Minor) (fits r is coords.Sdk) (fits r is coords.Minor)
at_all r is c = number-all c (coordinate r c) (fits r is c)

-- ---- those of a coordinate among all

only : List ℕ → ℕ → Coord → List (List ℕ)
only r place c = if place_of c == place then pieces_at r c else []

other_place : (place other : ℕ) → (other == place) ≡ false → (t : List ℕ) → is_of other t ≡ true → is_of place t ≡ false
other_place place other apart t is = rw (eqb-true (owner (kind_of t)) other is) apart

filter-at : (r : List ℕ) → IsBytes r → (place : ℕ) (c : Coord) → filter (is_of place) (pieces_at r c) ≡ only r place c
unfolding only
filter-at r is place c = elim (cases_Bool (place_of c == place)) [
  | inl here ↦ rw here (subst (λ (k : ℕ). filter (is_of k) (pieces_at r c) ≡ pieces_at r c) (eqb-true (place_of c) place here) (filter-all (is_of (place_of c)) (pieces_at r c) (at_all r is c)))
  | inr other ↦
      rw other (filter-none (is_of place) (pieces_at r c) (any-none (is_of (place_of c)) (is_of place) (pieces_at r c) (other_place place (place_of c) other) (at_all r is c)))
]

filter-pieces : (r : List ℕ) → IsBytes r → (place : ℕ) (cs : List Coord) → filter (is_of place) (flat_map (pieces_at r) cs) ≡ flat_map (only r place) cs
filter-pieces r is place [] = refl
filter-pieces r is place (c ∷ cs) =
    filter-append (is_of place) (pieces_at r c) (flat_map (pieces_at r) cs) ∙ rw (filter-at r is place c, filter-pieces r is place cs) refl

each_part : (r : List ℕ) (cs : List Coord) → flat_map pieces_of (flat_map (parts_at r) cs) ≡ flat_map (pieces_at r) cs
unfolding pieces_at
each_part r [] = refl
each_part r (c ∷ cs) = flat_map-append pieces_of (parts_at r c) (flat_map (parts_at r) cs) ∙ ap (λ (ps : List (List ℕ)). flat_map pieces_of (parts_at r c) ++ ps) (each_part r cs)

default_is_none : (c : Coord) → is_of (place_of c) (codes "(default)") ≡ false
unfolding place_of kind_of
default_is_none coords.Mcc = refl
default_is_none c = refl

of_text : (c : Coord) (parts : List (List ℕ)) → filter (is_of (place_of c)) (pieces_of (parts_text parts)) ≡ filter (is_of (place_of c)) (flat_map pieces_of parts)
of_text c [] = rw (default_is_none c) refl
of_text c (part ∷ parts) = ap (filter (is_of (place_of c))) (pieces_of-joined part parts)

found : (r : List ℕ) → IsBytes r → (c : Coord) → filter (is_of (place_of c)) (pieces_of (config_text r)) ≡ flat_map (only r (place_of c)) line_order
unfolding config_text config_parts
found r is c =
    of_text c (flat_map (parts_at r) line_order)
    ∙ ap (filter (is_of (place_of c))) (each_part r line_order)
    ∙ filter-pieces r is (place_of c) line_order

-- the height stands with the width, the minor version with the version
abbrev is_ordered : Coord → Bool
is_ordered coords.Height = false
is_ordered coords.Minor = false
is_ordered c = true

in_order : (r : List ℕ) (c : Coord) → is_ordered c ≡ true → flat_map (only r (place_of c)) line_order ≡ pieces_at r c
unfolding only line_order place_of
in_order r coords.Height ordered = absurd cc
in_order r coords.Minor ordered = absurd cc
in_order r c ordered = append-nil (pieces_at r c)

same_pieces : (r q : List ℕ) → IsBytes r → IsBytes q → config_text r ≡ config_text q → (c : Coord) → is_ordered c ≡ true → pieces_at r c ≡ pieces_at q c
same_pieces r q is also same c ordered =
    sym (in_order r c ordered) ∙ sym (found r is c)
    ∙ ap (λ (t : List ℕ). filter (is_of (place_of c)) (pieces_of t)) same
    ∙ found q also c ∙ in_order q c ordered

-- ---- the law

size_is : (r q : List ℕ) → IsBytes r → IsBytes q → config_text r ≡ config_text q → (coordinate r coords.Width ≡ coordinate q coords.Width) × (coordinate r coords.Height ≡ coordinate q coords.Height)
unfolding pieces_at parts_at size_pieces
size_is r q is also same =
    size-same (coordinate r coords.Width) (coordinate r coords.Height) (coordinate q coords.Width) (coordinate q coords.Height)
    (fits r is coords.Width) (fits r is coords.Height) (fits q also coords.Width) (fits q also coords.Height)
    (same_pieces r q is also same coords.Width refl)

version_is : (r q : List ℕ) → IsBytes r → IsBytes q → config_text r ≡ config_text q → (coordinate r coords.Sdk ≡ coordinate q coords.Sdk) × (coordinate r coords.Minor ≡ coordinate q coords.Minor)
unfolding pieces_at parts_at version_pieces
version_is r q is also same =
    version-same (coordinate r coords.Sdk) (coordinate r coords.Minor) (coordinate q coords.Sdk) (coordinate q coords.Minor)
    (fits r is coords.Sdk) (fits r is coords.Minor) (fits q also coords.Sdk) (fits q also coords.Minor)
    (same_pieces r q is also same coords.Sdk refl)

no_number : (r : List ℕ) → coordinate r coords.Locale ≡ 0
unfolding coordinate
no_number r = refl

number_is : (r q : List ℕ) → IsBytes r → IsBytes q → config_text r ≡ config_text q → (c : Coord) → coordinate r c ≡ coordinate q c
unfolding pieces_at parts_at number_pieces
number_is r q is also same coords.Locale = no_number r ∙ sym (no_number q)
number_is r q is also same coords.Width = (size_is r q is also same).0
number_is r q is also same coords.Height = (size_is r q is also same).1
number_is r q is also same coords.Sdk = (version_is r q is also same).0
number_is r q is also same coords.Minor = (version_is r q is also same).1
number_is r q is also same c = number-same c (coordinate r c) (coordinate q c) (fits r is c) (fits q also c) (same_pieces r q is also same c refl)

locale_is : (r q : List ℕ) → IsBytes r → IsBytes q → config_text r ≡ config_text q
    → SameLocale (locale_in r) (locale_in q) (locale_script r) (locale_script q) (locale_variant r) (locale_variant q)
unfolding pieces_at parts_at all_pieces locale_in
locale_is r q is also same =
    locale-determined (byte r 8) (byte r 9) (byte r 10) (byte r 11) (byte q 8) (byte q 9) (byte q 10) (byte q 11)
    (locale_script r) (locale_variant r) (locale_script q) (locale_variant q)
    (locale_fits r is) (locale_fits q also) (script_fits r is) (variant_fits r is) (script_fits q also) (variant_fits q also)
    (same_pieces r q is also same coords.Locale refl)

pub told : (r q : List ℕ) → IsBytes r → IsBytes q → config_text r ≡ config_text q → IsSameConfig r q
told r q is also same =
    let said = locale_is r q is also same in
    record { numbers = number_is r q is also same; locale = said.locale; script = said.script; variant = said.variant }
