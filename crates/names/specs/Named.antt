-- What a word asks where one resource may stand: an id, `0x7f010000`, or a name, `[PACKAGE:]TYPE/ENTRY`, which may have an `@`
-- before it, as in XML, where its type is one of Android's.
use Rattle.std.specs.Prelude.{ℕ, ◌==◌, ◌&&◌, ◌||◌, not, nat_lt, Bool, if◌then◌else◌, List, [], ◌∷◌, length, Option, Some, None}
use Rattle.std.specs.List.{list_any, before_first, after_first}
use Rattle.std.specs.Option.{option_and_then, option_map, option_or}
use Rattle.res_value.specs.declared.res_id.ResId.{ResId}
use Rattle.res_value.specs.ResId.{id_of}
use Rattle.names.specs.declared.named.Named.{Named}
use Rattle.names.specs.declared.named.Named.TheVariants.{Id, Name}
use Rattle.names.specs.declared.type_word.TypeWord.{TypeWord}
use Rattle.names.specs.AndroidTypes.{is_android_type}
use Rattle.names.specs.PackageWord.{PackageWordOf, package_word_of, package_word_in}

-- a resource, by its id, or by the names of its type and its entry, in a package where one is named
pub data NamedOf : Type 0 where
  ById : ResId → NamedOf
  ByName : Option PackageWordOf → List ℕ → List ℕ → NamedOf

abbrev pub named_of : Named → NamedOf
named_of (Id id) = ById id
named_of (Name in_package type_name entry_name) = ByName (option_map package_word_of in_package) type_name.now entry_name.now

-- ---- the parts of a name

-- '/', between a type and its entry
abbrev pub is_slash : ℕ → Bool
is_slash b = b == 47

-- ':', between a package and a type
abbrev pub is_colon : ℕ → Bool
is_colon b = b == 58

-- '*', ',' and '@', which no name has
abbrev pub is_of_no_name : ℕ → Bool
is_of_no_name b = b == 42 || b == 44 || b == 64

-- a text that can be a part of a name
abbrev pub is_part : List ℕ → Bool
is_part text = nat_lt 0 (length text) && not (list_any is_of_no_name text)

-- what stands before the slash
pub record TypeWordOf : Type 0 where
  pub in_package : Option PackageWordOf
  pub type_name : List ℕ

abbrev pub type_word_of : TypeWord → TypeWordOf
type_word_of word = record { in_package = option_map package_word_of word.package; type_name = word.type_name.now }

abbrev pub type_alone : List ℕ → Option TypeWordOf
type_alone type_name = if is_part type_name then Some (record { in_package = None; type_name = type_name }) else None

abbrev pub type_in_package : List ℕ → List ℕ → Option TypeWordOf
type_in_package in_package type_name =
    if is_part in_package && is_part type_name
    then Some (record { in_package = Some (package_word_in in_package); type_name = type_name })
    else None

-- `TYPE`, or `PACKAGE:TYPE`, parted by the first colon
unfoldable pub type_word_in : List ℕ → Option TypeWordOf
type_word_in text =
    if list_any is_colon text then type_in_package (before_first is_colon text) (after_first is_colon text) else type_alone text

-- ---- names

abbrev pub entry_of_type : TypeWordOf → List ℕ → Option NamedOf
entry_of_type of_type entry_name = if is_part entry_name then Some (ByName of_type.in_package of_type.type_name entry_name) else None

-- `[PACKAGE:]TYPE/ENTRY`, parted by the first slash
unfoldable pub name_in : List ℕ → Option NamedOf
name_in word = option_and_then (λ of_type. entry_of_type of_type (after_first is_slash word)) (type_word_in (before_first is_slash word))

-- a name whose type is one of Android's
abbrev pub of_android_type : NamedOf → Option NamedOf
of_android_type (ById id) = None
of_android_type (ByName in_package type_name entry_name) =
    if is_android_type type_name then Some (ByName in_package type_name entry_name) else None

-- the same text where it stands behind an `@`
unfoldable pub xml_name_in : List ℕ → Option NamedOf
xml_name_in text = option_and_then of_android_type (name_in text)

-- what stands behind the `@` that a word begins with
abbrev pub behind_sign : List ℕ → Option (List ℕ)
behind_sign [] = None
behind_sign (byte ∷ text) = if byte == 64 then Some text else None

-- the name that a word is, if it does not begin with `@`, or that stands behind the `@`
abbrev pub with_or_without_sign : List ℕ → Option (List ℕ) → Option NamedOf
with_or_without_sign word None = name_in word
with_or_without_sign word (Some text) = xml_name_in text

-- ---- words

-- an id, or else a name
unfoldable pub named_in : List ℕ → Option NamedOf
named_in word = option_or (option_map (λ id. ById id) (id_of word)) (with_or_without_sign word (behind_sign word))
