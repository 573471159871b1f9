-- What is printed of a name without quotes is the word that asks for it.
use Rattle.std.specs.Prelude.{◌≡◌, ℕ, ◌^◌, ◌<◌, ◌==◌, Bool, false, List, Some}
use Rattle.std.specs.List.{list_any}
use Rattle.names.specs.Label.{FullNameOf}
use Rattle.names.specs.LabelText.{full_name_text, package_before}
use Rattle.names.specs.Named.{ByName, named_in}
use Rattle.names.specs.Packages.{PackageNameOf}

abbrev pub has_quote : List ℕ → Bool
has_quote text = list_any (λ byte. byte == 0x22) text

-- it is read as that name, in a package whose number is a byte
abbrev pub NameReadsBack : Type 0
NameReadsBack =
    (packages : List PackageNameOf) (name : FullNameOf) → name.package_id < 2 ^ 8 → has_quote (full_name_text packages name) ≡ false
    → named_in (full_name_text packages name) ≡ Some (ByName (package_before packages name.package_id) name.type_name name.entry_name)
