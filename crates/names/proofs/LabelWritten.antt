-- How a name is written, one part after the other.
use Rattle.std.proofs.Common.{◌≡◌, ℕ, Bool, List, ◌++◌, Option, Result, ap, subst, ◌∙◌}
use Rattle.std.proofs.KnownBytes.{Appends-trans}
use Rattle.std.proofs.lemmas.Result.{on_ok_weaker}
use Rattle.std.specs.Io.KnownBytes.{Appends}
use Rattle.std.specs.Prelude.{codes}
use Rattle.std.specs.Result.{OnOk}
use Rattle.names.specs.LabelText.{bare_or_quoted, full_name_text, is_bare_type, package_before, parts_text}
use Rattle.names.specs.PackageWord.{PackageWordOf}
use Rattle.names.specs.Packages.{PackageNameOf}
use Rattle.names.specs.Plain.{is_plain}
use Rattle.names.specs.WordText.{before_type}

pub name-written : {T E : Type 0} (result : Result T E) (old a b d new : Option (List ℕ)) (packages : List PackageNameOf) (number : ℕ) (type_name entry_name : List ℕ) (word : Option PackageWordOf) (bare plain : Bool)
    → word ≡ package_before packages number → bare ≡ is_bare_type word type_name → plain ≡ is_plain entry_name → Appends old a (before_type word) → Appends a b (bare_or_quoted bare type_name)
    → Appends b d (codes "/") → OnOk result (Appends d new (bare_or_quoted plain entry_name))
    → OnOk result (Appends old new (full_name_text packages (record { package_id = number; type_name = type_name; entry_name = entry_name })))
unfolding full_name_text parts_text
name-written result old a b d new packages number type_name entry_name word bare plain word_is bare_is plain_is in_package of_type slash last =
    let text = λ (word : Option PackageWordOf) (bare plain : Bool). before_type word ++ ((bare_or_quoted bare type_name ++ codes "/") ++ bare_or_quoted plain entry_name) in
    let same =
    ap (λ (bare : Bool). text word bare plain) bare_is
    ∙ ap (λ (plain : Bool). text word (is_bare_type word type_name) plain) plain_is
    ∙ ap (λ (word : Option PackageWordOf). text word (is_bare_type word type_name) (is_plain entry_name)) word_is in
    on_ok_weaker result
    (λ entry. subst (λ (t : List ℕ). Appends old new t) same (Appends-trans _ _ _ _ _ in_package (Appends-trans _ _ _ _ _ (Appends-trans _ _ _ _ _ of_type slash) entry)))
    last
