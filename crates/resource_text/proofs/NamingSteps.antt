-- How the row of a bag is written, by the packages of a stack.
use Rattle.std.proofs.Common.{◌≡◌, List, ◌++◌, ℕ, Option, Result, ap, subst, ◌∙◌}
use Rattle.std.proofs.KnownBytes.{Appends-trans}
use Rattle.std.proofs.lemmas.Result.{on_ok_weaker}
use Rattle.std.specs.Io.KnownBytes.{Appends}
use Rattle.std.specs.Prelude.{codes}
use Rattle.std.specs.Result.{OnOk}
use Rattle.names.specs.NamedIds.{packages_of}
use Rattle.names.specs.Packages.{PackageNameOf}
use Rattle.answer_text.specs.Content.{RowKeyOf, ValueContentOf}
use Rattle.answer_text.specs.ValueNotation.{key_notation, row_notation}
use Rattle.resource_text.specs.Naming.{NamingOf, key_and_value}

pub row-written : {T E : Type 0} (result : Result T E) (old a b new : Option (List ℕ)) (naming : NamingOf) (packages : List PackageNameOf) (key : RowKeyOf) (value meant : ValueContentOf) → packages ≡ packages_of naming.stack
    → value ≡ meant → Appends old a (key_notation packages key) → Appends a b (codes " ") → OnOk result (Appends b new (row_notation packages key value)) → OnOk result (Appends old new (key_and_value naming key meant))
unfolding key_and_value
row-written result old a b new naming packages key value meant packages_is value_is of_key space of_row =
    let text = λ (ps : List PackageNameOf) (v : ValueContentOf). (key_notation ps key ++ codes " ") ++ row_notation ps key v in
    let same = ap (λ (v : ValueContentOf). text packages v) value_is ∙ ap (λ (ps : List PackageNameOf). text ps meant) packages_is in
    on_ok_weaker result (λ last. subst (λ (t : List ℕ). Appends old new t) same (Appends-trans _ _ _ _ _ (Appends-trans _ _ _ _ _ of_key space) last)) of_row
