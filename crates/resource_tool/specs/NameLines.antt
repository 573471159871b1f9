-- The lines of names that one stack alone has, and of those that say the same in both.
use Rattle.std.specs.Prelude.{ℕ, List, [], ◌∷◌, ◌++◌, codes}
use Rattle.std.specs.Fmt.{decimal}
use Rattle.stack_diff.specs.names.Label.{LabelOf}
use Rattle.stack_diff.specs.names.LabelText.{label_text}
use Rattle.stack_diff.specs.names.Packages.{PackageNameOf}

-- the line `added LABEL`
unfoldable pub added_line : List PackageNameOf → LabelOf → List ℕ
added_line packages label = codes "added " ++ label_text packages label ++ 10 ∷ []

-- the line `removed LABEL`
unfoldable pub removed_line : List PackageNameOf → LabelOf → List ℕ
removed_line packages label = codes "removed " ++ label_text packages label ++ 10 ∷ []

-- the line `same N`
unfoldable pub same_line : ℕ → List ℕ
same_line count = codes "same " ++ decimal count ++ 10 ∷ []
