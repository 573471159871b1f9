-- The rows of a bag, and those that one of two bags alone has, a line each.
use Rattle.std.specs.Prelude.{ℕ, List, [], ◌∷◌, ◌++◌, codes}
use Rattle.notation.specs.declared.form.Form.{Form}
use Rattle.answer_text.specs.Content.{RowContentOf}
use Rattle.answer_text.specs.InForm.{key_in, row_value_in}
use Rattle.stack_diff.specs.names.Packages.{PackageNameOf}

-- the line `KEY VALUE` of a row, behind these words
unfoldable pub row_behind : List ℕ → Form → List PackageNameOf → RowContentOf → List ℕ
row_behind words form packages row = words ++ key_in form packages row.key ++ codes " " ++ row_value_in form packages row.key row.value ++ 10 ∷ []

-- the line `  removed KEY VALUE`
abbrev pub removed_row : Form → List PackageNameOf → RowContentOf → List ℕ
removed_row = row_behind (codes "  removed ")

-- the line `  added KEY VALUE`
abbrev pub added_row : Form → List PackageNameOf → RowContentOf → List ℕ
added_row = row_behind (codes "  added ")

-- the line `  KEY VALUE`
abbrev pub value_row : Form → List PackageNameOf → RowContentOf → List ℕ
value_row = row_behind (codes "  ")
