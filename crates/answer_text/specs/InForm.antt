-- What values and the keys of rows say, in either form.
use Rattle.std.specs.Prelude.{ℕ, List}
use Rattle.notation.specs.declared.form.Form.{Form}
use Rattle.notation.specs.declared.form.Form.TheVariants.{Android, Raw}
use Rattle.names.specs.Packages.{PackageNameOf}
use Rattle.answer_text.specs.Content.{ValueContentOf, RowKeyOf}
use Rattle.answer_text.specs.ValueText.{value_content_text, key_text}
use Rattle.answer_text.specs.ValueNotation.{value_notation, key_notation, row_notation}

unfoldable pub value_in : Form → List PackageNameOf → ValueContentOf → List ℕ
value_in Android packages value = value_notation packages value
value_in Raw packages value = value_content_text packages value

unfoldable pub key_in : Form → List PackageNameOf → RowKeyOf → List ℕ
key_in Android packages key = key_notation packages key
key_in Raw packages key = key_text packages key

-- the value of a row
unfoldable pub row_value_in : Form → List PackageNameOf → RowKeyOf → ValueContentOf → List ℕ
row_value_in Android packages key value = row_notation packages key value
row_value_in Raw packages key value = value_content_text packages value
