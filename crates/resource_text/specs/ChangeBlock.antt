-- How two resources differ, as a block of lines, or as JSON.
use Rattle.std.specs.Prelude.{ℕ, List}
use Rattle.serde_json.specs.Written.{compact_text}
use Rattle.stack_diff.specs.config_box.box_answers.NumberSet.{SetOf}
use Rattle.stack_diff.specs.Difference.{DifferenceOf}
use Rattle.stack_diff.specs.names.Packages.{PackageNameOf}
use Rattle.resource_text.specs.declared.line_form.LineForm.{LineForm}
use Rattle.resource_text.specs.declared.line_form.LineForm.TheVariants.{Text, Json}
use Rattle.resource_text.specs.ChangeJson.{change_data}
use Rattle.resource_text.specs.DifferenceText.{difference_text}

unfoldable pub change_block : LineForm → List PackageNameOf → DifferenceOf → List SetOf → List SetOf → List ℕ
change_block (Text form) packages difference whole part = difference_text form packages difference whole part
change_block Json packages difference whole part = compact_text (change_data packages difference whole part)
