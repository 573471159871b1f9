-- What a resource says, as it stands on one side of an arrow, or behind its label.
use Rattle.std.specs.Prelude.{ℕ, List, [], ◌++◌, codes}
use Rattle.notation.specs.declared.form.Form.{Form}
use Rattle.answer_text.specs.Content.{ContentOf, ValueOf, BagOf, AbsentOf, TooManyReferencesOf, TooManyParentsOf}
use Rattle.answer_text.specs.InForm.{value_in}
use Rattle.stack_diff.specs.names.LabelText.{label_text}
use Rattle.stack_diff.specs.names.Packages.{PackageNameOf}

-- a value by its text; the rows of a bag have lines of their own
unfoldable pub content_text : Form → List PackageNameOf → ContentOf → List ℕ
content_text form packages (ValueOf value) = value_in form packages value
content_text form packages (BagOf rows) = codes "bag"
content_text form packages (AbsentOf label) = codes "absent " ++ label_text packages label
content_text form packages (TooManyReferencesOf label) = codes "too many references " ++ label_text packages label
content_text form packages (TooManyParentsOf label) = codes "too many parents " ++ label_text packages label

-- ` CONTENT` behind a label; nothing for a bag
unfoldable pub content_behind : Form → List PackageNameOf → ContentOf → List ℕ
content_behind form packages (BagOf rows) = []
content_behind form packages content = codes " " ++ content_text form packages content
