-- What the command `show` prints.
use Rattle.std.specs.Prelude.{ℕ, List, slice_get, Option, Some, None, Result, Ok}
use Rattle.contract_words.specs.Faults.{◌>>=◌}
use Rattle.notation.specs.declared.form.Form.{Form}
use Rattle.command_base.specs.overlay_map.Layer.{LayerOf}
use Rattle.command_base.specs.declared.fault.ToolFault.{ToolFault}
use Rattle.command_base.specs.ToolFault.{fault_of_certificate}
use Rattle.command_base.specs.declared.status.Status.TheVariants.{Done, Negative}
use Rattle.command_base.specs.Output.{Output}
use Rattle.command_base.specs.StackBytes.{LayerBytes, stack_in}
use Rattle.command_base.specs.MapErr.{map_err}
use Rattle.command_base.specs.answer_text.OnLine.{on_line}
use Rattle.command_base.specs.answer_text.config_record.locales.declared.locale_rule.LocaleRule.TheVariants.{Android}
use Rattle.command_base.specs.cert_tree.Certificate.{GoalOf}
use Rattle.command_base.specs.cert_tree.CertJson.{cert_in_by}
use Rattle.resource_tool.specs.TreeText.{certificate_text}
use Rattle.resource_tool.specs.DotText.{dot_text, no_goal_line}

-- layers, and a certificate's goals with their trees
pub record ShowInputs : Type 0 where
  pub stack : List LayerOf
  pub trees : List GoalOf

-- What these layers and a certificate's text mean, or the first fault. The layers are read before the certificate. It does not
-- say by which rule it was made, so its locales are read as a phone compares them: the texts of the other rule are read so too.
unfoldable pub show_inputs : List LayerBytes → List ℕ → Result ShowInputs ToolFault
show_inputs layers cert_json = do
  stack ← stack_in layers
  trees ← map_err fault_of_certificate (cert_in_by Android cert_json)
  Ok (record { stack = stack; trees = trees })

-- What `show` prints of layers and a certificate that were read, in a form: it is done.
abbrev pub show_answer : Form → ShowInputs → Output
show_answer form inputs = record { status = Done; text = on_line (certificate_text form inputs.stack inputs.trees) }

-- ---- a picture

-- that of a goal by its number, or that there is no such goal
abbrev pub picture : Form → List LayerOf → ℕ → Option GoalOf → Output
picture form stack number None = record { status = Negative; text = no_goal_line number }
picture form stack number (Some goal) = record { status = Done; text = dot_text form stack number goal }

-- What `show --dot` prints of layers and a certificate that were read, for the goal of this number, counted from 0.
abbrev pub show_dot_answer : Form → ShowInputs → ℕ → Output
show_dot_answer form inputs number = picture form inputs.stack number (slice_get inputs.trees number)

-- ---- either

-- all trees, or that of the goal of this number as a picture
abbrev pub shown : Form → Option ℕ → ShowInputs → Output
shown form None inputs = show_answer form inputs
shown form (Some number) inputs = show_dot_answer form inputs number

-- What is printed of these layers and a certificate's text.
unfoldable pub show_output : Form → Option ℕ → List LayerBytes → List ℕ → Result Output ToolFault
show_output form pictured layers cert_json = do
  inputs ← show_inputs layers cert_json
  Ok (shown form pictured inputs)
