-- What the words of `show` ask, from what the places have to the answer.
use Rattle.std.specs.Prelude.{ℕ, List, Option, Result, Ok}
use Rattle.contract_words.specs.Faults.{◌>>=◌}
use Rattle.notation.specs.declared.form.Form.{Form}
use Rattle.command_base.specs.declared.fault.ToolFault.{ToolFault}
use Rattle.command_base.specs.declared.status.Status.{Status}
use Rattle.command_base.specs.declared.stop.Stop.{Stop}
use Rattle.command_base.specs.CarriesOut.{CarriesOut}
use Rattle.command_base.specs.FilesSeen.{layers_held}
use Rattle.command_base.specs.Inputs.{Places, file_of, layers_of}
use Rattle.command_base.specs.Output.{Output, Prints}
use Rattle.command_base.specs.StackBytes.{LayerBytes}
use Rattle.command_base.specs.Stop.{StopOf}
use Rattle.resource_tool.specs.declared.show.Show.{Show}
use Rattle.resource_tool.specs.declared.show.ShowFiles.{ShowFiles}
use Rattle.resource_tool.specs.ShowOutput.{show_output}

-- ---- the files

-- layers, and the bytes of a certificate
pub record ShowBytes : Type 0 where
  pub layers : List LayerBytes
  pub certificate : List ℕ

abbrev pub show_held : ShowFiles → ShowBytes
show_held files = record { layers = layers_held files.layers; certificate = files.certificate.items }

-- layers and then the certificate
unfoldable pub show_files : Places → List ℕ → List ℕ → Result ShowBytes StopOf
show_files places layers_path certificate_path = do
  layers ← layers_of places layers_path
  certificate ← file_of places certificate_path
  Ok (record { layers = layers; certificate = certificate })

-- ---- the answer

-- what is shown: all trees, or that of the goal of this number as a picture
abbrev pub shown_output : Form → Option ℕ → ShowBytes → Result Output ToolFault
shown_output form pictured files = show_output form pictured files.layers files.certificate

-- from the files, if they are read
abbrev pub ShowsFiles : {W : Type 0} → (W → Option (List ℕ)) → W → W → Form → Option ℕ → Result ShowBytes StopOf → Result Status Stop → Type 0
ShowsFiles contents old new form pictured read result =
    CarriesOut (λ files done. Prints contents old new done (shown_output form pictured files)) read result

-- from what the places have
abbrev pub ShowsTrees : {W : Type 0} → (W → Option (List ℕ)) → W → W → Places → Show → Result Status Stop → Type 0
ShowsTrees contents old new places show result =
    ShowsFiles contents old new show.form show.pictured (show_files places show.layers.now show.certificate.now) result
