-- What the words of `survey` ask, from what the places have to the answer.
use Rattle.std.specs.Prelude.{ℕ, List, Option, option_map, Result, Ok}
use Rattle.contract_words.specs.Faults.{◌>>=◌}
use Rattle.command_base.specs.declared.fault.ToolFault.{ToolFault}
use Rattle.command_base.specs.declared.status.Status.{Status}
use Rattle.command_base.specs.declared.stop.Stop.{Stop}
use Rattle.command_base.specs.CarriesOut.{CarriesOut}
use Rattle.command_base.specs.FilesSeen.{bytes_of, layers_held, paths_held}
use Rattle.command_base.specs.Inputs.{Places, file_of, layers_of, paths_of_layers, where_given}
use Rattle.command_base.specs.Output.{Output, Prints}
use Rattle.command_base.specs.StackBytes.{LayerBytes}
use Rattle.command_base.specs.Stop.{StopOf}
use Rattle.resource_tool.specs.declared.survey.Survey.{Survey}
use Rattle.resource_tool.specs.declared.survey.SurveyFiles.{SurveyFiles}
use Rattle.resource_tool.specs.SurveyOutput.{survey_output_by}

-- ---- the files

-- layers with the paths of their tables, and the bytes of a box, if one is named
pub record SurveyBytes : Type 0 where
  pub layers : List LayerBytes
  pub paths : List (List ℕ)
  pub box_json : Option (List ℕ)

abbrev pub survey_held : SurveyFiles → SurveyBytes
survey_held files = record { layers = layers_held files.layers; paths = paths_held files.layers; box_json = option_map bytes_of files.box_json }

-- layers and then the box
unfoldable pub survey_files : Places → List ℕ → Option (List ℕ) → Result SurveyBytes StopOf
survey_files places layers_path box_path = do
  layers ← layers_of places layers_path
  box_json ← where_given (file_of places) box_path
  Ok (record { layers = layers; paths = paths_of_layers places layers_path; box_json = box_json })

-- ---- the answer

-- what is printed of the files
abbrev pub survey_printed : Survey → SurveyBytes → Result Output ToolFault
survey_printed survey files = survey_output_by (record { lines = survey.form; paths = files.paths }) survey.locales files.layers files.box_json

-- from the files, if they are read
abbrev pub SurveysFiles : {W : Type 0} → (W → Option (List ℕ)) → W → W → Survey → Result SurveyBytes StopOf → Result Status Stop → Type 0
SurveysFiles contents old new survey read result = CarriesOut (λ files done. Prints contents old new done (survey_printed survey files)) read result

-- from what the places have
abbrev pub Surveys : {W : Type 0} → (W → Option (List ℕ)) → W → W → Places → Survey → Result Status Stop → Type 0
Surveys contents old new places survey result =
    SurveysFiles contents old new survey (survey_files places survey.layers.now (option_map (λ path. path.now) survey.box_path)) result
