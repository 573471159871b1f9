-- The files of a command for a box of devices, and what its words have that name files. They are read in the order in which the
-- words name them.
use Rattle.std.specs.Prelude.{ℕ, List, Result, Ok}
use Rattle.contract_words.specs.Faults.{◌>>=◌}
use Rattle.contract_words.specs.Sequences.{joined_each}
use Rattle.command_base.specs.FilesSeen.{layers_held, paths_held}
use Rattle.command_base.specs.FileWords.{strings_held, words_at}
use Rattle.command_base.specs.Inputs.{Places, file_of, layers_of, paths_of_layers}
use Rattle.command_base.specs.StackBytes.{LayerBytes}
use Rattle.command_base.specs.Stop.{StopOf}
use Rattle.resource_tool.specs.declared.box_files.BoxFiles.{BoxFiles}
use Rattle.resource_tool.specs.declared.box_files.AskedBoxFiles.{AskedBoxFiles}

-- the bytes of layers, with the paths of their tables, and of a box
pub record BoxBytes : Type 0 where
  pub layers : List LayerBytes
  pub paths : List (List ℕ)
  pub box_json : List ℕ

abbrev pub box_held : BoxFiles → BoxBytes
box_held files = record { layers = layers_held files.layers; paths = paths_held files.layers; box_json = files.box_json.items }

-- layers and then the box
unfoldable pub box_files : Places → List ℕ → List ℕ → Result BoxBytes StopOf
box_files places layers_path box_path = do
  layers ← layers_of places layers_path
  box_json ← file_of places box_path
  Ok (record { layers = layers; paths = paths_of_layers places layers_path; box_json = box_json })

-- the bytes of layers, with the paths of their tables, and of a box, and the words of goals or resources
pub record AskedBoxBytes : Type 0 where
  pub layers : List LayerBytes
  pub paths : List (List ℕ)
  pub box_json : List ℕ
  pub words : List (List ℕ)

abbrev pub asked_box_held : AskedBoxFiles → AskedBoxBytes
asked_box_held files = record {
  layers = layers_held files.layers;
  paths = paths_held files.layers;
  box_json = files.box_json.items;
  words = strings_held files.words;
}

-- layers, the box, and then the files of words
unfoldable pub asked_box_files : Places → List ℕ → List ℕ → List (List ℕ) → Result AskedBoxBytes StopOf
asked_box_files places layers_path box_path words = do
  files ← box_files places layers_path box_path
  words ← joined_each (words_at places) words
  Ok (record { layers = files.layers; paths = files.paths; box_json = files.box_json; words = words })
