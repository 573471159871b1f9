-- The files of a command for a device, and what its words have that name files. They are read in the order in which the words
-- name them.
use Rattle.std.specs.Prelude.{ℕ, List, [], Result, Ok, Err}
use Rattle.contract_words.specs.Faults.{◌>>=◌}
use Rattle.contract_words.specs.Sequences.{joined_each}
use Rattle.command_base.specs.StackBytes.{LayerBytes}
use Rattle.command_base.specs.DeviceText.{DeviceTextOf, device_text_at}
use Rattle.command_base.specs.FileWords.{words_at}
use Rattle.command_base.specs.Inputs.{Places, layers_of, paths_of_layers}
use Rattle.command_base.specs.Stop.{StopOf}

-- layers with the paths of their tables, and the text of a device
pub record DeviceBytes : Type 0 where
  pub layers : List LayerBytes
  pub paths : List (List ℕ)
  pub device : DeviceTextOf

-- the paths of the tables of layers that are read
abbrev pub paths_read : Result DeviceBytes StopOf → List (List ℕ)
paths_read (Ok files) = files.paths
paths_read (Err stop) = []

-- layers and then the device
unfoldable pub device_files : Places → List ℕ → List ℕ → Result DeviceBytes StopOf
device_files places layers_path device_word = do
  layers ← layers_of places layers_path
  device ← device_text_at places device_word
  Ok (record { layers = layers; paths = paths_of_layers places layers_path; device = device })

-- the same, and the words of the argument that takes several
pub record AskedBytes : Type 0 where
  pub layers : List LayerBytes
  pub paths : List (List ℕ)
  pub device : DeviceTextOf
  pub words : List (List ℕ)

-- the paths of the tables of layers that are read
abbrev pub paths_asked : Result AskedBytes StopOf → List (List ℕ)
paths_asked (Ok files) = files.paths
paths_asked (Err stop) = []

-- layers, the device, and then the files of words
unfoldable pub asked_files : Places → List ℕ → List ℕ → List (List ℕ) → Result AskedBytes StopOf
asked_files places layers_path device_word words = do
  files ← device_files places layers_path device_word
  words ← joined_each (words_at places) words
  Ok (record { layers = files.layers; paths = files.paths; device = files.device; words = words })
