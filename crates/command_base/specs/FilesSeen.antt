-- How contracts see the bytes of files.
use Rattle.std.specs.Prelude.{ℕ, List, map, string_bytes, Vec}
use Rattle.std.specs.Option.{option_map}
use Rattle.std.specs.declared.alloc.Global.{Global}
use Rattle.command_base.specs.StackBytes as stacks
use Rattle.command_base.specs.declared.layer_files.LayerBytes.{LayerBytes}
use Rattle.command_base.specs.declared.layer_files.LayerFiles.{LayerFiles}
use Rattle.command_base.specs.declared.device_files.DeviceFiles.{DeviceFiles}
use Rattle.command_base.specs.declared.device_files.AskedFiles.{AskedFiles}
use Rattle.command_base.specs.DeviceFiles.{DeviceBytes, AskedBytes}
use Rattle.command_base.specs.DeviceText.{device_text_of}
use Rattle.command_base.specs.FileWords.{strings_held}

abbrev pub bytes_of : Vec ℕ Global → List ℕ
bytes_of bytes = bytes.items

-- the bytes of a layer
abbrev pub layer_held : LayerBytes → stacks.LayerBytes
layer_held layer = record { table = layer.table; map = option_map bytes_of layer.map }

-- those of all layers
abbrev pub all_held : Vec LayerBytes Global → List stacks.LayerBytes
all_held layers = map layer_held layers.items

abbrev pub layers_held : LayerFiles → List stacks.LayerBytes
layers_held files = all_held files.files

-- the paths of their tables
abbrev pub paths_held : LayerFiles → List (List ℕ)
paths_held files = map string_bytes files.paths.items

abbrev pub device_held : DeviceFiles → DeviceBytes
device_held files = record { layers = layers_held files.layers; paths = paths_held files.layers; device = device_text_of files.device }

abbrev pub asked_held : AskedFiles → AskedBytes
asked_held asked = record { layers = layers_held asked.layers; paths = paths_held asked.layers; device = device_text_of asked.device; words = strings_held asked.words }
