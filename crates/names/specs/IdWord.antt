-- The word that stands beside an id.
use Rattle.std.specs.Prelude.{◌≡◌, ℕ, List, Option}
use Rattle.std.specs.BTreeMap.{BTreeMap, get}
use Rattle.std.specs.Option.{option_map}
use Rattle.std.specs.Ordering.{nat_cmp}
use Rattle.std.specs.Prelude.{Vec}
use Rattle.std.specs.declared.alloc.Global.{Global}
use Rattle.overlay_map.specs.Layer.{LayerOf}
use Rattle.names.specs.IdLabel.{first_name}
use Rattle.names.specs.LabelText.{label_text}
use Rattle.names.specs.NamedIds.{packages_of}
use Rattle.names.specs.Packages.{PackageNameOf}

-- the name of the first row that it has in a base layer, where that is text, among these packages
unfoldable pub word_among : List PackageNameOf → List LayerOf → ℕ → Option (List ℕ)
word_among packages layers id = option_map (label_text packages) (first_name layers id)

-- among those of the base layers
abbrev pub word_of_id : List LayerOf → ℕ → Option (List ℕ)
word_of_id layers id = word_among (packages_of layers) layers id

-- these are the words of all ids; cited by contracts of this crate alone
abbrev pub AreWords : List LayerOf → BTreeMap ℕ (Vec ℕ Global) → Type 0
AreWords layers words = (id : ℕ) → option_map (λ word. word.items) (get nat_cmp words id) ≡ word_of_id layers id
