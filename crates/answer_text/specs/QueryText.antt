-- Where ids end, as text.
use Rattle.std.specs.Prelude.{ℕ, Bool, List, [], ◌∷◌, ◌++◌, codes, slice_get, Option, None}
use Rattle.std.specs.Option.{option_map}
use Rattle.std.specs.Fmt.{decimal}
use Rattle.bags_themes.specs.string_pool.Pool.{PoolOf}
use Rattle.bags_themes.specs.res_value.ResId.{id_text}
use Rattle.bags_themes.specs.overlay_map.Layer.{LayerOf}
use Rattle.bags_themes.specs.reference_resolver.declared.end.End.{End}
use Rattle.bags_themes.specs.reference_resolver.declared.end.End.TheVariants as of_end
use Rattle.answer_text.specs.EndText.{end_with_name}
use Rattle.answer_text.specs.NameText.{name_beside}

-- the strings that the values of a layer name: those of its own table
abbrev pub strings_of_layer : List LayerOf → ℕ → Option PoolOf
strings_of_layer stack place = option_map (λ layer. layer.table.strings) (slice_get stack place)

-- those of the layer of an end's value
abbrev pub strings_of_end : List LayerOf → End → Option PoolOf
strings_of_end stack (of_end.Value layer value) = strings_of_layer stack layer
strings_of_end stack end = None

-- the line `ID END`; a string value is followed by its string, and each id by its name, where names are asked for
unfoldable pub query_line : List LayerOf → ℕ → End → Bool → List ℕ
query_line stack id end names =
    id_text id ++ name_beside stack id names ++ codes " " ++ end_with_name stack (strings_of_end stack end) end names ++ 10 ∷ []

-- the line `set-aside M`
unfoldable pub set_aside_line : ℕ → List ℕ
set_aside_line count = codes "set-aside " ++ decimal count ++ 10 ∷ []
