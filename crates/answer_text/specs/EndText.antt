-- Ends of references as text.
use Rattle.std.specs.Prelude.{ℕ, Bool, List, [], ◌∷◌, ◌++◌, codes, Option, None}
use Rattle.bags_themes.specs.string_pool.Pool.{PoolOf}
use Rattle.bags_themes.specs.res_value.declared.value.Value.{Value}
use Rattle.bags_themes.specs.overlay_map.Layer.{LayerOf}
use Rattle.bags_themes.specs.reference_resolver.declared.end.End.{End}
use Rattle.bags_themes.specs.reference_resolver.declared.end.End.TheVariants as of_end
use Rattle.answer_text.specs.NamedText.{named_id}
use Rattle.answer_text.specs.LayerText.{layer_text}
use Rattle.answer_text.specs.CellText.{value_with_string}
use Rattle.answer_text.specs.NameText.{name_beside}

-- `value layer L VALUE`
unfoldable pub value_end_text : Option PoolOf → ℕ → Value → List ℕ
value_end_text strings layer value = codes "value " ++ layer_text layer ++ codes " " ++ value_with_string strings value

-- An end. Where strings are given, a string value is followed by its string among them.
unfoldable pub end_with_string : Option PoolOf → End → List ℕ
end_with_string strings (of_end.Value layer value) = value_end_text strings layer value
end_with_string strings (of_end.Bag id) = named_id (codes "bag") id.0
end_with_string strings (of_end.Absent id) = named_id (codes "absent") id.0
end_with_string strings (of_end.TooLong id) = named_id (codes "too long") id.0

-- an end with its value alone
abbrev pub end_text : End → List ℕ
end_text end = end_with_string None end

-- behind an end the name of the id that it has, where names are asked for
unfoldable pub end_name : List LayerOf → End → Bool → List ℕ
end_name stack (of_end.Value layer value) names = []
end_name stack (of_end.Bag id) names = name_beside stack id.0 names
end_name stack (of_end.Absent id) names = name_beside stack id.0 names
end_name stack (of_end.TooLong id) names = name_beside stack id.0 names

-- an end, and that name
unfoldable pub end_with_name : List LayerOf → Option PoolOf → End → Bool → List ℕ
end_with_name stack strings end names = end_with_string strings end ++ end_name stack end names

-- the line `end END`
unfoldable pub end_line : End → List ℕ
end_line end = codes "end " ++ end_text end ++ 10 ∷ []

-- the same, with that name
unfoldable pub named_end_line : List LayerOf → End → Bool → List ℕ
named_end_line stack end names = codes "end " ++ end_with_name stack None end names ++ 10 ∷ []
