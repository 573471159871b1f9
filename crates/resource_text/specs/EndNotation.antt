-- Where ids end at a device, which is the list of its numbers, in Android's notation.
use Rattle.std.specs.Prelude.{ℕ, zero, suc, List, [], ◌∷◌, ◌++◌, codes, Option, Some, None}
use Rattle.std.specs.List.{flat_map}
use Rattle.notation.specs.ConfigText.{config_text}
use Rattle.res_value.specs.declared.res_id.ResId.{ResId}
use Rattle.answer_text.specs.overlay_map.Layer.{LayerOf}
use Rattle.answer_text.specs.overlay_map.Candidates.{CandOf}
use Rattle.reference_resolver.specs.declared.end.End.{End}
use Rattle.reference_resolver.specs.declared.end.End.TheVariants as of_end
use Rattle.reference_resolver.specs.declared.next.Next.{Next}
use Rattle.reference_resolver.specs.declared.next.Next.TheVariants.{LookUp, EndsAt}
use Rattle.reference_resolver.specs.Ends.{references_followed, next_of, end_of}
use Rattle.reference_resolver.specs.Selection.{selected}
use Rattle.resource_text.specs.Naming.{NamingOf, id_notation, value_at, layer_notation}

-- ---- the row that is selected last

abbrev last_by : (ResId → Option CandOf) → Option CandOf → Next → Option CandOf
last_by follow picked (LookUp target) = follow target
last_by follow picked (EndsAt end) = picked

-- of an id and what it refers to, where at most so many references are followed
abbrev pub last_selected : List LayerOf → ℕ → ℕ → List ℕ → Option CandOf
last_selected stack zero id d = selected stack id d
last_selected stack (suc most) id d =
    last_by (λ target. last_selected stack most target.0 d) (selected stack id d) (next_of id (selected stack id d))

-- ---- the end

-- ` from LAYER CONFIG`
unfoldable pub origin_notation : NamingOf → Option CandOf → List ℕ
origin_notation naming None = []
origin_notation naming (Some candidate) =
    codes " from " ++ layer_notation naming candidate.layer ++ codes " " ++ config_text candidate.row.config

-- an end; behind a value or a bag, from which row it is
unfoldable pub end_notation : NamingOf → Option CandOf → End → List ℕ
end_notation naming last (of_end.Value layer value) = value_at naming layer value ++ origin_notation naming last
end_notation naming last (of_end.Bag id) = codes "bag" ++ origin_notation naming last
end_notation naming last (of_end.Absent id) = codes "absent " ++ id_notation naming id.0
end_notation naming last (of_end.TooLong id) = codes "too many references " ++ id_notation naming id.0

-- where an id ends, where at most so many references are followed
unfoldable pub end_within : NamingOf → ℕ → List ℕ → ℕ → List ℕ
end_within naming most d id = end_notation naming (last_selected naming.stack most id d) (end_of naming.stack most id d)

abbrev pub end_at : NamingOf → List ℕ → ℕ → List ℕ
end_at naming d id = end_within naming references_followed d id

-- ---- the ends of ids

-- the line `NAME END`
unfoldable pub end_line : NamingOf → List ℕ → ResId → List ℕ
end_line naming d id = id_notation naming id.0 ++ codes " " ++ end_at naming d id.0 ++ 10 ∷ []

-- a line for each id, in their order
abbrev pub ends_notation : NamingOf → List ℕ → List ResId → List ℕ
ends_notation naming d ids = flat_map (end_line naming d) ids
