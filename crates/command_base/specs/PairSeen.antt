-- How contracts see a pair of ids.
use Rattle.std.specs.Prelude.{◌≡◌, ℕ, Some}
use Rattle.command_base.specs.overlay_map.IdMap.{IdPair}
use Rattle.command_base.specs.answer_text.res_value.ResId.{id_of, id_text}

abbrev pub pair_seen : IdPair → (ℕ × ℕ)
pair_seen pair = (pair.0.0, pair.1.0)

-- the texts of both ids are read as these
abbrev pub IdsReadBack : IdPair → Type 0
IdsReadBack pair = (id_of (id_text pair.0.0) ≡ Some pair.0) × (id_of (id_text pair.1.0) ≡ Some pair.1)
