-- How contracts within this crate see what is read of tokens.
use Rattle.std.specs.Prelude.{List, [], ◌∷◌, Option, None, option_and_then, Result, Ok, Err, Vec}
use Rattle.std.specs.declared.alloc.Global.{Global}
use Rattle.json_tokens.specs.Kind.{KindOf, text_in}
use Rattle.json_tokens.specs.ShortList.{ListOf, Fits}
use Rattle.type_chunks.specs.res_value.declared.res_id.ResId.{ResId}
use Rattle.type_chunks.specs.res_value.ResId.{id_of}
use Rattle.overlay_map.specs.IdMap.{IdPair, both}
use Rattle.overlay_map.specs.declared.map_fault.MapFault.{MapFault}

-- the id of a value of this kind
abbrev pub id_of_kind : KindOf → Option ResId
id_of_kind kind = option_and_then id_of (text_in kind)

-- the pair that a list of two ids is
abbrev pub pair_of_list : ListOf → Option IdPair
pair_of_list (Fits (target ∷ own ∷ [])) = both (id_of_kind target) (id_of_kind own)
pair_of_list _ = None

-- the pairs, or a fault, which is kept while the rest of the text is read
abbrev pub pairs_kept : Result (Vec IdPair Global) MapFault → Result (List IdPair) MapFault
pairs_kept (Ok pairs) = Ok pairs.items
pairs_kept (Err fault) = Err fault
