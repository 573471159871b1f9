-- What is kept of a box while its text is read.
use Rattle.std.specs.Prelude.{◌+◌, List, map, take, Result, Ok}
use Rattle.contract_words.specs.Faults.{◌>>=◌}
use Rattle.serde_json.specs.Data.{Data, object, Members}
use Rattle.serde_json.specs.Find.{get}
use Rattle.json_input.specs.Each.{each}
use Rattle.box_answers.specs.config_record.declared.coord.Coord.{Coord}
use Rattle.box_answers.specs.config_record.Coord.{name_of}
use Rattle.box_answers.specs.Members.{most_values}
use Rattle.config_box.specs.declared.box_fault.BoxFault.{BoxFault}
use Rattle.config_box.specs.Written.{WrittenOf, NothingOf, RangeOf, NumbersOf, TextsOf, number_item, text_item, range_in, value_at, member_at, written_in}

-- no more items of a list than tell that there are too many
unfoldable pub kept_items : {A : Type 0} → List A → List A
kept_items items = take (most_values + 1) items

abbrev pub kept : WrittenOf → WrittenOf
kept NothingOf = NothingOf
kept (RangeOf from to) = RangeOf from to
kept (NumbersOf numbers) = NumbersOf (kept_items numbers)
kept (TextsOf texts) = TextsOf (kept_items texts)

-- of what was read
abbrev pub keep : Result WrittenOf BoxFault → Result WrittenOf BoxFault
keep read = read >>= λ w. Ok (kept w)

-- of the items of a list
abbrev pub numbers_kept : List Data → Result WrittenOf BoxFault
numbers_kept items = keep (each number_item items >>= λ numbers. Ok (NumbersOf numbers))

abbrev pub texts_kept : List Data → Result WrittenOf BoxFault
texts_kept items = keep (each text_item items >>= λ texts. Ok (TextsOf texts))

-- of the members of a range
abbrev pub range_kept : Members → Result WrittenOf BoxFault
range_kept members = keep (range_in (object members) >>= λ range. Ok (RangeOf range.0 range.1))

-- of a member of a coordinate
abbrev pub kept_at : Coord → Data → Result WrittenOf BoxFault
kept_at c value = keep (value_at c value)

-- of a coordinate
abbrev pub slot_at : Data → Coord → Result (Coord × WrittenOf) BoxFault
slot_at value c = keep (member_at c (get (name_of c) value)) >>= λ w. Ok (c, w)

-- of all coordinates
abbrev pub kept_in : Data → Result (List (Coord × WrittenOf)) BoxFault
kept_in value = written_in value >>= λ pairs. Ok (map (λ pair. (pair.0, kept pair.1)) pairs)
