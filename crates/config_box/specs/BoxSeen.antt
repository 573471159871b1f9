-- How contracts see what is read of a box.
use Rattle.std.specs.Prelude.{List, map, Vec, Option, Some, None, Result, Ok, Err}
use Rattle.std.specs.Borrow.{Bor}
use Rattle.std.specs.declared.alloc.Global.{Global}
use Rattle.contract_words.specs.Faults.{◌>>=◌}
use Rattle.json_input.specs.Each.{each}
use Rattle.box_answers.specs.config_record.declared.coord.Coord.{Coord}
use Rattle.box_answers.specs.config_record.locales.declared.locale_rule.LocaleRule.{LocaleRule}
use Rattle.box_answers.specs.NumberSet as sets
use Rattle.box_answers.specs.declared.number_set.NumberSet.{NumberSet}
use Rattle.config_box.specs.declared.box_fault.BoxFault.{BoxFault}
use Rattle.config_box.specs.declared.box_fault.BoxFault.TheVariants.{Shape}
use Rattle.config_box.specs.declared.values.Values.{Values}
use Rattle.config_box.specs.declared.values.Values.TheVariants.{Range, Numbers, Locales}
use Rattle.config_box.specs.declared.written.Written.{Written}
use Rattle.config_box.specs.declared.written.Written.TheVariants as code
use Rattle.config_box.specs.declared.written.Slot.{Slot}
use Rattle.config_box.specs.BoxJson.{set_in}
use Rattle.config_box.specs.Written as written

-- a coordinate's set
abbrev pub values_seen : Values → sets.SetOf
values_seen (Range low high) = sets.RangeOf low high
values_seen (Numbers numbers) = sets.NumbersOf numbers.now
values_seen (Locales locales) = sets.LocalesOf (sets.locale_numbers locales.now)

-- what is written, by its content, not its address
abbrev pub written_seen : Written → written.WrittenOf
written_seen code.Nothing = written.NothingOf
written_seen (code.Range from to) = written.RangeOf from to
written_seen (code.Numbers numbers) = written.NumbersOf numbers.items
written_seen (code.Texts texts) = written.TextsOf (map (λ text. text.now) texts.items)

abbrev pub pair_seen : (Coord × Bor Written) → (Coord × written.WrittenOf)
pair_seen pair = (pair.0, written_seen pair.1.now)

-- what was read of a member, where none is a wrong shape
abbrev pub read_seen : Option Written → Result written.WrittenOf BoxFault
read_seen (Some w) = Ok (written_seen w)
read_seen None = Err Shape

abbrev pub slot_seen : Slot → Result (Coord × written.WrittenOf) BoxFault
slot_seen slot = read_seen slot.written >>= λ w. Ok (slot.coord, w)

-- of all coordinates
abbrev pub slots_seen : Option (Vec Slot Global) → Result (List (Coord × written.WrittenOf)) BoxFault
slots_seen (Some slots) = each slot_seen slots.items
slots_seen None = Err Shape

-- the sets of all coordinates
abbrev pub sets_in_slots : LocaleRule → List Slot → Result (List sets.SetOf) BoxFault
sets_in_slots rule slots = each slot_seen slots >>= each (set_in rule)

-- a set that was read without memory
abbrev pub set_seen : Result NumberSet BoxFault → Result sets.SetOf BoxFault
set_seen (Ok set) = Ok (sets.set_of set)
set_seen (Err fault) = Err fault
