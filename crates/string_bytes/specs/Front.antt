-- What the code keeps of a string while it reads it. Contracts within the crate alone speak of this.
use Rattle.std.specs.Prelude.{Result, Ok, Err}
use Rattle.string_bytes.specs.declared.fault.StringFault.{StringFault}
use Rattle.string_bytes.specs.declared.reading.Front.{Front}
use Rattle.string_bytes.specs.Bytes.{FrontOf}

abbrev pub front_of : Front → FrontOf
front_of front = record { number = front.number; behind = front.behind.now }

abbrev pub seen_front : Result Front StringFault → Result FrontOf StringFault
seen_front (Ok front) = Ok (front_of front)
seen_front (Err fault) = Err fault
