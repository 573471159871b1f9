-- What the bytes of a table can say of a value.
use Rattle.std.specs.Prelude.{◌<◌, ◌^◌}
use Rattle.res_value.specs.declared.value.Value.{Value}

-- the kind is a byte, the word has 32 bits
pub record IsStored (value : Value) : Type 0 where
  pub kind : value.kind < 2 ^ 8
  pub word : value.word < 2 ^ 32
