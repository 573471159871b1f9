-- The kinds of types and type specs (AOSP: RES_TABLE_TYPE_TYPE, RES_TABLE_TYPE_SPEC_TYPE).
use Rattle.std.specs.Prelude.{ℕ}

abbrev pub type_kind : ℕ
type_kind = 0x0201

abbrev pub type_spec_kind : ℕ
type_spec_kind = 0x0202
