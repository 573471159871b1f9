-- The kinds of tables, packages and pools, and the sizes of the headers of tables and packages (AOSP:
-- RES_STRING_POOL_TYPE, RES_TABLE_TYPE, RES_TABLE_PACKAGE_TYPE, ResTable_header, ResTable_package).
use Rattle.std.specs.Prelude.{ℕ}

abbrev pub pool_kind : ℕ
pool_kind = 0x0001

abbrev pub table_kind : ℕ
table_kind = 0x0002

abbrev pub package_kind : ℕ
package_kind = 0x0200

abbrev pub least_table_header : ℕ
least_table_header = 12

-- without its last field, typeIdOffset, which older tools do not write
abbrev pub least_package_header : ℕ
least_package_header = 284

-- with typeIdOffset
abbrev pub package_header_with_offset : ℕ
package_header_with_offset = 288
