-- The least sizes of the headers of type specs and types and of entries, and what stands behind headers (AOSP:
-- ResTable_typeSpec, ResTable_type, ResTable_entry, ResTable_map_entry).
use Rattle.std.specs.Prelude.{ℕ, Bool, if◌then◌else◌}

abbrev pub least_type_spec_header : ℕ
least_type_spec_header = 16

-- with the size field of the configuration
abbrev pub least_type_header : ℕ
least_type_header = 24

-- behind the header of a type spec, for each entry
abbrev pub entry_flags_size : ℕ
entry_flags_size = 4

-- Behind the header of a type stand its entry offsets. In a sparse type each is a pair: the index of an entry, and behind
-- it the offset in words of four bytes (AOSP: ResTable_sparseTypeEntry).
abbrev pub entry_offset_size : ℕ
entry_offset_size = 4

abbrev pub sparse_index_size : ℕ
sparse_index_size = 2

abbrev pub word_size : ℕ
word_size = 4

-- the offset that says that there is no entry, where a type is not sparse (AOSP: ResTable_type::NO_ENTRY)
abbrev pub no_entry : ℕ
no_entry = 0xffff_ffff

abbrev pub least_entry : ℕ
least_entry = 8

-- with a parent and a count of rows
abbrev pub least_bag : ℕ
least_bag = 16

-- the least size of an entry, a complex one or another
abbrev pub least_entry_size : Bool → ℕ
least_entry_size complex = if complex then least_bag else least_entry

-- an id has room for the indexes below this
abbrev pub indexes : ℕ
indexes = 0x1_0000
