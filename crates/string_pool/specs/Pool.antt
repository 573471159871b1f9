-- String pools (AOSP: ResStringPool_header, ResStringPool::setTo).
use Rattle.std.specs.Prelude.{ℕ, ◌+◌, ◌*◌, ◌/◌, ◌%◌, ◌^◌, Bool, false, ◌&&◌, not, List, [], length, take, drop, Result, Ok, Err, nat_lt, ◌==◌, if◌then◌else◌}
use Rattle.contract_words.specs.Faults.{◌>>=◌, refuse}
use Rattle.chunk_walk.specs.Number.{number}
use Rattle.chunk_walk.specs.Chunk.{ChunkOf}
use Rattle.string_pool.specs.Layout.{least_pool_header, offset_size}
use Rattle.string_pool.specs.declared.pool.Pool.{Pool}
use Rattle.string_pool.specs.declared.fault.PoolFault.{PoolFault}
use Rattle.string_pool.specs.declared.fault.PoolFault.TheVariants.{HeaderSize, Offsets, Start}

-- A string pool, without where its file lies in memory: whether its strings are UTF-8 or UTF-16, how
-- many strings and styles it has, the bytes that begin with the offsets of the strings and behind them
-- those of the styles, the bytes from where the strings stand, and those from where
-- the styles stand.
pub record PoolOf : Type 0 where
  pub utf8 : Bool
  pub string_count : ℕ
  pub style_count : ℕ
  pub offsets : List ℕ
  pub strings : List ℕ
  pub styles : List ℕ

abbrev pub pool_of : Pool → PoolOf
pool_of pool = record {
  utf8 = pool.utf8;
  string_count = pool.string_count;
  style_count = pool.style_count;
  offsets = pool.offsets.now;
  strings = pool.strings.now;
  styles = pool.styles.now;
}

-- how contracts see what a call returned: by its content, not its address
abbrev pub seen_pool : Result Pool PoolFault → Result PoolOf PoolFault
seen_pool (Ok pool) = Ok (pool_of pool)
seen_pool (Err fault) = Err fault

-- a pool without strings and styles
abbrev pub empty_pool : PoolOf
empty_pool = record { utf8 = false; string_count = 0; style_count = 0; offsets = []; strings = []; styles = [] }

-- The bytes from where so many strings or styles start. A place for none of them says nothing.
abbrev pub part_in : List ℕ → ℕ → ℕ → Result (List ℕ) PoolFault
part_in bytes count start = do
  _ ← refuse (not (count == 0) && nat_lt (length bytes) start) Start
  Ok (drop start bytes)

-- the bytes before so many styles, which start at a place; all where there are none
abbrev pub before_styles : List ℕ → ℕ → ℕ → List ℕ
before_styles bytes count start = if count == 0 then bytes else take start bytes

-- The pool that a chunk is, or its first fault. In its header the count of strings stands at 8, the
-- count of styles at 12, the flags at 16 (bit 8 says that the strings are UTF-8), and at 20 and 24 where
-- strings and styles start, counted from the chunk's start. Its body begins with the offsets. The styles
-- end where the chunk ends, and the strings where the styles start, or if there are none where the chunk
-- ends.
unfoldable pub pool_in : ChunkOf → Result PoolOf PoolFault
pool_in chunk = do
  _ ← refuse (nat_lt (length chunk.header) least_pool_header) HeaderSize
  let string_count = number 4 chunk.header 8
  let style_count = number 4 chunk.header 12
  let flags = number 4 chunk.header 16
  let strings_start = number 4 chunk.header 20
  let styles_start = number 4 chunk.header 24
  _ ← refuse (nat_lt (length chunk.body) (offset_size * (string_count + style_count))) Offsets
  styles ← part_in chunk.whole style_count styles_start
  strings ← part_in (before_styles chunk.whole style_count styles_start) string_count strings_start
  Ok (record {
    utf8 = flags / 2 ^ 8 % 2 == 1;
    string_count = string_count;
    style_count = style_count;
    offsets = chunk.body;
    strings = strings;
    styles = styles;
  })
