-- Characters past U+FFFF that stand in UTF-8 as two surrogates of three bytes each, as some tools write them (CESU-8).
use Rattle.std.specs.Prelude.{ℕ, zero, suc, ◌==◌, ◌&&◌, List, [], ◌∷◌, ◌++◌, drop, slice_index, Option, Some, None, encode_utf8, if◌then◌else◌}
use Rattle.std.specs.Char.Utf16.{is_high_surrogate, is_low_surrogate, surrogate_pair_char}
use Rattle.bstr.specs.Utf8.{continues, code_of_3}

-- the number of three bytes at the front, where they are spelled as a surrogate is
unfoldable pub surrogate_at : List ℕ → Option ℕ
surrogate_at bytes =
    if slice_index bytes 0 == 0xed && continues (slice_index bytes 1) && continues (slice_index bytes 2)
    then Some (code_of_3 0xed (slice_index bytes 1) (slice_index bytes 2)) else None

-- the character of two surrogates that make a pair
unfoldable pub pair_of : Option ℕ → Option ℕ → Option ℕ
pair_of (Some high) (Some low) = if is_high_surrogate high && is_low_surrogate low then Some (surrogate_pair_char high low) else None
pair_of (Some high) None = None
pair_of None low = None

-- the character of six bytes at the front, where they are such a pair
unfoldable pub pair_at : List ℕ → Option ℕ
pair_at bytes = pair_of (surrogate_at bytes) (surrogate_at (drop 3 bytes))

-- the front of bytes: a pair as its character, or a byte as it stands
abbrev pub front_paired : ℕ → Option ℕ → List ℕ
front_paired byte (Some c) = encode_utf8 c
front_paired byte None = byte ∷ []

-- how many bytes behind the first belong to a pair
abbrev pub bytes_behind : Option ℕ → ℕ
bytes_behind (Some c) = 5
bytes_behind None = 0

-- The first n of the bytes belong to a pair that was passed.
unfoldable pub paired_after : ℕ → List ℕ → List ℕ
paired_after n [] = []
paired_after (suc n) (_ ∷ bytes) = paired_after n bytes
paired_after zero (byte ∷ bytes) =
    let pair = pair_at (byte ∷ bytes) in
    front_paired byte pair ++ paired_after (bytes_behind pair) bytes

-- bytes in which each such pair is its character
abbrev pub with_pairs : List ℕ → List ℕ
with_pairs bytes = paired_after 0 bytes
