-- Words of 32 bits as text.
use Rattle.std.specs.Prelude.{ℕ, List, ◌++◌, codes}
use Rattle.std.specs.Int.{w32, to_be_bytes}
use Rattle.hex.specs.Hex.{encode_lower}

-- the eight small hexadecimal digits of a word, the most significant first
unfoldable pub eight_digits : ℕ → List ℕ
eight_digits word = encode_lower (to_be_bytes w32 word)

-- how ids, words and flags are shown
unfoldable pub word_text : ℕ → List ℕ
word_text word = codes "0x" ++ eight_digits word
