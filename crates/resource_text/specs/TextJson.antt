-- Texts and numbers as JSON values.
use Rattle.std.specs.Prelude.{ℕ, List, encode_utf8_all}
use Rattle.bstr.specs.Utf8.{lossy_chars}
use Rattle.serde_json.specs.Data.{Data, number, unsigned, string, array}
use Rattle.serde_json.specs.View.{items_of}

-- a text of UTF-8; in another one U+FFFD stands for what is no character
unfoldable pub text_data : List ℕ → Data
text_data text = string (encode_utf8_all (lossy_chars text))

abbrev pub number_data : ℕ → Data
number_data n = number (unsigned n)

abbrev pub list_data : List Data → Data
list_data items = array (items_of items)
