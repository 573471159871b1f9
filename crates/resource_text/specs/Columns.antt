-- Candidates in columns.
use Rattle.std.specs.Prelude.{ℕ, ◌-◌, false, List, [], ◌∷◌, ◌++◌, codes, chars, length, nat_lt, if◌then◌else◌}
use Rattle.std.specs.List.{flat_map, fold, repeat}
use Rattle.std.specs.Str.{is_utf8}
use Rattle.unicode_width.specs.Width.{str_width}

-- the texts of a line
pub record LineOf : Type 0 where
  pub layer : List ℕ
  pub config : List ℕ
  pub value : List ℕ
  pub decision : List ℕ

-- how many columns of a terminal a text takes; of what is no UTF-8, its bytes
unfoldable pub width_of : List ℕ → ℕ
width_of text = if is_utf8 text then str_width false (chars text) else length text

-- how wide the first three texts of lines are at most
pub record WidthsOf : Type 0 where
  pub layer : ℕ
  pub config : ℕ
  pub value : ℕ

abbrev pub wider : ℕ → List ℕ → ℕ
wider width text = if nat_lt width (width_of text) then width_of text else width

unfoldable pub widths_with : WidthsOf → LineOf → WidthsOf
widths_with widths line = record {
  layer = wider widths.layer line.layer;
  config = wider widths.config line.config;
  value = wider widths.value line.value;
}

abbrev pub widths_of : List LineOf → WidthsOf
widths_of lines = fold widths_with (record { layer = 0; config = 0; value = 0 }) lines

-- a text that is filled up to a width, and two spaces
unfoldable pub column_text : ℕ → List ℕ → List ℕ
column_text width text = text ++ repeat (width - width_of text) (codes " ") ++ codes "  "

-- the line `  LAYER  CONFIG  VALUE  DECISION`
unfoldable pub line_text : WidthsOf → LineOf → List ℕ
line_text widths line =
    codes "  " ++ column_text widths.layer line.layer ++ column_text widths.config line.config ++ column_text widths.value line.value
    ++ line.decision ++ 10 ∷ []

-- lines whose columns stand below one another
unfoldable pub columns_text : List LineOf → List ℕ
columns_text lines = flat_map (line_text (widths_of lines)) lines
