-- The lines of CLDR's lists, as numbers; and what lines say of a locale.
use Rattle.std.specs.Prelude.{◌≡◌, ℕ, ◌+◌, ◌*◌, ◌^◌, ◌==◌, ◌&&◌, nat_le, nat_lt, Bool, true, List, [], ◌∷◌, find, option_map, Option}
use Rattle.std.specs.List.{list_any, list_all}
use Prim.Native.String.{String}
use Rattle.locales.specs.declared.lines.ScriptLine.{ScriptLine}
use Rattle.locales.specs.declared.lines.ParentLine.{ParentLine}
use Rattle.locales.specs.TextNumber.{number_of_text, script_number}

abbrev pub script_line : String → String → ScriptLine
script_line locale script = record { locale = number_of_text locale; script = script_number script }

abbrev pub parent_line : String → String → String → ParentLine
parent_line script locale parent = record { script = script_number script; locale = number_of_text locale; parent = number_of_text parent }

-- ---- what lines say

-- the script in the line of a locale
abbrev pub script_in : List ScriptLine → ℕ → Option ℕ
script_in lines locale = option_map (λ line. line.script) (find (λ line. line.locale == locale) lines)

-- the parent in the line of a locale and a script
abbrev pub parent_in : List ParentLine → ℕ → ℕ → Option ℕ
parent_in lines locale script =
    option_map (λ line. line.parent) (find (λ line. line.script == script && line.locale == locale) lines)

-- some line has the locale and the script
abbrev pub has_line : List ScriptLine → ℕ → ℕ → Bool
has_line lines locale script = list_any (λ line. line.script == script && line.locale == locale) lines

-- ---- lines in order

-- a script above a locale, in one number
abbrev pub key_of : ℕ → ℕ → ℕ
key_of script locale = script * 2 ^ 32 + locale

-- each key is above the one before it
unfoldable pub rises_from : {X : Type 0} → (X → ℕ) → ℕ → List X → Bool
rises_from key least [] = true
rises_from key least (x ∷ xs) = nat_le least (key x) && rises_from key (key x + 1) xs

abbrev pub IsRising : {X : Type 0} → (X → ℕ) → List X → Type 0
IsRising key xs = rises_from key 0 xs ≡ true

-- each number has at most 32 bits, so that a key tells both of its parts
abbrev pub AllFit : {X : Type 0} → (X → ℕ) → List X → Type 0
AllFit number xs = list_all (λ x. nat_lt (number x) (2 ^ 32)) xs ≡ true
