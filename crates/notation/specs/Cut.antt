-- Texts that are cut at a byte, and texts with something in front or behind.
use Rattle.std.specs.Prelude.{ℕ, ◌+◌, ◌-◌, ◌==◌, List, [], ◌++◌, length, take, drop, position, Option, Some, None, bytes_eq, if◌then◌else◌}

abbrev pub cut_at_place : List ℕ → Option ℕ → List ℕ × Option (List ℕ)
cut_at_place text None = (text, None)
cut_at_place text (Some place) = (take place text, Some (drop (place + 1) text))

-- what stands before the first such byte, and what behind it, if it is there
abbrev pub cut_at : ℕ → List ℕ → List ℕ × Option (List ℕ)
cut_at byte text = cut_at_place text (position (λ b. b == byte) text)

-- what stands behind this front
abbrev pub behind : List ℕ → List ℕ → Option (List ℕ)
behind front text = if bytes_eq (take (length front) text) front then Some (drop (length front) text) else None

-- what stands before this end
abbrev pub before : List ℕ → List ℕ → Option (List ℕ)
before end text =
    if bytes_eq (drop (length text - length end) text) end then Some (take (length text - length end) text) else None

-- a text behind a sign, where there is one
abbrev pub behind_sign : List ℕ → Option (List ℕ) → List ℕ
behind_sign sign None = []
behind_sign sign (Some text) = sign ++ text
