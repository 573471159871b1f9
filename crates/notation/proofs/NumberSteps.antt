-- What holds of the qualifiers of one or two numbers.
use Rattle.std.proofs.Common.{ℕ, List, codes, Option, Some, None, option_map, IfSome}
use Rattle.std.specs.Option.{option_or, option_and_then}
use Rattle.config_record.specs.declared.coord.Coord.{Coord}
use Rattle.notation.specs.declared.forms.NumberAt.{NumberAt}
use Rattle.notation.specs.declared.qualifier.Qualifier.{Qualifier}
use Rattle.notation.specs.declared.qualifier.Qualifier.TheVariants.{Number, Size, Version}
use Rattle.notation.specs.Cut.{cut_at, behind}
use Rattle.notation.specs.Forms.{forms, numbered_by}
use Rattle.notation.specs.Numeral.{number_of}
use Rattle.notation.specs.Qualifier.{word_in, number_in, times, dot, both, two_numbers, size_in, version_of, version_in, numbers_in}
use Rattle.notation.specs.Words.{WordOf, words, find_word}

pub record OfNumbers (P : Qualifier → Type 0) : Type 0 where
  pub word : (part : List ℕ) → IfSome (word_in part) P
  pub number : (part : List ℕ) → IfSome (number_in part) P
  pub size : (width height : ℕ) → P (Size width height)
  pub version : (sdk minor : ℕ) → P (Version sdk minor)

in_either : (P : Qualifier → Type 0) (first second : Option Qualifier) → IfSome first P → IfSome second P → IfSome (option_or first second) P
in_either P None second one other = other
in_either P (Some qualifier) second one other = one

in_both : (P : Qualifier → Type 0) (make : ℕ → ℕ → Qualifier) → ((a b : ℕ) → P (make a b)) → (first second : Option ℕ) → IfSome (both make first second) P
in_both P make holds (Some a) (Some b) = holds a b
in_both P make holds (Some a) None = tt
in_both P make holds None second = tt

in_two : (P : Qualifier → Type 0) (make : ℕ → ℕ → Qualifier) → ((a b : ℕ) → P (make a b)) → (missing : Option ℕ) (first : List ℕ) (second : Option (List ℕ)) → IfSome (two_numbers make missing first second) P
in_two P make holds missing first None = in_both P make holds (number_of first) missing
in_two P make holds missing first (Some second) = in_both P make holds (number_of first) (number_of second)

size_has : (P : Qualifier → Type 0) → ((a b : ℕ) → P (Size a b)) → (part : List ℕ) → IfSome (size_in part) P
unfolding size_in
size_has P holds part = in_two P Size holds None (cut_at times part).0 (cut_at times part).1

version_has : (P : Qualifier → Type 0) → ((a b : ℕ) → P (Version a b)) → (part : List ℕ) → IfSome (version_in part) P
unfolding version_in version_of
version_has P holds part = of_text (behind (codes "v") part)
  where
    of_text : (o : Option (List ℕ)) → IfSome (option_and_then version_of o) P
    of_text None = tt
    of_text (Some text) = in_two P Version holds (Some 0) (cut_at dot text).0 (cut_at dot text).1

pub numbers_have : (P : Qualifier → Type 0) → OfNumbers P → (part : List ℕ) → IfSome (numbers_in part) P
unfolding numbers_in
numbers_have P holds part =
    in_either P (word_in part) _ (holds.word part)
    (in_either P (number_in part) _ (holds.number part)
    (in_either P (size_in part) (version_in part) (size_has P holds.size part) (version_has P holds.version part)))

-- ---- what holds of each number at a coordinate too

word_has : (P : Qualifier → Type 0) → ((c : Coord) (n : ℕ) → P (Number c n)) → (part : List ℕ) → IfSome (word_in part) P
unfolding word_in
word_has P holds part = of_word (find_word words part)
  where
    of_word : (o : Option WordOf) → IfSome (option_map (λ word. Number word.coord word.number) o) P
    of_word None = tt
    of_word (Some word) = holds word.coord word.number

number_has : (P : Qualifier → Type 0) → ((c : Coord) (n : ℕ) → P (Number c n)) → (part : List ℕ) → IfSome (number_in part) P
unfolding number_in
number_has P holds part = of_number (numbered_by forms part)
  where
    of_number : (o : Option NumberAt) → IfSome (option_map (λ at. Number at.coord at.number) o) P
    of_number None = tt
    of_number (Some at) = holds at.coord at.number

pub all_numbers_have : (P : Qualifier → Type 0) → ((c : Coord) (n : ℕ) → P (Number c n)) → ((width height : ℕ) → P (Size width height)) → ((sdk minor : ℕ) → P (Version sdk minor))
    → (part : List ℕ) → IfSome (numbers_in part) P
all_numbers_have P number size version part = numbers_have P (record { word = word_has P number; number = number_has P number; size = size; version = version }) part
