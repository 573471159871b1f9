-- Whether two words are the same. Contracts within the crate alone speak of this.
use Rattle.std.specs.Prelude.{◌==◌, ◌&&◌, Bool, true, false, Option, Some, None}
use Rattle.std.specs.Str.{bytes_eq}
use Rattle.names.specs.Named.{NamedOf}
use Rattle.names.specs.Named as word
use Rattle.names.specs.NamedSet.{NamedSetOf, SetOfOne, SetOfType, SetOfAll}
use Rattle.names.specs.PackageWord.{PackageWordOf, Numbered, Called}

abbrev pub is_same_word : PackageWordOf → PackageWordOf → Bool
is_same_word (Numbered a) (Numbered b) = a == b
is_same_word (Numbered a) (Called b) = false
is_same_word (Called a) (Numbered b) = false
is_same_word (Called a) (Called b) = bytes_eq a b

-- whether two words name the same package, or none
abbrev pub is_same_package : Option PackageWordOf → Option PackageWordOf → Bool
is_same_package None None = true
is_same_package None (Some b) = false
is_same_package (Some a) None = false
is_same_package (Some a) (Some b) = is_same_word a b

-- whether two words have the same id, or the same names
abbrev pub is_same_one : NamedOf → NamedOf → Bool
is_same_one (word.ById a) (word.ById b) = a.0 == b.0
is_same_one (word.ByName p a b) (word.ByName q c d) = is_same_package p q && (bytes_eq a c && bytes_eq b d)
is_same_one (word.ById a) (word.ByName q c d) = false
is_same_one (word.ByName p a b) (word.ById c) = false

-- whether two words are the same
abbrev pub is_same : NamedSetOf → NamedSetOf → Bool
is_same (SetOfOne a) (SetOfOne b) = is_same_one a b
is_same (SetOfOne a) (SetOfType q b) = false
is_same (SetOfOne a) SetOfAll = false
is_same (SetOfType p a) (SetOfOne b) = false
is_same (SetOfType p a) (SetOfType q b) = is_same_package p q && bytes_eq a b
is_same (SetOfType p a) SetOfAll = false
is_same SetOfAll (SetOfOne b) = false
is_same SetOfAll (SetOfType q b) = false
is_same SetOfAll SetOfAll = true
