-- The words that ask for a pair, and for which pairs words ask. Contracts within the crate alone speak of this.
use Rattle.std.specs.Prelude.{◌≡◌, ◌==◌, ℕ, Bool, List, [], ◌∷◌, ◌++◌, map, Option, Some, None, is_some, Result, Ok, Err, if◌then◌else◌}
use Rattle.std.specs.List.{flat_map, list_any}
use Rattle.std.specs.Map.{lookup}
use Rattle.std.specs.Option.{option_map, option_map_or}
use Rattle.contract_words.specs.Faults.{◌>>=◌}
use Rattle.res_value.specs.ResId.{package_of}
use Rattle.res_value.specs.declared.res_id.ResId.{ResId}
use Rattle.names.specs.Named as word
use Rattle.names.specs.NameFault.{NameFaultOf}
use Rattle.names.specs.NamedPairs.{first_fault, found_of_pairs, id_of_pair, is_asked}
use Rattle.names.specs.NamedSet.{NamedSetOf, SetOfOne, SetOfType, SetOfAll, named_set_of}
use Rattle.names.specs.PackageWord.{PackageWordOf, Numbered, Called}
use Rattle.names.specs.Packages.{PackageNameOf}
use Rattle.names.specs.declared.found.Found.{Found}
use Rattle.names.specs.declared.found.Found.TheVariants.{Nothing}
use Rattle.names.specs.declared.pair.Sides.{Sides}
use Rattle.names.specs.declared.pair.Sides.TheVariants.{Removed, Added, Both}
use Rattle.names.specs.declared.asked_words.AskedWords.{AskedWords}
use Rattle.names.specs.FoundSoFar.{also}
use Rattle.names.specs.Label.{LabelOf, ByName, ById}
use Rattle.names.specs.Pairs.{PairOf}
use Rattle.names.specs.SameWord.{is_same}

-- ---- the words that ask for a pair

abbrev pub by_id : ResId → NamedSetOf
by_id id = SetOfOne (word.ById id)

abbrev pub words_for_sides : Sides → List NamedSetOf
words_for_sides (Removed old) = by_id old ∷ []
words_for_sides (Added new) = by_id new ∷ []
words_for_sides (Both old new) = by_id old ∷ by_id new ∷ []

-- by a name and its type
abbrev pub words_with : List ℕ → List ℕ → Option PackageWordOf → List NamedSetOf
words_with type_name entry_name in_package = SetOfType in_package type_name ∷ SetOfOne (word.ByName in_package type_name entry_name) ∷ []

abbrev pub word_of_name : Option (List ℕ) → List (Option PackageWordOf)
word_of_name None = []
word_of_name (Some name) = Some (Called name) ∷ []

abbrev pub word_of_package : ℕ → PackageNameOf → List (Option PackageWordOf)
word_of_package number found = if found.number == number then word_of_name found.name else []

-- what a word may have before its type that asks for this package
abbrev pub words_of_package : List PackageNameOf → ℕ → List (Option PackageWordOf)
words_of_package packages number = None ∷ Some (Numbered number) ∷ flat_map (word_of_package number) packages

abbrev pub words_for_label : List PackageNameOf → ℕ → LabelOf → List NamedSetOf
words_for_label packages number (ByName name) = flat_map (words_with name.type_name name.entry_name) (words_of_package packages number)
words_for_label packages number (ById id) = []

abbrev pub words_for : List PackageNameOf → PairOf → List NamedSetOf
words_for packages pair = SetOfAll ∷ words_for_sides pair.sides ++ words_for_label packages (package_of (id_of_pair pair)) pair.label

-- ---- what words were found for

-- what was found for a word, where it is one of these
abbrev pub found_for : AskedWords → NamedSetOf → Option Found
found_for words one = lookup (λ key. is_same one (named_set_of key)) words.words.entries

abbrev pub or_nothing : Option Found → Found
or_nothing found = option_map_or (λ one. one) found Nothing

-- whether a word is one of these
abbrev pub has_word : AskedWords → NamedSetOf → Bool
has_word words one = is_some (found_for words one)

-- these words are asked, each with the ids of those pairs for which it asks
abbrev pub AreAsked : List PackageNameOf → List NamedSetOf → List PairOf → AskedWords → Type 0
AreAsked packages sets pairs words =
    (one : NamedSetOf) → found_for words one ≡ (if list_any (is_same one) sets then Some (found_of_pairs packages pairs one) else None)

-- nothing, or a fault
abbrev pub unless : Option NameFaultOf → Result (Unit {0}) NameFaultOf
unless (Some fault) = Err fault
unless None = Ok tt

-- of each pair whether some word asks for it, where each word asks for some
abbrev pub asked_in : List PackageNameOf → List NamedSetOf → List PairOf → Result (List Bool) NameFaultOf
asked_in packages sets pairs = unless (first_fault packages pairs sets) >>= λ _. Ok (map (is_asked packages sets) pairs)

-- those of these words that are asked ask for an id too; whether one is asked
pub record PutsFor (words : List NamedSetOf) (id : ResId) (old new : AskedWords) (asked : Bool) : Type 0 where
  pub put : (one : NamedSetOf) → found_for new one ≡ option_map (λ found. if list_any (is_same one) words then also found id else found) (found_for old one)
  pub asks : asked ≡ list_any (has_word old) words
