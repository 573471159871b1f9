-- For which pairs words ask.
use Rattle.std.proofs.Common.{◌≡◌, ℕ, zero, suc, ◌+◌, ◌<◌, ◌==◌, ◌&&◌, ◌||◌, Bool, true, false, cond, List, [], ◌∷◌, ◌++◌, length, map, filter, take, get_or, append_assoc, Option, Some, None, refl, sym, ap, ◌∙◌, arith}
use Rattle.std.proofs.Math.Bool.{or-false, or-true}
use Rattle.std.proofs.Math.Path.{fun_ext}
use Rattle.std.proofs.lemmas.Grind.{flat_map-append}
use Rattle.std.proofs.lemmas.List.{append-nil, map-append, map_more}
use Rattle.std.proofs.lemmas.List.Folds.{list_any-append}
use Rattle.std.specs.BTreeMap.{get, is_at}
use Rattle.std.specs.List.{flat_map, list_any}
use Rattle.std.specs.Map.{lookup}
use Rattle.std.specs.Option.{is_some, option_map, option_map_or}
use Rattle.std.specs.Str.{bytes_eq}
use Rattle.res_value.specs.ResId.{package_of}
use Rattle.res_value.specs.declared.res_id.ResId.{ResId}
use Rattle.names.specs.declared.found.Found.{Found}
use Rattle.names.specs.declared.found.Found.TheVariants.{Nothing}
use Rattle.names.specs.declared.named_set.NamedSet.{NamedSet}
use Rattle.names.specs.declared.packages.PackageName.{PackageName}
use Rattle.names.specs.declared.pair.Sides.{Sides}
use Rattle.names.specs.declared.pair.Sides.TheVariants.{Removed, Added, Both}
use Rattle.names.specs.declared.asked_words.AskedWords.{AskedWords}
use Rattle.names.specs.Found.{found_among}
use Rattle.names.specs.FoundSoFar.{also}
use Rattle.names.specs.Label.{LabelOf, ByName, ById}
use Rattle.names.specs.Named as word
use Rattle.names.specs.NamedPairs.{asks_for, found_of_pairs, id_of_pair, is_named, is_of_type, is_on_a_side}
use Rattle.names.specs.NamedSet.{NamedSetOf, SetOfOne, SetOfType, SetOfAll, named_set_of}
use Rattle.names.specs.PackageWord.{PackageWordOf, Numbered, Called}
use Rattle.names.specs.Packages.{PackageNameOf, is_asked_in, is_called, package_name_of}
use Rattle.names.specs.Pairs.{PairOf}
use Rattle.names.specs.AskedWords.{by_id, found_for, has_word, or_nothing, word_of_name, word_of_package, words_for, words_for_label, words_for_sides, words_of_package, words_with, AreAsked, PutsFor}
use Rattle.names.specs.SameWord.{is_same, is_same_package}
use Rattle.names.proofs.FoundLaws.{also-again, each-among, each-append}
use Rattle.names.proofs.SameWordSteps.{at_word, bytes_eq-sym, is_same-is, is_same-itself, is_same-sym, named_set_of-at, order, same_set}

-- ---- booleans

and-false : (b : Bool) → (b && false) ≡ false
and-false true = refl
and-false false = refl

both-and : (a b m : Bool) → ((a && m) || (b && m)) ≡ ((a || b) && m)
both-and true true true = refl
both-and true true false = refl
both-and true false true = refl
both-and true false false = refl
both-and false b m = refl

-- ---- the words for a package

-- by a number no name of a package asks
number-called : (other number : ℕ) (found : PackageNameOf) → list_any (is_same_package (Some (Numbered other))) (word_of_package number found) ≡ false
number-called other number found = by (found.number == number) found.name
  where
    by : (same : Bool) (name : Option (List ℕ)) → list_any (is_same_package (Some (Numbered other))) (cond same (word_of_name name) []) ≡ false
    by true None = refl
    by true (Some own) = refl
    by false name = refl

none-called : (other number : ℕ) (packages : List PackageNameOf) → list_any (is_same_package (Some (Numbered other))) (flat_map (word_of_package number) packages) ≡ false
none-called other number [] = refl
none-called other number (found ∷ packages) =
    list_any-append (is_same_package (Some (Numbered other))) (word_of_package number found) (flat_map (word_of_package number) packages)
    ∙ ap (λ (any : Bool). any || list_any (is_same_package (Some (Numbered other))) (flat_map (word_of_package number) packages)) (number-called other number found)
    ∙ none-called other number packages

name-called : (name : List ℕ) (number : ℕ) (found : PackageNameOf) → list_any (is_same_package (Some (Called name))) (word_of_package number found) ≡ is_called name number found
name-called name number found = by (found.number == number) found.name
  where
    by : (same : Bool) (own : Option (List ℕ)) → list_any (is_same_package (Some (Called name))) (cond same (word_of_name own) []) ≡ (same && option_map_or (λ text. bytes_eq text name) own false)
    by true None = refl
    by true (Some own) = or-false (bytes_eq name own) ∙ bytes_eq-sym name own
    by false own = refl

some-called : (name : List ℕ) (number : ℕ) (packages : List PackageNameOf)
    → list_any (is_same_package (Some (Called name))) (flat_map (word_of_package number) packages) ≡ list_any (is_called name number) packages
some-called name number [] = refl
some-called name number (found ∷ packages) =
    list_any-append (is_same_package (Some (Called name))) (word_of_package number found) (flat_map (word_of_package number) packages)
    ∙ ap (λ (any : Bool). any || list_any (is_same_package (Some (Called name))) (flat_map (word_of_package number) packages)) (name-called name number found)
    ∙ ap (λ (any : Bool). is_called name number found || any) (some-called name number packages)

package-words : (packages : List PackageNameOf) (in_package : Option PackageWordOf) (number : ℕ) → list_any (is_same_package in_package) (words_of_package packages number) ≡ is_asked_in packages in_package number
package-words packages None number = refl
package-words packages (Some (Numbered other)) number = ap (λ (any : Bool). other == number || any) (none-called other number packages) ∙ or-false (other == number)
package-words packages (Some (Called name)) number = some-called name number packages

-- ---- the words for a name

any-words : (f : NamedSetOf → Bool) (type_name entry_name : List ℕ) (test : Option PackageWordOf → Bool) (same : Bool)
    → ((in_package : Option PackageWordOf) → list_any f (words_with type_name entry_name in_package) ≡ (test in_package && same))
    → (words : List (Option PackageWordOf)) → list_any f (flat_map (words_with type_name entry_name) words) ≡ (list_any test words && same)
any-words f type_name entry_name test same each [] = refl
any-words f type_name entry_name test same each (in_package ∷ words) =
    list_any-append f (words_with type_name entry_name in_package) (flat_map (words_with type_name entry_name) words)
    ∙ ap (λ (any : Bool). any || list_any f (flat_map (words_with type_name entry_name) words)) (each in_package)
    ∙ ap (λ (any : Bool). (test in_package && same) || any) (any-words f type_name entry_name test same each words)
    ∙ both-and (test in_package) (list_any test words) same

-- an id is that of a side, and never a label
id-sides : (id : ResId) (sides : Sides) → list_any (is_same (by_id id)) (words_for_sides sides) ≡ is_on_a_side id sides
id-sides id (Removed old) = or-false (id.0 == old.0)
id-sides id (Added new) = or-false (id.0 == new.0)
id-sides id (Both old new) = ap (λ (b : Bool). id.0 == old.0 || b) (or-false (id.0 == new.0))

id-label : (packages : List PackageNameOf) (number : ℕ) (id : ResId) (label : LabelOf) → list_any (is_same (by_id id)) (words_for_label packages number label) ≡ false
id-label packages number id (ByName name) =
    any-words (is_same (by_id id)) name.type_name name.entry_name (λ in_package. false) false (λ in_package. refl) (words_of_package packages number)
    ∙ and-false (list_any (λ in_package. false) (words_of_package packages number))
id-label packages number id (ById other) = refl

-- a name and a type are those of a label, and never a side
name-sides : (in_package : Option PackageWordOf) (type_name entry_name : List ℕ) (sides : Sides) → list_any (is_same (SetOfOne (word.ByName in_package type_name entry_name))) (words_for_sides sides) ≡ false
name-sides in_package type_name entry_name (Removed old) = refl
name-sides in_package type_name entry_name (Added new) = refl
name-sides in_package type_name entry_name (Both old new) = refl

name-label : (packages : List PackageNameOf) (number : ℕ) (in_package : Option PackageWordOf) (type_name entry_name : List ℕ) (label : LabelOf)
    → list_any (is_same (SetOfOne (word.ByName in_package type_name entry_name))) (words_for_label packages number label) ≡ (is_asked_in packages in_package number && is_named type_name entry_name label)
name-label packages number in_package type_name entry_name (ByName name) =
    let same = is_named type_name entry_name (ByName name) in
    any-words (is_same (SetOfOne (word.ByName in_package type_name entry_name))) name.type_name name.entry_name (is_same_package in_package) same
    (λ other. or-false (is_same_package in_package other && same)) (words_of_package packages number)
    ∙ ap (λ (any : Bool). any && same) (package-words packages in_package number)
name-label packages number in_package type_name entry_name (ById id) = sym (and-false (is_asked_in packages in_package number))

type-sides : (in_package : Option PackageWordOf) (type_name : List ℕ) (sides : Sides) → list_any (is_same (SetOfType in_package type_name)) (words_for_sides sides) ≡ false
type-sides in_package type_name (Removed old) = refl
type-sides in_package type_name (Added new) = refl
type-sides in_package type_name (Both old new) = refl

type-label : (packages : List PackageNameOf) (number : ℕ) (in_package : Option PackageWordOf) (type_name : List ℕ) (label : LabelOf)
    → list_any (is_same (SetOfType in_package type_name)) (words_for_label packages number label) ≡ (is_asked_in packages in_package number && is_of_type type_name label)
type-label packages number in_package type_name (ByName name) =
    let same = is_of_type type_name (ByName name) in
    any-words (is_same (SetOfType in_package type_name)) name.type_name name.entry_name (is_same_package in_package) same
    (λ other. or-false (is_same_package in_package other && same)) (words_of_package packages number)
    ∙ ap (λ (any : Bool). any && same) (package-words packages in_package number)
type-label packages number in_package type_name (ById id) = sym (and-false (is_asked_in packages in_package number))

-- ---- a pair

-- a word asks for a pair where it is among the words that do
pub asks-words : (packages : List PackageNameOf) (one : NamedSetOf) (pair : PairOf) → list_any (is_same one) (words_for packages pair) ≡ asks_for packages one pair
asks-words packages (SetOfOne (word.ById id)) pair =
    let number = package_of (id_of_pair pair) in
    list_any-append (is_same (by_id id)) (words_for_sides pair.sides) (words_for_label packages number pair.label)
    ∙ ap (λ (b : Bool). list_any (is_same (by_id id)) (words_for_sides pair.sides) || b) (id-label packages number id pair.label)
    ∙ or-false (list_any (is_same (by_id id)) (words_for_sides pair.sides)) ∙ id-sides id pair.sides
asks-words packages (SetOfOne (word.ByName in_package type_name entry_name)) pair =
    let number = package_of (id_of_pair pair) in
    let one = SetOfOne (word.ByName in_package type_name entry_name) in
    list_any-append (is_same one) (words_for_sides pair.sides) (words_for_label packages number pair.label)
    ∙ ap (λ (b : Bool). b || list_any (is_same one) (words_for_label packages number pair.label)) (name-sides in_package type_name entry_name pair.sides)
    ∙ name-label packages number in_package type_name entry_name pair.label
asks-words packages (SetOfType in_package type_name) pair =
    let number = package_of (id_of_pair pair) in
    let one = SetOfType in_package type_name in
    list_any-append (is_same one) (words_for_sides pair.sides) (words_for_label packages number pair.label)
    ∙ ap (λ (b : Bool). b || list_any (is_same one) (words_for_label packages number pair.label)) (type-sides in_package type_name pair.sides)
    ∙ type-label packages number in_package type_name pair.label
asks-words packages SetOfAll pair = refl

-- ---- what was found for a word

pub found_as : (words : AskedWords) (key : NamedSet) → get order words.words key ≡ found_for words (named_set_of key)
found_as words key = ap (λ (test : NamedSet → Bool). lookup test words.words.entries) (fun_ext (λ (other : NamedSet). same_set key other))

found_at : (words : AskedWords) (one : NamedSetOf) → get order words.words (at_word one) ≡ found_for words one
found_at words one = found_as words (at_word one) ∙ ap (found_for words) (named_set_of-at one)

-- a word has what was put for it, and others have what they had
put-at : (key : NamedSet) (found : Found) (old new : AskedWords) → ((q : NamedSet) → get order new.words q ≡ cond (is_at (order key) q) (Some found) (get order old.words q))
    → (one : NamedSetOf) → found_for new one ≡ cond (is_same one (named_set_of key)) (Some found) (found_for old one)
put-at key found old new updates one =
    let there = named_set_of key in
    let same : is_at (order key) (at_word one) ≡ is_same one there = same_set key (at_word one) ∙ ap (is_same there) (named_set_of-at one) ∙ is_same-sym there one in
    sym (found_at new one)
    ∙ updates (at_word one)
    ∙ ap (λ (b : Bool). cond b (Some found) (get order old.words (at_word one))) same
    ∙ ap (λ (before : Option Found). cond (is_same one there) (Some found) before) (found_at old one)

-- ---- the words that are asked

pub record AreNothing (sets : List NamedSetOf) (words : AskedWords) : Type 0 where
  pub each : (one : NamedSetOf) → found_for words one ≡ cond (list_any (is_same one) sets) (Some Nothing) None

pub nothing-more : (sets : List NamedSetOf) (key : NamedSet) (old new : AskedWords) → AreNothing sets old
    → ((q : NamedSet) → get order new.words q ≡ cond (is_at (order key) q) (Some Nothing) (get order old.words q)) → AreNothing (sets ++ named_set_of key ∷ []) new
nothing-more sets key old new before updates = record {
  each = λ one.
      let same = is_same one (named_set_of key) in
      put-at key Nothing old new updates one
      ∙ ap (λ (found : Option Found). cond same (Some Nothing) found) (before.each one)
      ∙ by same (list_any (is_same one) sets)
      ∙ ap (λ (any : Bool). cond any (Some Nothing) None) (sym (list_any-append (is_same one) sets (named_set_of key ∷ [])));
}
  where
    by : (a b : Bool) → cond a (Some Nothing) (cond b (Some Nothing) None) ≡ cond (b || (a || false)) (Some Nothing) None
    by true true = refl
    by true false = refl
    by false true = refl
    by false false = refl

-- ---- an id that is put

kept : (found : Option Found) → found ≡ option_map (λ one. one) found
kept None = refl
kept (Some found) = refl

-- a word that is asked
pub put-one : (key : NamedSet) (id : ResId) (found more : Found) (old new : AskedWords) → get order old.words key ≡ Some found → more ≡ also found id
    → ((q : NamedSet) → get order new.words q ≡ cond (is_at (order key) q) (Some more) (get order old.words q)) → PutsFor (named_set_of key ∷ []) id old new true
put-one key id found more old new is also_is updates = record {
  put = λ one.
      put-at key more old new updates one ∙ ap (λ (put : Found). cond (is_same one (named_set_of key)) (Some put) (found_for old one)) also_is
      ∙ by one (is_same one (named_set_of key)) refl;
  asks = sym (ap (λ (told : Option Found). is_some told || false) here);
}
  where
    here : found_for old (named_set_of key) ≡ Some found
    here = sym (found_as old key) ∙ is

    by : (one : NamedSetOf) (b : Bool) → is_same one (named_set_of key) ≡ b
        → cond b (Some (also found id)) (found_for old one) ≡ option_map (λ before. cond (b || false) (also before id) before) (found_for old one)
    by one true same = sym (ap (λ (told : Option Found). option_map (λ before. also before id) told) (ap (found_for old) (is_same-is one (named_set_of key) same) ∙ here))
    by one false same = kept (found_for old one)

-- another word
pub put-not : (key : NamedSet) (id : ResId) (words : AskedWords) → get order words.words key ≡ None → PutsFor (named_set_of key ∷ []) id words words false
put-not key id words is = record {
  put = λ one. by one (is_same one (named_set_of key)) refl;
  asks = sym (ap (λ (told : Option Found). is_some told || false) here);
}
  where
    here : found_for words (named_set_of key) ≡ None
    here = sym (found_as words key) ∙ is

    by : (one : NamedSetOf) (b : Bool) → is_same one (named_set_of key) ≡ b
        → found_for words one ≡ option_map (λ before. cond (b || false) (also before id) before) (found_for words one)
    by one true same =
        let told = ap (found_for words) (is_same-is one (named_set_of key) same) ∙ here in
        told ∙ sym (ap (λ (told : Option Found). option_map (λ before. also before id) told) told)
    by one false same = kept (found_for words one)

-- ---- several words

pub put-none : (id : ResId) (words : AskedWords) → PutsFor [] id words words false
put-none id words = record { put = λ one. kept (found_for words one); asks = refl }

-- no word comes or goes
has-kept : (f : Found → Found) (old new : Option Found) → new ≡ option_map f old → is_some new ≡ is_some old
has-kept f None new is = ap is_some is
has-kept f (Some found) new is = ap is_some is

pub put-more : (so_far : List NamedSetOf) (more : NamedSetOf) (id : ResId) (old now new : AskedWords) (some own : Bool) → PutsFor so_far id old now some → PutsFor (more ∷ []) id now new own
    → PutsFor (so_far ++ more ∷ []) id old new (some || own)
put-more so_far more id old now new some own before put = record {
  put = λ one.
      put.put one
      ∙ ap (λ (found : Option Found). option_map (λ found. cond (is_same one more || false) (also found id) found) found) (before.put one)
      ∙ by (list_any (is_same one) so_far) (is_same one more || false) (found_for old one)
      ∙ ap (λ (any : Bool). option_map (λ found. cond any (also found id) found) (found_for old one)) (sym (list_any-append (is_same one) so_far (more ∷ [])));
  asks =
      ap (λ (b : Bool). b || own) before.asks
      ∙ ap (λ (b : Bool). list_any (has_word old) so_far || b) (put.asks ∙ ap (λ (b : Bool). b || false) (has-kept _ (found_for old more) (found_for now more) (before.put more)))
      ∙ sym (list_any-append (has_word old) so_far (more ∷ []));
}
  where
    by : (a b : Bool) (told : Option Found)
        → option_map (λ found. cond b (also found id) found) (option_map (λ found. cond a (also found id) found) told) ≡ option_map (λ found. cond (a || b) (also found id) found) told
    by a b None = refl
    by true true (Some found) = ap (λ (one : Found). Some one) (also-again found id)
    by true false (Some found) = refl
    by false true (Some found) = refl
    by false false (Some found) = refl

-- ---- several pairs

among-more : (ids : List ResId) (id : ResId) → found_among (ids ++ id ∷ []) ≡ also (found_among ids) id
among-more ids id = sym (each-among (ids ++ id ∷ [])) ∙ each-append Nothing ids (id ∷ []) ∙ ap (λ (found : Found). also found id) (each-among ids)

kept-more : (test : PairOf → Bool) (pairs : List PairOf) (pair : PairOf) → filter test (pairs ++ pair ∷ []) ≡ filter test pairs ++ cond (test pair) (pair ∷ []) []
kept-more test [] pair = refl
kept-more test (first ∷ pairs) pair = by (test first) (kept-more test pairs pair)
  where
    by : (kept : Bool) → filter test (pairs ++ pair ∷ []) ≡ filter test pairs ++ cond (test pair) (pair ∷ []) []
        → cond kept (first ∷ filter test (pairs ++ pair ∷ [])) (filter test (pairs ++ pair ∷ [])) ≡ cond kept (first ∷ filter test pairs) (filter test pairs) ++ cond (test pair) (pair ∷ []) []
    by true others = ap (λ (all : List PairOf). first ∷ all) others
    by false others = others

pub asked-none : (packages : List PackageNameOf) (sets : List NamedSetOf) (words : AskedWords) → AreNothing sets words → AreAsked packages sets [] words
asked-none packages sets words are = are.each

pub asked-more : (packages : List PackageNameOf) (sets : List NamedSetOf) (pairs : List PairOf) (pair : PairOf) (old new : AskedWords) (asked : Bool) → AreAsked packages sets pairs old
    → PutsFor (words_for packages pair) (id_of_pair pair) old new asked → AreAsked packages sets (pairs ++ pair ∷ []) new
asked-more packages sets pairs pair old new asked before put = λ one.
    let test = asks_for packages one in
    let ids = map id_of_pair (filter test pairs) in
    put.put one
    ∙ ap (λ (any : Bool). option_map (λ found. cond any (also found (id_of_pair pair)) found) (found_for old one)) (asks-words packages one pair)
    ∙ ap (λ (told : Option Found). option_map (λ found. cond (test pair) (also found (id_of_pair pair)) found) told) (before one)
    ∙ by (list_any (is_same one) sets) ids (test pair)
    ∙ sym (ap (λ (kept : List PairOf). cond (list_any (is_same one) sets) (Some (found_among (map id_of_pair kept))) None) (kept-more test pairs pair)
    ∙ ap (λ (ids : List ResId). cond (list_any (is_same one) sets) (Some (found_among ids)) None) (map-append id_of_pair (filter test pairs) (cond (test pair) (pair ∷ []) [])))
  where
    by : (there : Bool) (ids : List ResId) (asks : Bool)
        → option_map (λ found. cond asks (also found (id_of_pair pair)) found) (cond there (Some (found_among ids)) None) ≡ cond there (Some (found_among (ids ++ map id_of_pair (cond asks (pair ∷ []) [])))) None
    by false ids asks = refl
    by true ids true = ap (λ (found : Found). Some found) (sym (among-more ids (id_of_pair pair)))
    by true ids false = ap (λ (ids : List ResId). Some (found_among ids)) (sym (append-nil ids))

-- a word is one of these where it is asked
pub has-asked : (packages : List PackageNameOf) (sets : List NamedSetOf) (pairs : List PairOf) (words : AskedWords) → AreAsked packages sets pairs words
    → (one : NamedSetOf) → has_word words one ≡ list_any (is_same one) sets
has-asked packages sets pairs words are one = ap is_some (are one) ∙ by (list_any (is_same one) sets)
  where
    by : (there : Bool) → is_some (cond there (Some (found_of_pairs packages pairs one)) None) ≡ there
    by true = refl
    by false = refl

-- what was found for a word that is asked
any-at : (test : NamedSetOf → Bool) (sets : List NamedSet) (place : ℕ) (d : NamedSet) → place < length sets → test (named_set_of (get_or sets place d)) ≡ true → list_any test (map named_set_of sets) ≡ true
any-at test [] place d on is = absurd (omega (arith, on))
any-at test (set ∷ sets) zero d on is = ap (λ (b : Bool). b || list_any test (map named_set_of sets)) is
any-at test (set ∷ sets) (suc place) d on is = ap (λ (b : Bool). test (named_set_of set) || b) (any-at test sets place d (omega (arith, on)) is) ∙ or-true (test (named_set_of set))

pub found-asked : (packages : List PackageNameOf) (sets : List NamedSet) (pairs : List PairOf) (words : AskedWords) (place : ℕ) (d : NamedSet) → AreAsked packages (map named_set_of sets) pairs words
    → place < length sets → or_nothing (found_for words (named_set_of (get_or sets place d))) ≡ found_of_pairs packages pairs (named_set_of (get_or sets place d))
found-asked packages sets pairs words place d are on =
    let one = named_set_of (get_or sets place d) in
    ap or_nothing (are one
    ∙ ap (λ (there : Bool). cond there (Some (found_of_pairs packages pairs one)) None) (any-at (is_same one) sets place d on (is_same-itself one)))

-- ---- the names of packages

-- the words for one package more
pub called-more : {V : Type 0} (before old new : List V) (g : Option PackageWordOf → List V) (number : ℕ) (packages : List PackageName) (place : ℕ) (found : PackageName) → place < length packages
    → found ≡ get_or packages place found → old ≡ before ++ flat_map g (flat_map (word_of_package number) (map package_name_of (take place packages)))
    → new ≡ old ++ flat_map g (word_of_package number (package_name_of found))
    → new ≡ before ++ flat_map g (flat_map (word_of_package number) (map package_name_of (take (place + 1) packages)))
called-more {V} before old new g number packages place found on is so_far put =
    let words = word_of_package number in
    let seen = map package_name_of (take place packages) in
    let here = words (package_name_of found) in
    let one_more : flat_map words (map package_name_of (take (place + 1) packages)) ≡ flat_map words seen ++ here =
    ap (flat_map words) (map_more package_name_of packages place found on ∙ ap (λ (p : PackageName). seen ++ package_name_of p ∷ []) (sym is))
    ∙ flat_map-append words seen (package_name_of found ∷ []) ∙ ap (λ (more : List (Option PackageWordOf)). flat_map words seen ++ more) (append-nil here) in
    put
    ∙ ap (λ (vs : List V). vs ++ flat_map g here) so_far
    ∙ append_assoc before (flat_map g (flat_map words seen)) (flat_map g here)
    ∙ ap (λ (vs : List V). before ++ vs) (sym (ap (flat_map g) one_more ∙ flat_map-append g (flat_map words seen) here))
