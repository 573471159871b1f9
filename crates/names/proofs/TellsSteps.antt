-- What names stand for, told name by name.
use Rattle.std.proofs.Common.{◌≡◌, ℕ, ◌≤◌, Bool, true, cond, inl, inr, List, ◌∷◌, ◌++◌, Bor, map, length, drop, Option, Some, None, refl, sym, ap, subst, ◌∙◌, append_assoc, arith}
use Rattle.std.proofs.lemmas.Bool.{cases_Bool}
use Rattle.std.proofs.lemmas.List.{drop_all}
use Rattle.std.proofs.lemmas.Simd.{map-map}
use Rattle.std.proofs.lemmas.List.Folds.{flat_map-map}
use Rattle.std.proofs.lemmas.Map.Text.{is_eq-slice_cmp}
use Rattle.std.proofs.lemmas.Slice.Eq.{bytes_eq-Decides}
use Rattle.std.specs.BTreeMap.{IsEmpty, get, is_at}
use Rattle.std.specs.List.{flat_map}
use Rattle.std.specs.Map.{lookup}
use Rattle.std.specs.Option.{option_map, unwrap_or}
use Rattle.std.specs.Vec.Iter.{into_iter_items, into_iter_steps}
use Rattle.overlay_map.specs.Table.{TableOf}
use Rattle.overlay_map.specs.Layer.{LayerOf, base_tables}
use Rattle.names.specs.declared.found.Found.{Found}
use Rattle.names.specs.declared.found.Found.TheVariants.{Nothing}
use Rattle.names.specs.declared.wanted.Wanted.{Wanted}
use Rattle.names.specs.Found.{found_among}
use Rattle.names.specs.Names.{WantedOf, wanted_of, ids_with}
use Rattle.names.specs.declared.named.Named.{Named}
use Rattle.names.specs.Named.{named_of}
use Rattle.names.specs.declared.finder.Finder.{Finder}
use Rattle.names.specs.AskedNames.{names_in}
use Rattle.names.specs.Finder.{Ids, Known, AreKnown, Tells, type_cmp}
use Rattle.names.specs.NamedIds.{found_of_name, ids_of_rows, packages_of}
use Rattle.names.specs.Packages.{PackageNameOf, package_name_of}

-- the names of the first of several words, and those of the words behind it
pub Tells-first : {V : Type 0} (names_of : V → List WantedOf) (layers : List LayerOf) (finder : Finder) (left others : List V) (word : V)
    → Tells layers (flat_map names_of left) finder → left ≡ word ∷ others → Tells layers (names_of word ++ flat_map names_of others) finder
Tells-first {V} names_of layers finder left others word before split =
    subst (λ (names : List WantedOf). Tells layers names finder) (ap (λ (words : List V). flat_map names_of words) split) before

-- the same where other names stand behind those of the words
pub Tells-first_of : {V : Type 0} (names_of : V → List WantedOf) (layers : List LayerOf) (finder : Finder) (left others : List V) (word : V) (behind : List WantedOf)
    → Tells layers (flat_map names_of left ++ behind) finder → left ≡ word ∷ others → Tells layers (names_of word ++ (flat_map names_of others ++ behind)) finder
Tells-first_of {V} names_of layers finder left others word behind before split =
    subst (λ (names : List WantedOf). Tells layers names finder)
    (ap (λ (words : List V). flat_map names_of words ++ behind) split ∙ append_assoc (names_of word) (flat_map names_of others) behind) before

-- behind the last word
pub Tells-behind : {V : Type 0} (names_of : V → List WantedOf) (layers : List LayerOf) (finder : Finder) (words : List V) (place : ℕ) (behind : List WantedOf)
    → Tells layers (flat_map names_of (drop place words) ++ behind) finder → length words ≤ place → Tells layers behind finder
Tells-behind {V} names_of layers finder words place behind before past =
    subst (λ (names : List WantedOf). Tells layers names finder) (ap (λ (left : List V). flat_map names_of left ++ behind) (drop_all place words past)) before

-- an attribute, and its styles
pub Tells-attr : (layers : List LayerOf) (finder : Finder) (attr : Named) (styles : List Named) (behind : List WantedOf)
    → Tells layers ((names_in (named_of attr) ++ flat_map names_in (map named_of styles)) ++ behind) finder
    → Tells layers (names_in (named_of attr) ++ (flat_map (λ named. names_in (named_of named)) styles ++ behind)) finder
Tells-attr layers finder attr styles behind before =
    subst (λ (names : List WantedOf). Tells layers names finder)
    (append_assoc (names_in (named_of attr)) (flat_map names_in (map named_of styles)) behind
    ∙ ap (λ (names : List WantedOf). names_in (named_of attr) ++ (names ++ behind)) (flat_map-map names_in named_of styles)) before

-- the first name, and those behind it
pub told-first : (layers : List LayerOf) (name : WantedOf) (names : List WantedOf) (old new : Finder) (told : Option Found) → Tells layers (name ∷ names) old
    → new.tables ≡ old.tables → new.packages ≡ old.packages → AreKnown layers new.known → into_iter_steps old.found told new.found
    → (unwrap_or told Nothing ≡ found_of_name layers name) × Tells layers names new
told-first layers name names old new None before same same_packages known step = absurd (omega (arith, step.0, old.found.rest.ok.0, ap length before.found))
told-first layers name names old new (Some found) before same same_packages known step =
    let split : found ∷ into_iter_items new.found ≡ found_of_name layers name ∷ map (found_of_name layers) names = sym step.0 ∙ before.found in
    let first : found ≡ found_of_name layers name = cc in
    let others : into_iter_items new.found ≡ map (found_of_name layers) names = cc in (
      first,
      record {
        tables = subst (λ tables. map (λ table. table.now) tables.items ≡ base_tables layers) (sym same) before.tables;
        packages = subst (λ packages. map package_name_of packages.items ≡ packages_of layers) (sym same_packages) before.packages;
        found = others;
        known = known;
      },
    )

-- ---- what is known of types

one-type : (a b : Option (Bor (List ℕ))) → is_at (type_cmp a) b ≡ true → option_map (λ name. name.now) a ≡ option_map (λ name. name.now) b
one-type None None is = refl
one-type None (Some b) is = absurd cc
one-type (Some a) None is = absurd cc
one-type (Some a) (Some b) is =
    let wrapped : List ℕ → Option (List ℕ) = λ name. Some name in
    ap wrapped ((bytes_eq-Decides a.now b.now).0 (sym (is_eq-slice_cmp a.now b.now) ∙ is))

-- nothing is known
pub known-none : (layers : List LayerOf) (known : Known) → IsEmpty known → AreKnown layers known
known-none layers known none = λ type_name ids found.
    (let empty : None ≡ Some ids = sym (ap (λ (entries : List (Option (Bor (List ℕ)) × Ids)). lookup (is_at (type_cmp type_name)) entries) none) ∙ found in absurd cc)

-- one type more
pub known-more : (layers : List LayerOf) (old new : Known) (type_name : Option (Bor (List ℕ))) (ids : Ids) → AreKnown layers old
    → ((name : Option (Bor (List ℕ))) → get type_cmp new name ≡ cond (is_at (type_cmp type_name) name) (Some ids) (get type_cmp old name))
    → ids_of_rows layers (option_map (λ name. name.now) type_name) ≡ ids.value.items → AreKnown layers new
known-more layers old new type_name ids before update are = λ name found_ids found.
    elim (cases_Bool (is_at (type_cmp type_name) name)) [
      | inl is ↦ (let same : Some ids ≡ Some found_ids = sym (update name ∙ ap (λ (here : Bool). cond here (Some ids) (get type_cmp old name)) is) ∙ found in
          let it : ids ≡ found_ids = cc in
          ap (ids_of_rows layers) (sym (one-type type_name name is)) ∙ are ∙ ap (λ (given : Ids). given.value.items) it)
      | inr not ↦ before name found_ids (sym (update name ∙ ap (λ (here : Bool). cond here (Some ids) (get type_cmp old name)) not) ∙ found)
    ]

-- ---- what was found of names

pub found-told : (layers : List LayerOf) (seen : List TableOf) (packages : List PackageNameOf) (names : List Wanted) (found : List Found) → seen ≡ base_tables layers
    → packages ≡ packages_of layers → found ≡ map (λ one. found_among (ids_with packages seen (wanted_of one))) names
    → found ≡ map (found_of_name layers) (map wanted_of names)
found-told layers seen packages names found same same_packages are =
    are
    ∙ ap (λ (tables : List TableOf). map (λ one. found_among (ids_with packages tables (wanted_of one))) names) same
    ∙ ap (λ (all : List PackageNameOf). map (λ one. found_among (ids_with all (base_tables layers) (wanted_of one))) names) same_packages
    ∙ sym (map-map (found_of_name layers) wanted_of names)
