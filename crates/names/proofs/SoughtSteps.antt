-- What is known of names after some rows.
use Rattle.std.proofs.Common.{◌≡◌, ℕ, ◌<◌, ◌≤◌, inl, inr, Bool, true, false, Option, Some, None, List, [], ◌∷◌, ◌++◌, map, find, filter, length, set, get_or, refl, sym, ap, subst, ◌∙◌, cond, arith, ⊎_elim}
use Rattle.std.proofs.lemmas.Bool.{cases_Bool, cases_eq, and_parts}
use Rattle.std.proofs.lemmas.Grind.{get_or-set_at}
use Rattle.std.proofs.lemmas.List.{ext_get_or, get_or-map, get_or-set_other, get_or_default, length-map, length-set, nil_from_length}
use Rattle.std.proofs.lemmas.List.Elements.{Contains-push_cases}
use Rattle.std.specs.List.{Contains, flat_map}
use Rattle.std.proofs.lemmas.Slice.Eq.{bytes_eq-Decides}
use Rattle.std.specs.Option.{option_map, option_map_or, option_or}
use Rattle.std.specs.Str.{bytes_eq}
use Rattle.overlay_map.specs.Names.{key_name_in, type_name_in}
use Rattle.overlay_map.specs.Table.{TableOf, rows_of}
use Rattle.overlay_map.specs.res_value.ResId.{package_of}
use Rattle.overlay_map.specs.res_value.declared.res_id.ResId.{ResId}
use Rattle.overlay_map.specs.type_chunks.Row.{RowOf}
use Rattle.names.specs.declared.found.Found.{Found}
use Rattle.names.specs.declared.packages.Packages.{Packages}
use Rattle.names.specs.declared.places.Places.{Places}
use Rattle.names.specs.declared.name.Name.{Name}
use Rattle.names.specs.declared.sought.Sought.{Sought}
use Rattle.names.specs.declared.wanted.Wanted.{Wanted}
use Rattle.names.specs.Found.{found_among}
use Rattle.names.specs.FoundSoFar.{also_each, also_if, first_of}
use Rattle.names.specs.NameText.{name_text}
use Rattle.names.specs.Names.{NameOf, name_of, wanted_of, id_of_row, ids_in, ids_with, in_any_package, is_name, has_names, found_in_tables}
use Rattle.names.specs.Packages.{is_asked_in, package_name_of}
use Rattle.names.specs.Places.{places_at}
use Rattle.names.specs.Sought.{has_name, noted, noted_each, noted_in, unfound, entry_names, ArePlacesOf, IsNotedAt}
use Rattle.names.proofs.FoundLaws.{each-among, each-append, first-among, if-again}

true_not_false : true ≡ false → ⊥
true_not_false same = cc

-- a row that was noted and is noted again
pub noted-noted : (table : TableOf) (row : RowOf) (one : Sought) → noted table row (noted table row one) ≡ noted table row one
noted-noted table row one = ap (λ (found : Found). record one { found = found }) (if-again one.found (has_name table one row) (id_of_row row))

-- a row that does not have the name
pub noted-other : (table : TableOf) (row : RowOf) (one : Sought) → has_name table one row ≡ false → noted table row one ≡ one
noted-other table row one other = ap (λ (has : Bool). record one { found = also_if one.found has (id_of_row row) }) other

each-next : (found : Found) (has : Bool) (row : RowOf) (behind : List RowOf)
    → also_each (also_if found has (id_of_row row)) (map id_of_row behind) ≡ also_each found (map id_of_row (cond has (row ∷ behind) behind))
each-next found true row behind = refl
each-next found false row behind = refl

-- one row, and those behind it
pub noted_each-next : (table : TableOf) (row : RowOf) (rows : List RowOf) (one : Sought) → noted_each table rows (noted table row one) ≡ noted_each table (row ∷ rows) one
noted_each-next table row rows one =
    ap (λ (found : Found). record one { found = found }) (each-next one.found (has_name table one row) row (filter (has_name table one) rows))

pub map-noted_each-next : (table : TableOf) (row : RowOf) (rows : List RowOf) (sought : List Sought)
    → map (noted_each table rows) (map (noted table row) sought) ≡ map (noted_each table (row ∷ rows)) sought
map-noted_each-next table row rows [] = refl
map-noted_each-next table row rows (one ∷ others) =
    ap (λ (o : Sought). o ∷ map (noted_each table rows) (map (noted table row) others)) (noted_each-next table row rows one)
    ∙ ap (λ (os : List Sought). noted_each table (row ∷ rows) one ∷ os) (map-noted_each-next table row rows others)

-- no row
pub map-noted_each-none : (table : TableOf) (sought : List Sought) → map (noted_each table []) sought ≡ sought
map-noted_each-none table [] = refl
map-noted_each-none table (one ∷ others) = ap (λ (os : List Sought). one ∷ os) (map-noted_each-none table others)

-- rows change no name
pub entry_names-noted : (table : TableOf) (row : RowOf) (sought : List Sought) → entry_names (map (noted table row) sought) ≡ entry_names sought
entry_names-noted table row [] = refl
entry_names-noted table row (one ∷ others) = ap (λ (names : List (List ℕ)). one.wanted.name.entry_name.now ∷ names) (entry_names-noted table row others)

-- ---- the places of a row's name

is-some : (own : Option (List ℕ)) (text : List ℕ) → option_map_or (λ t. bytes_eq t text) own false ≡ true → own ≡ Some text
is-some (Some own) text is = ap (λ (t : List ℕ). Some t) ((bytes_eq-Decides own text).0 is)
is-some None text is = absurd (true_not_false (sym is))

entry_name-has : (table : TableOf) (row : RowOf) (one : Sought) → has_name table one row ≡ true → name_text (key_name_in table row) ≡ Some one.wanted.name.entry_name.now
entry_name-has table row one has =
    let wanted = wanted_of one.wanted in
    let names = has_names table wanted.name.type_name wanted.name.entry_name row in
    let parts = and_parts (is_asked_in (map package_name_of one.packages.all.now) wanted.in_package (package_of (id_of_row row))) names has in
    is-some (name_text (key_name_in table row)) one.wanted.name.entry_name.now
    (and_parts (is_name (type_name_in table row) wanted.name.type_name) (is_name (key_name_in table row) wanted.name.entry_name) parts.1).1

some_same : (x y : List ℕ) → Some x ≡ Some y → x ≡ y
some_same x y same = cc

none_not_some : (x : List ℕ) → None ≡ Some x → ⊥
none_not_some x same = cc

-- the places have each name that the row has
abbrev HaveNamed : TableOf → RowOf → List ℕ → List Sought → Type 0
HaveNamed table row places sought = (place : ℕ) (d : Sought) → place < length sought → has_name table (get_or sought place d) row ≡ true → Contains places place

-- the entry's name of a row that has the name of a place
named-text : (table : TableOf) (row : RowOf) (sought : List Sought) (place : ℕ) (d : Sought) → place < length sought
    → has_name table (get_or sought place d) row ≡ true → name_text (key_name_in table row) ≡ Some (get_or (entry_names sought) place [])
named-text table row sought place d within has =
    let entry_name : Sought → List ℕ = λ one. one.wanted.name.entry_name.now in
    entry_name-has table row (get_or sought place d) has ∙ ap (λ (t : List ℕ). Some t) (sym (get_or-map entry_name sought place d [] within))

named-places : (table : TableOf) (row : RowOf) (places : Places) (bytes : List ℕ) (sought : List Sought) → name_text (key_name_in table row) ≡ Some bytes
    → ArePlacesOf places (entry_names sought) → HaveNamed table row (places_at places bytes) sought
named-places table row places bytes sought read all = λ place d within has.
    subst (λ (text : List ℕ). Contains (places_at places text) place)
    (sym (some_same _ _ (sym read ∙ named-text table row sought place d within has)))
    (all place (omega (arith, within, length-map sought (λ (one : Sought). one.wanted.name.entry_name.now))))

named-nowhere : (table : TableOf) (row : RowOf) (places : Places) (sought : List Sought) → name_text (key_name_in table row) ≡ None
    → ArePlacesOf places (entry_names sought) → HaveNamed table row [] sought
named-nowhere table row places sought read all = λ place d within has.
    absurd (none_not_some _ (sym read ∙ named-text table row sought place d within has))

-- a row that was noted at such places
noted-everywhere : (table : TableOf) (row : RowOf) (places : List ℕ) (old new : List Sought) → HaveNamed table row places old → IsNotedAt table row places old new
    → new ≡ map (noted table row) old
noted-everywhere table row places [] new named at = nil_from_length new at.same_length
noted-everywhere table row places (first ∷ others) new named at =
    let old = first ∷ others in
    ext_get_or first new (map (noted table row) old) (at.same_length ∙ sym (length-map old (noted table row))) (λ place within.
    let inside : place < length old = omega (arith, within, at.same_length) in
    let here : Sought = get_or old place first in
    let due = sym (get_or-map (noted table row) old place first first inside) in
    ⊎_elim
    (λ has. at.there place first inside (named place first inside has) ∙ due)
    (λ other. ⊎_elim (λ same. same ∙ sym (noted-other table row here other) ∙ due) (λ noted_here. noted_here ∙ due) (at.elsewhere place first inside))
    (cases_Bool (has_name table here row)))

pub is_noted : (table : TableOf) (row : RowOf) (places : Places) (bytes at : List ℕ) (old new : List Sought) → name_text (key_name_in table row) ≡ Some bytes
    → ArePlacesOf places (entry_names old) → at ≡ places_at places bytes → IsNotedAt table row at old new → new ≡ map (noted table row) old
is_noted table row places bytes at old new read all found noted_at =
    noted-everywhere table row at old new (subst (λ (ps : List ℕ). HaveNamed table row ps old) (sym found) (named-places table row places bytes old read all)) noted_at

pub IsNotedAt-none : (table : TableOf) (row : RowOf) (old : List Sought) → IsNotedAt table row [] old old
IsNotedAt-none table row old = record {
  same_length = refl;
  there = λ place d within among. absurd (omega (arith, among.1));
  elsewhere = λ place d within. inl refl;
}

-- a row whose name is no text
pub is_noted-nowhere : (table : TableOf) (row : RowOf) (places : Places) (sought : List Sought) → name_text (key_name_in table row) ≡ None → ArePlacesOf places (entry_names sought)
    → sought ≡ map (noted table row) sought
is_noted-nowhere table row places sought read all = noted-everywhere table row [] sought sought (named-nowhere table row places sought read all) (IsNotedAt-none table row sought)

-- one place more
pub IsNotedAt-next : (table : TableOf) (row : RowOf) (places : List ℕ) (place : ℕ) (old now : List Sought) (put e : Sought)
    → IsNotedAt table row places old now → place < length now → put ≡ noted table row (get_or now place e) → IsNotedAt table row (places ++ place ∷ []) old (set now place put)
IsNotedAt-next table row places place old now put e before within is =
    let inside : place < length old = omega (arith, within, before.same_length) in
    let here : (d : Sought) → put ≡ noted table row (get_or old place d) = λ d.
    let found = get_or_default now place e d within in
    ⊎_elim
    (λ same. is ∙ ap (λ (o : Sought). noted table row o) (found ∙ same))
    (λ already. is ∙ ap (λ (o : Sought). noted table row o) (found ∙ already) ∙ noted-noted table row (get_or old place d))
    (before.elsewhere place d inside) in
    let at_place : (at : ℕ) (d : Sought) → at ≡ place → get_or (set now place put) at d ≡ noted table row (get_or old at d) = λ at d same.
    get_or-set_at now place at put d same within ∙ here d ∙ ap (λ (k : ℕ). noted table row (get_or old k d)) (sym same) in
    record {
      same_length = length-set now place put ∙ before.same_length;
      there = λ at d lies among. ⊎_elim
          (λ same. at_place at d same)
          (λ apart. get_or-set_other now place at put d apart
          ∙ before.there at d lies (⊎_elim (λ so_far. so_far) (λ last. absurd (apart (sym last))) (Contains-push_cases places place at among)))
          (cases_eq at place);
      elsewhere = λ at d lies. ⊎_elim
          (λ same. inr (at_place at d same))
          (λ apart. ⊎_elim (λ kept. inl (get_or-set_other now place at put d apart ∙ kept)) (λ noted_there. inr (get_or-set_other now place at put d apart ∙ noted_there)) (before.elsewhere at d lies))
          (cases_eq at place);
    }

-- one place more, where no name is
pub IsNotedAt-past : (table : TableOf) (row : RowOf) (places : List ℕ) (place : ℕ) (old now : List Sought)
    → IsNotedAt table row places old now → length now ≤ place → IsNotedAt table row (places ++ place ∷ []) old now
IsNotedAt-past table row places place old now before past = record {
  same_length = before.same_length;
  there = λ at d within among. ⊎_elim (λ so_far. before.there at d within so_far) (λ last. absurd (omega (arith, last, past, within, before.same_length))) (Contains-push_cases places place at among);
  elsewhere = before.elsewhere;
}

-- ---- several tables

pub entry_names-noted_each : (table : TableOf) (rows : List RowOf) (sought : List Sought) → entry_names (map (noted_each table rows) sought) ≡ entry_names sought
entry_names-noted_each table rows [] = refl
entry_names-noted_each table rows (one ∷ others) = ap (λ (names : List (List ℕ)). one.wanted.name.entry_name.now ∷ names) (entry_names-noted_each table rows others)

pub entry_names-unfound : (packages : Packages) (names : List Wanted) → entry_names (map (unfound packages) names) ≡ map (λ one. one.name.entry_name.now) names
entry_names-unfound packages [] = refl
entry_names-unfound packages (one ∷ others) = ap (λ (texts : List (List ℕ)). one.name.entry_name.now ∷ texts) (entry_names-unfound packages others)

pub map-noted_in-next : (table : TableOf) (tables : List TableOf) (sought : List Sought)
    → map (noted_in tables) (map (noted_each table (rows_of table)) sought) ≡ map (noted_in (table ∷ tables)) sought
map-noted_in-next table tables [] = refl
map-noted_in-next table tables (one ∷ others) = ap (λ (os : List Sought). noted_in (table ∷ tables) one ∷ os) (map-noted_in-next table tables others)

pub map-noted_in-none : (sought : List Sought) → map (noted_in []) sought ≡ sought
map-noted_in-none [] = refl
map-noted_in-none (one ∷ others) = ap (λ (os : List Sought). one ∷ os) (map-noted_in-none others)

-- what is known of a name after some tables
found-after : (tables : List TableOf) (one : Sought)
    → (noted_in tables one).found ≡ also_each one.found (ids_with (map package_name_of one.packages.all.now) tables (wanted_of one.wanted))
unfolding ids_with
found-after [] one = refl
found-after (table ∷ tables) one =
    let ids = ids_in (map package_name_of one.packages.all.now) (wanted_of one.wanted) in
    found-after tables (noted_each table (rows_of table) one)
    ∙ sym (each-append one.found (ids table) (flat_map ids tables))

pub found-all : (packages : Packages) (tables : List TableOf) (names : List Wanted)
    → map (λ one. one.found) (map (noted_in tables) (map (unfound packages) names)) ≡ map (λ one. found_among (ids_with (map package_name_of packages.all.now) tables (wanted_of one))) names
found-all packages tables [] = refl
found-all packages tables (one ∷ others) =
    let here = found-after tables (unfound packages one) ∙ each-among (ids_with (map package_name_of packages.all.now) tables (wanted_of one)) in
    ap (λ (o : Found). o ∷ map (λ other. other.found) (map (noted_in tables) (map (unfound packages) others))) here
    ∙ ap (λ (os : List Found). found_among (ids_with (map package_name_of packages.all.now) tables (wanted_of one)) ∷ os) (found-all packages tables others)

-- ---- the first id of a name, in any package

first-row : (name : NameOf) (table : TableOf) (rows : List RowOf) (behind : List ResId)
    → option_map (λ id. id.0) (first_of (found_among (map id_of_row (filter (has_names table name.type_name name.entry_name) rows) ++ behind)))
    ≡ option_or (option_map (λ row. row.id) (find (has_names table name.type_name name.entry_name) rows)) (option_map (λ id. id.0) (first_of (found_among behind)))
first-row name table [] behind = refl
first-row name table (row ∷ rows) behind = by (has_names table name.type_name name.entry_name row) (first-row name table rows behind)
  where
    test : RowOf → Bool
    test other = has_names table name.type_name name.entry_name other

    by : (has : Bool) → option_map (λ id. id.0) (first_of (found_among (map id_of_row (filter test rows) ++ behind))) ≡ option_or (option_map (λ r. r.id) (find test rows)) (option_map (λ id. id.0) (first_of (found_among behind)))
        → option_map (λ id. id.0) (first_of (found_among (map id_of_row (cond has (row ∷ filter test rows) (filter test rows)) ++ behind)))
        ≡ option_or (option_map (λ r. r.id) (cond has (Some row) (find test rows))) (option_map (λ id. id.0) (first_of (found_among behind)))
    by true others = ap (option_map (λ id. id.0)) (first-among (id_of_row row) (map id_of_row (filter test rows) ++ behind))
    by false others = others

first-found : (tables : List TableOf) (name : Name)
    → option_map (λ id. id.0) (first_of (found_among (ids_with [] tables (wanted_of (in_any_package name))))) ≡ found_in_tables tables (name_of name)
unfolding ids_with
first-found [] name = refl
first-found (table ∷ tables) name =
    first-row (name_of name) table (rows_of table) (flat_map (ids_in [] (wanted_of (in_any_package name))) tables)
    ∙ ap (option_or (option_map (λ row. row.id) (find (has_names table (name_of name).type_name (name_of name).entry_name) (rows_of table)))) (first-found tables name)

pub first-all : (tables : List TableOf) (names : List Name)
    → map (option_map (λ id. id.0)) (map first_of (map (λ one. found_among (ids_with [] tables (wanted_of one))) (map in_any_package names))) ≡ map (λ name. found_in_tables tables (name_of name)) names
first-all tables [] = refl
first-all tables (name ∷ names) =
    ap (λ (o : Option ℕ). o ∷ map (option_map (λ id. id.0)) (map first_of (map (λ one. found_among (ids_with [] tables (wanted_of one))) (map in_any_package names)))) (first-found tables name)
    ∙ ap (λ (os : List (Option ℕ)). found_in_tables tables (name_of name) ∷ os) (first-all tables names)
