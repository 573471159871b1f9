-- The pairs of a map, made of the names of all ids at once.
use Rattle.std.proofs.Common.{◌≡◌, ℕ, ◌+◌, ◌<◌, ◌≤◌, ◌==◌, Bool, true, false, List, [], ◌∷◌, ◌++◌, map, length, drop, get_or, Option, Some, None, refl, sym, ap, ◌∙◌, arith, if◌then◌else◌}
use Rattle.std.specs.List.{cons_option, filter_map, flat_map, zip}
use Rattle.std.specs.Option.{option_map, option_or}
use Rattle.std.proofs.lemmas.List.{drop_all, drop_more, get_or-map, length-map}
use Rattle.std.proofs.lemmas.List.Elements.{filter_map-append}
use Rattle.std.proofs.lemmas.Simd.{map-map}
use Rattle.std.proofs.lemmas.Slice.Zip.{get_or-zip, length-zip}
use Rattle.command_base.specs.overlay_map.IdMap.{IdPair, MapOf, pairs_of}
use Rattle.command_base.specs.answer_text.res_value.declared.res_id.ResId.{ResId}
use Rattle.command_base.specs.answer_text.overlay_map.Names.{key_name_in, type_name_in}
use Rattle.command_base.specs.answer_text.overlay_map.Table.{TableOf, rows_of}
use Rattle.command_base.specs.answer_text.type_chunks.Row.{RowOf}
use Rattle.command_base.specs.names.Names.{NameOf, found_in, found_in_tables, name_of}
use Rattle.command_base.specs.names.declared.name.Name.{Name}
use Rattle.command_base.specs.names.NameText.{name_text}
use Rattle.command_base.specs.declared.pairs.NamedTarget.{NamedTarget}
use Rattle.command_base.specs.FirstRows.{first_rows}
use Rattle.command_base.specs.MadeMap.{found_by, own_of, package_of_row, pair_of, pairs_in}
use Rattle.command_base.specs.NamedTarget.{NamedOf, named_by, named_in, named_seen, own_found, own_seen, pair_with, pairs_with}
use Rattle.command_base.specs.PairSeen.{pair_seen}
use Rattle.command_base.proofs.LoopSteps.{GivesAllBut, GivesAllBut-none, GivesAllBut-push, GivesAllBut-skip, GivesAllBut-end}

-- the pair of an id, where the overlay has one of its name
abbrev found_pair : TableOf → NamedOf → Option (ℕ × ℕ)
found_pair overlay named = pair_with (named, own_found overlay named)

-- a row's pair is that of its names
by_names : (overlay : TableOf) (id : ℕ) (type_name entry_name : Option (List ℕ)) (others : MapOf)
    → cons_option (option_map (λ own. (id, own)) (found_by overlay type_name entry_name)) others ≡ filter_map (found_pair overlay) (named_by id type_name entry_name) ++ others
by_names overlay id (Some type_name) (Some entry_name) others = by (found_in overlay type_name entry_name)
  where
    by : (own : Option ℕ) → cons_option (option_map (λ own. (id, own)) own) others ≡ cons_option (option_map (λ own. (id, own)) own) [] ++ others
    by None = refl
    by (Some own) = refl
by_names overlay id (Some type_name) None others = refl
by_names overlay id None entry_name others = refl

by_name : (target overlay : TableOf) (package_id : ℕ) (row : RowOf) (others : MapOf)
    → cons_option (pair_of target overlay package_id row) others ≡ filter_map (found_pair overlay) (named_in target package_id row) ++ others
unfolding pair_of own_of named_in
by_name target overlay package_id row others = by (package_of_row row == package_id)
  where
    names : List NamedOf
    names = named_by row.id (name_text (type_name_in target row)) (name_text (key_name_in target row))

    by : (b : Bool) → cons_option (if b then option_map (λ own. (row.id, own)) (found_by overlay (name_text (type_name_in target row)) (name_text (key_name_in target row))) else None) others
        ≡ filter_map (found_pair overlay) (if b then names else []) ++ others
    by true = by_names overlay row.id (name_text (type_name_in target row)) (name_text (key_name_in target row)) others
    by false = refl

-- what is given by way of a list between
filter_map-twice : {A B C : Type 0} (f : A → Option C) (g : A → List B) (h : B → Option C) → ((x : A) (others : List C) → cons_option (f x) others ≡ filter_map h (g x) ++ others)
    → (xs : List A) → filter_map f xs ≡ filter_map h (flat_map g xs)
filter_map-twice f g h same [] = refl
filter_map-twice f g h same (x ∷ xs) =
    ap (cons_option (f x)) (filter_map-twice f g h same xs) ∙ same x (filter_map h (flat_map g xs)) ∙ sym (filter_map-append h (g x) (flat_map g xs))

zipped : (f : NamedOf → Option ℕ) (targets : List NamedOf) → pairs_with targets (map f targets) ≡ filter_map (λ named. pair_with (named, f named)) targets
zipped f [] = refl
zipped f (named ∷ targets) = ap (cons_option (pair_with (named, f named))) (zipped f targets)

-- the pairs of a package, where all its names were looked for at once
pub pairs_in-named : (target overlay : TableOf) (package_id : ℕ) (targets : List NamedOf) (found : List (Option ℕ)) (pairs : MapOf)
    → targets ≡ flat_map (named_in target package_id) (first_rows (rows_of target)) → found ≡ map (own_found overlay) targets → pairs ≡ pairs_with targets found
    → pairs ≡ pairs_in target overlay package_id
pairs_in-named target overlay package_id targets found pairs all own is =
    is ∙ ap (pairs_with targets) own ∙ zipped (own_found overlay) targets ∙ ap (filter_map (found_pair overlay)) all
    ∙ sym (filter_map-twice (pair_of target overlay package_id) (named_in target package_id) (found_pair overlay) (by_name target overlay package_id) (first_rows (rows_of target)))

-- found in a table alone
one_table : (found : Option ℕ) → option_or found None ≡ found
one_table None = refl
one_table (Some id) = refl

found-own : (overlay : TableOf) (targets : List NamedOf) → map (λ named. found_in_tables (overlay ∷ []) named.name) targets ≡ map (own_found overlay) targets
found-own overlay [] = refl
found-own overlay (named ∷ targets) =
    ap (λ (o : Option ℕ). o ∷ map (λ other. found_in_tables (overlay ∷ []) other.name) targets) (one_table (own_found overlay named))
    ∙ ap (λ (os : List (Option ℕ)). own_found overlay named ∷ os) (found-own overlay targets)

-- the same of the lists that the calls were given
pub pairs_in-found : (target overlay : TableOf) (package_id : ℕ) (targets lent shown : List NamedTarget) (found given : List (Option ResId)) (names asked : List Name)
    (tables : List TableOf) (pairs : MapOf) → map named_seen targets ≡ flat_map (named_in target package_id) (first_rows (rows_of target)) → lent ≡ targets
    → map name_of names ≡ map (λ named. (named_seen named).name) lent → asked ≡ names → tables ≡ overlay ∷ []
    → map own_seen found ≡ map (λ name. found_in_tables tables (name_of name)) asked → shown ≡ targets → given ≡ found
    → pairs ≡ pairs_with (map named_seen shown) (map own_seen given) → pairs ≡ pairs_in target overlay package_id
pairs_in-found target overlay package_id targets lent shown found given names asked tables pairs all at_lent named at_asked at_tables looked at_shown at_given is =
    let find : NameOf → Option ℕ = λ name. found_in_tables (overlay ∷ []) name in
    pairs_in-named target overlay package_id (map named_seen targets) (map own_seen found) pairs all
    (looked
    ∙ ap (λ (ts : List TableOf). map (λ name. found_in_tables ts (name_of name)) asked) at_tables
    ∙ ap (λ (ns : List Name). map (λ name. find (name_of name)) ns) at_asked
    ∙ sym (map-map find name_of names)
    ∙ ap (map find) (named ∙ ap (λ (ts : List NamedTarget). map (λ named. (named_seen named).name) ts) at_lent)
    ∙ map-map find (λ named. (named_seen named).name) targets
    ∙ sym (map-map (λ named. find named.name) named_seen targets)
    ∙ found-own overlay (map named_seen targets))
    (is ∙ (λ k. pairs_with (map named_seen (at_shown k)) (map own_seen (at_given k))))

-- as many as there are targets
pub found-count : {A : Type 0} (targets lent shown : List NamedTarget) (found given : List (Option ResId)) (names asked : List Name) (at : NamedTarget → A) (as_asked : Name → A) (find : Name → Option ℕ)
    → lent ≡ targets → map as_asked names ≡ map at lent → asked ≡ names → map own_seen found ≡ map find asked → shown ≡ targets → given ≡ found → length given ≡ length shown
found-count {A} targets lent shown found given names asked at as_asked find at_lent named at_asked looked at_shown at_given =
    ap (λ (t : List (Option ResId)). length t) at_given
    ∙ sym (length-map found own_seen)
    ∙ ap (λ (t : List (Option ℕ)). length t) looked
    ∙ length-map asked find
    ∙ ap (λ (t : List Name). length t) at_asked
    ∙ sym (length-map names as_asked)
    ∙ ap (λ (t : List A). length t) named
    ∙ length-map lent at
    ∙ ap (λ (t : List NamedTarget). length t) (at_lent ∙ sym at_shown)

-- ---- the loop over what was found

-- what was found for each target
abbrev pub both_of : List NamedTarget → List (Option ResId) → List (NamedOf × Option ℕ)
both_of targets found = zip (map named_seen targets) (map own_seen found)

length-both : (targets : List NamedTarget) (found : List (Option ResId)) → length found ≡ length targets → length (both_of targets found) ≡ length targets
length-both targets found same =
    omega (arith, length-zip (map named_seen targets) (map own_seen found), length-map targets named_seen, length-map found own_seen, same)

split : (targets : List NamedTarget) (found : List (Option ResId)) (i : ℕ) (d : NamedTarget) (e : Option ResId) → length found ≡ length targets → i < length targets
    → drop i (both_of targets found) ≡ (named_seen (get_or targets i d), own_seen (get_or found i e)) ∷ drop (i + 1) (both_of targets found)
split targets found i d e same on =
    let left = length-map targets named_seen in
    let right = length-map found own_seen in
    drop_more (both_of targets found) i (named_seen d, own_seen e) (omega (arith, length-both targets found same))
    ∙ ap (λ (p : NamedOf × Option ℕ). p ∷ drop (i + 1) (both_of targets found))
    (get_or-zip (map named_seen targets) (map own_seen found) i (named_seen d, own_seen e) (omega (arith, left)) (omega (arith, right))
    ∙ (λ k. (get_or-map named_seen targets i d (named_seen d) on k, get_or-map own_seen found i e (own_seen e) (omega arith) k)))

pub PairedAllBut-put : (targets : List NamedTarget) (found : List (Option ResId)) (pairs new : List IdPair) (i : ℕ) (d : NamedTarget) (own : ResId) → length found ≡ length targets → i < length targets
    → GivesAllBut pair_with (pairs_of pairs) (both_of targets found) (drop i (both_of targets found)) → get_or found i None ≡ Some own → new ≡ pairs ++ ((get_or targets i d).id, own) ∷ []
    → GivesAllBut pair_with (pairs_of new) (both_of targets found) (drop (i + 1) (both_of targets found))
PairedAllBut-put targets found pairs new i d own same on before is pushed =
    GivesAllBut-push pair_seen pair_with pairs new (both_of targets found) (drop i (both_of targets found)) (drop (i + 1) (both_of targets found))
    (named_seen (get_or targets i d), own_seen (get_or found i None)) ((get_or targets i d).id, own) before (split targets found i d None same on)
    (ap (λ (o : Option ResId). pair_with (named_seen (get_or targets i d), own_seen o)) (sym is)) pushed

pub PairedAllBut-skip : (targets : List NamedTarget) (found : List (Option ResId)) (pairs : List IdPair) (i : ℕ) (d : NamedTarget) → length found ≡ length targets → i < length targets
    → GivesAllBut pair_with (pairs_of pairs) (both_of targets found) (drop i (both_of targets found)) → get_or found i None ≡ None
    → GivesAllBut pair_with (pairs_of pairs) (both_of targets found) (drop (i + 1) (both_of targets found))
PairedAllBut-skip targets found pairs i d same on before is =
    GivesAllBut-skip pair_with (pairs_of pairs) (both_of targets found) (drop i (both_of targets found)) (drop (i + 1) (both_of targets found))
    (named_seen (get_or targets i d), own_seen (get_or found i None)) before (split targets found i d None same on)
    (ap (λ (o : Option ResId). pair_with (named_seen (get_or targets i d), own_seen o)) (sym is))

pub PairedAllBut-end : (targets : List NamedTarget) (found : List (Option ResId)) (pairs : List IdPair) (i : ℕ) → length found ≡ length targets → length targets ≤ i
    → GivesAllBut pair_with (pairs_of pairs) (both_of targets found) (drop i (both_of targets found)) → pairs_of pairs ≡ pairs_with (map named_seen targets) (map own_seen found)
PairedAllBut-end targets found pairs i same past before =
    GivesAllBut-end pair_with (pairs_of pairs) (both_of targets found) (drop i (both_of targets found)) before
    (drop_all i (both_of targets found) (omega (arith, length-both targets found same)))

pub ruleset found_steps = (GivesAllBut-none, PairedAllBut-put, PairedAllBut-skip, PairedAllBut-end)
