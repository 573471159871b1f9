-- What words stand for.
use Rattle.std.proofs.Common.{Option, Some, None, subst, sym, ◌≡◌, ℕ, ◌<◌, List, [], ◌∷◌, get_or, length, map, Result, Ok, Err, refl, ap, ◌∙◌, arith}
use Rattle.contract_words.specs.Faults.{◌>>=◌}
use Rattle.contract_words.specs.Sequences.{joined, joined_each}
use Rattle.json_input.specs.Each.{each}
use Rattle.res_value.specs.declared.res_id.ResId.{ResId}
use Rattle.overlay_map.specs.Layer.{LayerOf}
use Rattle.res_value.specs.Goal.{GoalSeen, IdGoal, AttrGoal}
use Rattle.names.specs.Named.{NamedOf, ById, ByName}
use Rattle.names.specs.NamedSet.{NamedSetOf, SetOfOne, SetOfType, SetOfAll}
use Rattle.names.specs.NamedGoal.{GoalOfIds, GoalsOfSet, GoalOfAttr}
use Rattle.names.specs.Names.{wanted_name}
use Rattle.names.specs.PackageWord.{PackageWordOf}
use Rattle.names.specs.Packages.{PackageNameOf}
use Rattle.names.specs.declared.fault.NameFault.{NameFault}
use Rattle.names.specs.declared.found.Found.{Found}
use Rattle.names.specs.NameFault.{NameFaultOf, GivesNamed}
use Rattle.names.specs.NamedIds.{found_of_name, id_named, id_of_found, ids_in_package, ids_named, ids_of_rows, ids_of_set, packages_of, some_of}
use Rattle.names.specs.NamedGoals.{goals_of_word}

pub GivesNamed-same : {X Y : Type 0} (view : X → Y) (given : Result X NameFault) (meant other : Result Y NameFaultOf) → other ≡ meant → GivesNamed view given meant → GivesNamed view given other
GivesNamed-same {X} {Y} view given meant other same gives = subst (λ (m : Result Y NameFaultOf). GivesNamed view given m) (sym same) gives

-- ---- a resource

pub id-itself : (layers : List LayerOf) (id : ResId) → id_named layers (ById id) ≡ Ok id
unfolding id_named
id-itself layers id = refl

pub by-name : (layers : List LayerOf) (in_package : Option PackageWordOf) (type_name entry_name : List ℕ) (packages : List PackageNameOf) (found : Found)
    → packages ≡ packages_of layers → found ≡ found_of_name layers (wanted_name in_package type_name entry_name)
    → id_named layers (ByName in_package type_name entry_name) ≡ id_of_found packages (wanted_name in_package type_name entry_name) found
unfolding id_named
by-name layers in_package type_name entry_name packages found are is =
    let wanted = wanted_name in_package type_name entry_name in
    ap (λ (o : Found). id_of_found (packages_of layers) wanted o) (sym is) ∙ ap (λ (ps : List PackageNameOf). id_of_found ps wanted found) (sym are)

-- ---- a set of resources

pub one-found : (layers : List LayerOf) (named : NamedOf) (id : ResId) → id_named layers named ≡ Ok id → ids_of_set layers (SetOfOne named) ≡ Ok (id ∷ [])
unfolding ids_of_set
one-found layers named id found = ap (λ (r : Result ResId NameFaultOf). r >>= λ id. Ok (id ∷ [])) found

pub one-missing : (layers : List LayerOf) (named : NamedOf) (fault : NameFaultOf) → id_named layers named ≡ Err fault → ids_of_set layers (SetOfOne named) ≡ Err fault
unfolding ids_of_set
one-missing layers named fault missing = ap (λ (r : Result ResId NameFaultOf). r >>= λ id. Ok (id ∷ [])) missing

-- what the word of one resource stands for, alone
abbrev alone : Result ResId NameFaultOf → Result (List ResId) NameFaultOf
alone found = found >>= λ id. Ok (id ∷ [])

one-alone : (layers : List LayerOf) (named : NamedOf) → ids_named layers (SetOfOne named ∷ []) ≡ alone (id_named layers named)
unfolding ids_named ids_of_set joined_each joined
one-alone layers named = by (id_named layers named)
  where
    by : (found : Result ResId NameFaultOf) → joined (alone found ∷ []) ≡ alone found
    by (Ok id) = refl
    by (Err fault) = refl

alone-ok : (found : Result ResId NameFaultOf) (ids : List ResId) → alone found ≡ Ok ids → (0 < length ids) × ((d : ResId) → found ≡ Ok (get_or ids 0 d))
alone-ok (Ok id) ids is =
    let same : id ∷ [] ≡ ids = cc in
    let wrapped : ResId → Result ResId NameFaultOf = λ one. Ok one in
    (subst (λ (them : List ResId). 0 < length them) same (omega arith), λ d. ap (λ (them : List ResId). wrapped (get_or them 0 d)) same)
alone-ok (Err fault) ids is = absurd cc

pub alone-found : (layers : List LayerOf) (named : NamedOf) (ids : List ResId) → ids_named layers (SetOfOne named ∷ []) ≡ Ok ids
    → (0 < length ids) × ((d : ResId) → id_named layers named ≡ Ok (get_or ids 0 d))
alone-found layers named ids found = alone-ok (id_named layers named) ids (sym (one-alone layers named) ∙ found)

alone-err : (found : Result ResId NameFaultOf) (fault : NameFaultOf) → alone found ≡ Err fault → found ≡ Err fault
alone-err (Ok id) fault is = absurd cc
alone-err (Err other) fault is =
    let same : other ≡ fault = cc in
    let wrapped : NameFaultOf → Result ResId NameFaultOf = λ f. Err f in
    ap wrapped same

pub alone-missing : (layers : List LayerOf) (named : NamedOf) (fault : NameFaultOf) → ids_named layers (SetOfOne named ∷ []) ≡ Err fault → id_named layers named ≡ Err fault
alone-missing layers named fault missing = alone-err (id_named layers named) fault (sym (one-alone layers named) ∙ missing)

pub of-type : (layers : List LayerOf) (in_package : Option PackageWordOf) (type_name : List ℕ) (ids : List ResId)
    → ids ≡ ids_in_package layers in_package (ids_of_rows layers (Some type_name)) → ids_of_set layers (SetOfType in_package type_name) ≡ some_of (SetOfType in_package type_name) ids
unfolding ids_of_set
of-type layers in_package type_name ids are = ap (some_of (SetOfType in_package type_name)) (sym are)

pub of-all : (layers : List LayerOf) (ids : List ResId) → ids ≡ ids_of_rows layers None → ids_of_set layers SetOfAll ≡ some_of SetOfAll ids
unfolding ids_of_set
of-all layers ids are = ap (some_of SetOfAll) (sym are)

-- ---- a goal of ids

pub ids-found : (layers : List LayerOf) (goal : GoalSeen) → goals_of_word layers (GoalOfIds goal) ≡ Ok (goal ∷ [])
unfolding goals_of_word
ids-found layers goal = refl

-- ---- goals of a set

-- what such a word stands for, by the ids of its set
of-ids : (layers : List LayerOf) (set : NamedSetOf) (ids : Result (List ResId) NameFaultOf) → ids_of_set layers set ≡ ids
    → goals_of_word layers (GoalsOfSet set) ≡ (ids >>= λ ids. Ok (map (λ id. IdGoal id) ids))
unfolding goals_of_word
of-ids layers set ids are = ap (λ (r : Result (List ResId) NameFaultOf). r >>= λ ids. Ok (map (λ id. IdGoal id) ids)) are

pub set-found : (layers : List LayerOf) (set : NamedSetOf) (ids : List ResId) → ids_of_set layers set ≡ Ok ids → goals_of_word layers (GoalsOfSet set) ≡ Ok (map (λ id. IdGoal id) ids)
set-found layers set ids found = of-ids layers set (Ok ids) found

pub set-missing : (layers : List LayerOf) (set : NamedSetOf) (fault : NameFaultOf) → ids_of_set layers set ≡ Err fault → goals_of_word layers (GoalsOfSet set) ≡ Err fault
set-missing layers set fault missing = of-ids layers set (Err fault) missing

-- ---- the goal of an attribute

-- the goal under styles, once the attribute is there
abbrev under : ResId → Result (List ResId) NameFaultOf → Result (List GoalSeen) NameFaultOf
under attr styles = styles >>= λ styles. Ok (AttrGoal attr styles ∷ [])

-- what such a word stands for, by its attribute
of-attr : (layers : List LayerOf) (attr : NamedOf) (styles : List NamedOf) (id : Result ResId NameFaultOf) → id_named layers attr ≡ id
    → goals_of_word layers (GoalOfAttr attr styles) ≡ (id >>= λ id. under id (each (id_named layers) styles))
unfolding goals_of_word
of-attr layers attr styles id is = ap (λ (r : Result ResId NameFaultOf). r >>= λ id. under id (each (id_named layers) styles)) is

pub attr-missing : (layers : List LayerOf) (attr : NamedOf) (styles : List NamedOf) (fault : NameFaultOf) → id_named layers attr ≡ Err fault → goals_of_word layers (GoalOfAttr attr styles) ≡ Err fault
attr-missing layers attr styles fault missing = of-attr layers attr styles (Err fault) missing

pub style-missing : (layers : List LayerOf) (attr : NamedOf) (styles : List NamedOf) (id : ResId) (fault : NameFaultOf) → id_named layers attr ≡ Ok id → each (id_named layers) styles ≡ Err fault
    → goals_of_word layers (GoalOfAttr attr styles) ≡ Err fault
style-missing layers attr styles id fault found missing = of-attr layers attr styles (Ok id) found ∙ ap (under id) missing

pub attr-found : (layers : List LayerOf) (attr : NamedOf) (styles : List NamedOf) (id : ResId) (ids : List ResId) → id_named layers attr ≡ Ok id → each (id_named layers) styles ≡ Ok ids
    → goals_of_word layers (GoalOfAttr attr styles) ≡ Ok (AttrGoal id ids ∷ [])
attr-found layers attr styles id ids found there = of-attr layers attr styles (Ok id) found ∙ ap (under id) there
