-- Which pairs words ask for.
use Rattle.std.proofs.Common.{◌≡◌, ◌==◌, ◌||◌, Bool, true, false, cond, List, [], ◌∷◌, ◌++◌, map, length, filter, Option, Some, None, Result, Ok, Err, refl, sym, ap, ◌∙◌, append_assoc, arith}
use Rattle.std.proofs.Math.Path.{fun_ext}
use Rattle.std.proofs.lemmas.Bool.{eqb-true}
use Rattle.std.proofs.lemmas.List.{append-nil, nil_from_length}
use Rattle.std.specs.List.{items_where_true, list_any}
use Rattle.std.specs.Option.{option_or, unwrap_or}
use Rattle.std.specs.Vec.Iter.{into_iter_items, into_iter_len, into_iter_steps}
use Rattle.std.specs.declared.vec.IntoIter.{IntoIter}
use Rattle.names.specs.declared.found.Found.{Found}
use Rattle.names.specs.declared.named_set.NamedSet.{NamedSet}
use Rattle.names.specs.NameFault.{NameFaultOf}
use Rattle.names.specs.NamedSet.{NamedSetOf, named_set_of}
use Rattle.names.specs.declared.pair.NamePair.{NamePair}
use Rattle.names.specs.Packages.{PackageNameOf}
use Rattle.names.specs.Pairs.{PairOf, pair_of}
use Rattle.contract_words.specs.Faults.{◌>>=◌}
use Rattle.names.specs.AskedWords.{asked_in, has_word, unless, words_for}
use Rattle.names.specs.declared.asked_words.AskedWords.{AskedWords}
use Rattle.names.specs.NamedPairs.{fault_of_found, first_fault, found_of_pairs, is_asked, pairs_in, unless_fault}
use Rattle.names.specs.SameWord.{is_same}
use Rattle.names.proofs.AskedWordsSteps.{asks-words}
use Rattle.names.proofs.SameWordSteps.{is_same-sym}

-- ---- whether some word asks for a pair

none_of : {B : Type 0} (bs : List B) → list_any (λ b. false) bs ≡ false
none_of [] = refl
none_of (b ∷ bs) = none_of bs

or_swap : (a b c d : Bool) → ((a || b) || (c || d)) ≡ ((a || c) || (b || d))
or_swap true b c d = refl
or_swap false true true d = refl
or_swap false true false d = refl
or_swap false false true d = refl
or_swap false false false d = refl

any_or : {B : Type 0} (p q : B → Bool) (bs : List B) → (list_any p bs || list_any q bs) ≡ list_any (λ b. p b || q b) bs
any_or p q [] = refl
any_or p q (b ∷ bs) = or_swap (p b) (list_any p bs) (q b) (list_any q bs) ∙ ap (λ (any : Bool). (p b || q b) || any) (any_or p q bs)

any_swap : {A B : Type 0} (related : A → B → Bool) (xs : List A) (ys : List B) → list_any (λ x. list_any (related x) ys) xs ≡ list_any (λ y. list_any (λ x. related x y) xs) ys
any_swap related [] ys = sym (none_of ys)
any_swap {A} {B} related (x ∷ xs) ys =
    ap (λ (any : Bool). list_any (related x) ys || any) (any_swap related xs ys)
    ∙ any_or (related x) (λ (y : B). list_any (λ x. related x y) xs) ys

pub asked-words : (packages : List PackageNameOf) (words : AskedWords) (sets : List NamedSetOf) (pair : PairOf) → ((one : NamedSetOf) → has_word words one ≡ list_any (is_same one) sets)
    → list_any (has_word words) (words_for packages pair) ≡ is_asked packages sets pair
asked-words packages words sets pair are =
    ap (λ (has : NamedSetOf → Bool). list_any has (words_for packages pair)) (fun_ext (λ (one : NamedSetOf). are one))
    ∙ any_swap is_same (words_for packages pair) sets
    ∙ ap (λ (asks : NamedSetOf → Bool). list_any asks sets)
    (fun_ext (λ (set : NamedSetOf).
    ap (λ (same : NamedSetOf → Bool). list_any same (words_for packages pair)) (fun_ext (λ (one : NamedSetOf). is_same-sym one set)) ∙ asks-words packages set pair))

map_same : {A B C : Type 0} (f : A → C) (view : A → B) (g : B → C) → ((x : A) → f x ≡ g (view x)) → (xs : List A) → map f xs ≡ map g (map view xs)
map_same f view g same [] = refl
map_same {A} {B} {C} f view g same (x ∷ xs) =
    ap (λ (c : C). c ∷ map f xs) (same x) ∙ ap (λ (cs : List C). g (view x) ∷ cs) (map_same f view g same xs)

-- the same of each pair
pub each-asked : (packages : List PackageNameOf) (sets : List NamedSetOf) (pairs : List NamePair) → map (λ pair. is_asked packages sets (pair_of pair)) pairs ≡ map (is_asked packages sets) (map pair_of pairs)
each-asked packages sets pairs = map_same (λ (pair : NamePair). is_asked packages sets (pair_of pair)) pair_of (is_asked packages sets) (λ (pair : NamePair). refl) pairs

-- ---- the pairs that are kept

where_nil : {A : Type 0} (flags : List Bool) → items_where_true {X = A} flags [] ≡ []
where_nil [] = refl
where_nil (b ∷ flags) = refl

where_cons : {A : Type 0} (b : Bool) (flags : List Bool) (x : A) (xs : List A) → items_where_true (b ∷ flags) (x ∷ xs) ≡ cond b (x ∷ items_where_true flags xs) (items_where_true flags xs)
where_cons true flags x xs = refl
where_cons false flags x xs = refl

no_items : {X Z : Type 0} (left : IntoIter X Z) → into_iter_len left ≡ 0 → into_iter_items left ≡ []
no_items left empty = nil_from_length left.rest.items (omega (arith, left.rest.ok.0, empty))

-- one pair more, with its flag
pub kept-next : {X Z W : Type 0} (left others : IntoIter X Z) (flags behind : IntoIter Bool W) (told : Option Bool) (x : X) (kept more meant : List X)
    → kept ++ items_where_true (into_iter_items flags) (into_iter_items left) ≡ meant → into_iter_items left ≡ x ∷ into_iter_items others → into_iter_steps flags told behind
    → more ≡ kept ++ cond (unwrap_or told false) (x ∷ []) [] → more ++ items_where_true (into_iter_items behind) (into_iter_items others) ≡ meant
kept-next {X} left others flags behind None x kept more meant before first step is =
    ap (λ (xs : List X). xs ++ items_where_true (into_iter_items behind) (into_iter_items others)) is
    ∙ append_assoc kept [] (items_where_true (into_iter_items behind) (into_iter_items others))
    ∙ ap (λ (xs : List X). kept ++ xs)
    (ap (λ (bs : List Bool). items_where_true bs (into_iter_items others)) (no_items behind step.1)
    ∙ sym (ap (λ (bs : List Bool). items_where_true bs (into_iter_items left)) (no_items flags step.0)))
    ∙ before
kept-next {X} left others flags behind (Some b) x kept more meant before first step is =
    let behind_it = items_where_true (into_iter_items behind) (into_iter_items others) in
    ap (λ (xs : List X). xs ++ behind_it) is
    ∙ by b behind_it
    ∙ ap (λ (xs : List X). kept ++ xs)
    (sym (where_cons b (into_iter_items behind) x (into_iter_items others))
    ∙ sym (ap (λ (bs : List Bool). items_where_true bs (into_iter_items left)) step.0 ∙ ap (λ (xs : List X). items_where_true (b ∷ into_iter_items behind) xs) first))
    ∙ before
  where
    by : (b : Bool) (behind_it : List X) → (kept ++ cond b (x ∷ []) []) ++ behind_it ≡ kept ++ cond b (x ∷ behind_it) behind_it
    by true behind_it = append_assoc kept (x ∷ []) behind_it
    by false behind_it = append_assoc kept [] behind_it

-- where the pairs end
pub kept-end : {X Z : Type 0} (left : IntoIter X Z) (flags : List Bool) (kept meant : List X) → kept ++ items_where_true flags (into_iter_items left) ≡ meant → into_iter_len left ≡ 0 → kept ≡ meant
kept-end {X} left flags kept meant before ends =
    sym (append-nil kept)
    ∙ ap (λ (others : List X). kept ++ others) (sym (ap (λ (xs : List X). items_where_true flags xs) (no_items left ends) ∙ where_nil flags))
    ∙ before

where-filter : (test : PairOf → Bool) (flags : List Bool) (pairs : List NamePair) → flags ≡ map test (map pair_of pairs)
    → map pair_of (items_where_true flags pairs) ≡ filter test (map pair_of pairs)
where-filter test flags pairs are = ap (λ (bs : List Bool). map pair_of (items_where_true bs pairs)) are ∙ by pairs
  where
    first : (b : Bool) (pair : NamePair) (others : List NamePair) → map pair_of (cond b (pair ∷ others) others) ≡ cond b (pair_of pair ∷ map pair_of others) (map pair_of others)
    first true pair others = refl
    first false pair others = refl

    by : (pairs : List NamePair) → map pair_of (items_where_true (map test (map pair_of pairs)) pairs) ≡ filter test (map pair_of pairs)
    by [] = refl
    by (pair ∷ pairs) =
        let asked = test (pair_of pair) in
        let left = items_where_true (map test (map pair_of pairs)) pairs in
        ap (λ (kept : List NamePair). map pair_of kept) (where_cons asked (map test (map pair_of pairs)) pair pairs)
        ∙ first asked pair left
        ∙ ap (λ (kept : List PairOf). cond asked (pair_of pair ∷ kept) kept) (by pairs)

pub kept-seen : (packages : List PackageNameOf) (sets : List NamedSetOf) (flags : List Bool) (pairs kept : List NamePair) → flags ≡ map (is_asked packages sets) (map pair_of pairs) → kept ≡ items_where_true flags pairs
    → map pair_of kept ≡ filter (is_asked packages sets) (map pair_of pairs)
kept-seen packages sets flags pairs kept are is = ap (λ (ps : List NamePair). map pair_of ps) is ∙ where-filter (is_asked packages sets) flags pairs are

-- ---- the fault of the first word that has one

pub unless-none : (fault : Option NameFaultOf) → unless fault ≡ Ok tt → fault ≡ None
unless-none None is = refl
unless-none (Some fault) is = absurd cc

pub unless-some : (fault : Option NameFaultOf) (told : NameFaultOf) → unless fault ≡ Err told → fault ≡ Some told
unless-some None told is = absurd cc
unless-some (Some fault) told is =
    let same : fault ≡ told = cc in ap (λ (f : NameFaultOf). Some f) same

pub fault-none : (packages : List PackageNameOf) (pairs : List PairOf) → first_fault packages pairs [] ≡ None
unfolding first_fault
fault-none packages pairs = refl

-- the first word has none
pub fault-past : (packages : List PackageNameOf) (pairs : List PairOf) (set : NamedSetOf) (sets : List NamedSetOf) (found : Found) → found ≡ found_of_pairs packages pairs set
    → unless (fault_of_found packages set found) ≡ Ok tt → first_fault packages pairs (set ∷ sets) ≡ first_fault packages pairs sets
unfolding first_fault
fault-past packages pairs set sets found is none =
    ap (λ (fault : Option NameFaultOf). option_or fault (first_fault packages pairs sets))
    (ap (fault_of_found packages set) (sym is) ∙ unless-none (fault_of_found packages set found) none)

-- it has one
pub fault-here : (packages : List PackageNameOf) (pairs : List PairOf) (set : NamedSetOf) (sets : List NamedSetOf) (found : Found) (told : NameFaultOf) → found ≡ found_of_pairs packages pairs set
    → unless (fault_of_found packages set found) ≡ Err told → first_fault packages pairs (set ∷ sets) ≡ Some told
unfolding first_fault
fault-here packages pairs set sets found told is some =
    ap (λ (fault : Option NameFaultOf). option_or fault (first_fault packages pairs sets))
    (ap (fault_of_found packages set) (sym is) ∙ unless-some (fault_of_found packages set found) told some)

-- ---- all words

pub named-none : (packages : List PackageNameOf) (sets : List NamedSet) (pairs : List PairOf) → (length sets == 0) ≡ true → pairs_in packages (map named_set_of sets) pairs ≡ Ok pairs
unfolding pairs_in
named-none packages sets pairs empty =
    ap (λ (none : List NamedSet). pairs_in packages (map named_set_of none) pairs) (nil_from_length sets (eqb-true (length sets) 0 empty))

pub named-fault : (packages : List PackageNameOf) (sets : List NamedSetOf) (pairs : List PairOf) (fault : NameFaultOf) → unless (first_fault packages pairs sets) ≡ Err fault → pairs_in packages sets pairs ≡ Err fault
unfolding pairs_in first_fault
named-fault packages [] pairs fault some = absurd cc
named-fault packages (first ∷ sets) pairs fault some =
    ap (λ (found : Option NameFaultOf). unless_fault found (filter (is_asked packages (first ∷ sets)) pairs)) (unless-some (first_fault packages pairs (first ∷ sets)) fault some)

pub named-kept : (packages : List PackageNameOf) (sets : List NamedSet) (pairs : List PairOf) → (length sets == 0) ≡ false → unless (first_fault packages pairs (map named_set_of sets)) ≡ Ok tt
    → pairs_in packages (map named_set_of sets) pairs ≡ Ok (filter (is_asked packages (map named_set_of sets)) pairs)
unfolding pairs_in
named-kept packages [] pairs some none = absurd cc
named-kept packages (first ∷ sets) pairs some none =
    let all = map named_set_of (first ∷ sets) in
    ap (λ (found : Option NameFaultOf). unless_fault found (filter (is_asked packages all) pairs)) (unless-none (first_fault packages pairs all) none)

-- ---- which pairs are asked for

pub asked-stops : (packages : List PackageNameOf) (sets : List NamedSetOf) (pairs : List PairOf) (fault : NameFaultOf) → unless (first_fault packages pairs sets) ≡ Err fault → asked_in packages sets pairs ≡ Err fault
asked-stops packages sets pairs fault some = ap (λ (r : Result (Unit {0}) NameFaultOf). r >>= λ _. Ok (map (is_asked packages sets) pairs)) some

pub asked-all : (packages : List PackageNameOf) (sets : List NamedSetOf) (pairs : List PairOf) (asked : List Bool) → unless (first_fault packages pairs sets) ≡ Ok tt → asked ≡ map (is_asked packages sets) pairs
    → asked_in packages sets pairs ≡ Ok asked
asked-all packages sets pairs asked none are =
    let wrapped : List Bool → Result (List Bool) NameFaultOf = λ asked. Ok asked in
    ap (λ (r : Result (Unit {0}) NameFaultOf). r >>= λ _. Ok (map (is_asked packages sets) pairs)) none ∙ ap wrapped (sym are)

asked-cases : (given : Result (Unit {0}) NameFaultOf) (asked : List Bool) (fault : NameFaultOf) → (given >>= λ _. Ok asked) ≡ Err fault → given ≡ Err fault
asked-cases (Ok none) asked fault is = absurd cc
asked-cases (Err other) asked fault is = let same : other ≡ fault = cc in ap (λ (f : NameFaultOf). Err f) same

asked-given : (given : Result (Unit {0}) NameFaultOf) (asked told : List Bool) → (given >>= λ _. Ok asked) ≡ Ok told → (given ≡ Ok tt) × (told ≡ asked)
asked-given (Ok none) asked told is = let same : asked ≡ told = cc in (refl, sym same)
asked-given (Err other) asked told is = absurd cc

pub asked-fault : (packages : List PackageNameOf) (sets : List NamedSetOf) (pairs : List PairOf) (fault : NameFaultOf) → asked_in packages sets pairs ≡ Err fault → pairs_in packages sets pairs ≡ Err fault
asked-fault packages sets pairs fault is = named-fault packages sets pairs fault (asked-cases (unless (first_fault packages pairs sets)) (map (is_asked packages sets) pairs) fault is)

-- those that are kept
pub asked-kept : (packages : List PackageNameOf) (sets : List NamedSet) (pairs : List NamePair) (asked : List Bool) → (length sets == 0) ≡ false
    → asked_in packages (map named_set_of sets) (map pair_of pairs) ≡ Ok asked → pairs_in packages (map named_set_of sets) (map pair_of pairs) ≡ Ok (map pair_of (items_where_true asked pairs))
asked-kept packages sets pairs asked some is =
    let all = map named_set_of sets in
    let told = asked-given (unless (first_fault packages (map pair_of pairs) all)) (map (is_asked packages all) (map pair_of pairs)) asked is in
    let kept : List PairOf → Result (List PairOf) NameFaultOf = λ pairs. Ok pairs in
    named-kept packages sets (map pair_of pairs) some told.0 ∙ ap kept (sym (kept-seen packages all asked pairs (items_where_true asked pairs) told.1 refl))
