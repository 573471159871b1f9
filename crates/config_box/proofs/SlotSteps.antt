-- How the members of a box fill the slots of its coordinates.
use Rattle.std.proofs.Common.{◌≡◌, ◌≢◌, ℕ, ◌+◌, ◌<◌, ◌≤◌, List, [], ◌∷◌, ◌++◌, map, length, take, drop, get_or, set, ◌⊎◌, Bool, true, false, not, ◌&&◌, ◌||◌, bytes_eq, if◌then◌else◌, Option, Result, Ok, Err, inl, inr, refl, sym, ap, ap₂, ◌∙◌}
use Rattle.std.proofs.lemmas.Bool.{false≢true, cases_eq}
use Rattle.std.proofs.lemmas.List.{ext_get_or, get_or-map, get_or-set_same, get_or-set_other, length-set, length-map, map-set, map-append, set-get_or, take_more, drop_more, drop_all}
use Rattle.std.proofs.lemmas.Slice.Eq.{bytes_eq-Decides}
use Rattle.contract_words.specs.Faults.{◌>>=◌, refuse}
use Rattle.contract_words.specs.Sequences.{with_front}
use Rattle.serde_json.specs.Data.{Data, object, Members, put}
use Rattle.serde_json.specs.Find.{get, get_member}
use Rattle.serde_json.proofs.Views.{get_member-put, get_member-put_other}
use Rattle.json_input.specs.Each.{each}
use Rattle.json_input.specs.Shape.{is_among, are_among, has_only}
use Rattle.json_tokens.proofs.Members.{only-put}
use Rattle.box_answers.specs.config_record.declared.coord.Coord.{Coord}
use Rattle.box_answers.specs.config_record.declared.coord.Coord.TheVariants as coords
use Rattle.box_answers.specs.config_record.Coord.{all_coords, place_of, name_of}
use Rattle.box_answers.proofs.config_record.DeviceLemmas.{coordinate-at_place, place_of-within}
use Rattle.config_box.specs.declared.box_fault.BoxFault.{BoxFault}
use Rattle.config_box.specs.declared.box_fault.BoxFault.TheVariants.{Shape}
use Rattle.config_box.specs.declared.written.Slot.{Slot}
use Rattle.config_box.specs.declared.written.Written.{Written}
use Rattle.config_box.specs.Written.{WrittenOf, member_at, written_at, written_in}
use Rattle.config_box.specs.Kept.{kept, keep, kept_at, slot_at, kept_in}
use Rattle.config_box.specs.BoxSeen.{read_seen, slot_seen}
use Rattle.config_box.proofs.ReadSteps.{place-at}

-- ---- names

-- the coordinate of a name
first_named : List Coord → List ℕ → Coord
first_named [] name = coords.Mcc
first_named (c ∷ cs) name = if bytes_eq (name_of c) name then c else first_named cs name

named-own : (c : Coord) → first_named all_coords (name_of c) ≡ c
unfolding first_named all_coords name_of
named-own coords.Mcc = refl
named-own c = refl

name-once : (c k : Coord) → name_of c ≡ name_of k → c ≡ k
name-once c k e = sym (named-own c) ∙ ap (first_named all_coords) e ∙ named-own k

name-among : (c : Coord) → is_among (map name_of all_coords) (name_of c) ≡ true
unfolding is_among all_coords name_of
name-among coords.Mcc = refl
name-among c = refl

either_false : (a b : Bool) → (a || b) ≡ false → (a ≡ false) × (b ≡ false)
either_false true b e = absurd (false≢true (sym e))
either_false false b e = (refl, e)

apart : (a b : List ℕ) → bytes_eq a b ≡ false → a ≢ b
apart a b e same = false≢true (sym e ∙ (bytes_eq-Decides a b).1 same)

-- a loop that looks for the coordinate of a name has passed some
pub among-later : (cs : List Coord) (i : ℕ) (d : Coord) (name : List ℕ) → i < length cs → bytes_eq (name_of (get_or cs i d)) name ≡ false
    → is_among (map name_of (drop i cs)) name ≡ is_among (map name_of cs) name → is_among (map name_of (drop (i + 1) cs)) name ≡ is_among (map name_of cs) name
unfolding is_among
among-later cs i d name on other before =
    sym (ap (λ b. b || is_among (map name_of (drop (i + 1) cs)) name) other) ∙ sym (ap (λ cs. is_among (map name_of cs) name) (drop_more cs i d on)) ∙ before

pub among-end : (cs : List Coord) (i : ℕ) (name : List ℕ) → length cs ≤ i → is_among (map name_of (drop i cs)) name ≡ is_among (map name_of cs) name → is_among (map name_of cs) name ≡ false
unfolding is_among
among-end cs i name past before = sym before ∙ ap (λ cs. is_among (map name_of cs) name) (drop_all i cs past)

-- ---- one slot

-- what a coordinate says where its name has this value
slot-put : (c : Coord) (name : List ℕ) (d : Data) (ms : Members) → name_of c ≡ name → slot_at (object (put name d ms)) c ≡ (kept_at c d >>= λ w. Ok (c, w))
slot-put c name d ms is =
    ap (λ o. keep (member_at c o) >>= λ w. Ok (c, w)) (ap (λ n. get_member n (put name d ms)) is ∙ get_member-put name d ms)

slot-put_other : (c : Coord) (name : List ℕ) (d : Data) (ms : Members) → name_of c ≢ name → slot_at (object ms) c ≡ slot_at (object (put name d ms)) c
slot-put_other c name d ms other = ap (λ o. keep (member_at c o) >>= λ w. Ok (c, w)) (sym (get_member-put_other (name_of c) name d ms other))

-- ---- all slots

-- what changes at one coordinate alone
changed-at : {X : Type 0} (f g : Coord → X) (c : Coord) → ((k : Coord) → k ≢ c → f k ≡ g k) → set (map f all_coords) (place_of c) (g c) ≡ map g all_coords
changed-at {X} f g c others =
    ext_get_or (g c) (set (map f all_coords) (place_of c) (g c)) (map g all_coords) (simp (length-set, length-map) refl)
    (λ i on. at i (simp (length-set, length-map) at on) (cases_eq i (place_of c)))
  where
    same : (i : ℕ) → i < length all_coords → i ≡ place_of c → get_or (set (map f all_coords) (place_of c) (g c)) i (g c) ≡ get_or (map g all_coords) i (g c)
    same i on e =
        ap (λ i. get_or (set (map f all_coords) (place_of c) (g c)) i (g c)) e
        ∙ get_or-set_same (map f all_coords) (place_of c) (g c) (g c) (simp length-map (place_of-within c))
        ∙ ap g (sym (ap (λ i. get_or all_coords i coords.Mcc) e ∙ coordinate-at_place c))
        ∙ sym (get_or-map g all_coords i coords.Mcc (g c) on)

    far : (i : ℕ) → i < length all_coords → i ≢ place_of c → get_or all_coords i coords.Mcc ≢ c
    far i on ne e = ne (sym (place-at i (get_or all_coords i coords.Mcc) coords.Mcc all_coords refl refl on) ∙ ap place_of e)

    other : (i : ℕ) → i < length all_coords → i ≢ place_of c → get_or (set (map f all_coords) (place_of c) (g c)) i (g c) ≡ get_or (map g all_coords) i (g c)
    other i on ne =
        get_or-set_other (map f all_coords) (place_of c) i (g c) (g c) ne
        ∙ get_or-map f all_coords i coords.Mcc (g c) on
        ∙ others (get_or all_coords i coords.Mcc) (far i on ne)
        ∙ sym (get_or-map g all_coords i coords.Mcc (g c) on)

    at : (i : ℕ) → i < length all_coords → ((i ≡ place_of c) ⊎ (i ≢ place_of c)) → get_or (set (map f all_coords) (place_of c) (g c)) i (g c) ≡ get_or (map g all_coords) i (g c)
    at i on (inl e) = same i on e
    at i on (inr ne) = other i on ne

pub slots-put : (c : Coord) (name : List ℕ) (d : Data) (ms : Members) (slots : List Slot) (written : Option Written) → name_of c ≡ name → kept_at c d ≡ read_seen written
    → map slot_seen slots ≡ map (slot_at (object ms)) all_coords → map slot_seen (set slots (place_of c) (record { coord = c; written = written })) ≡ map (slot_at (object (put name d ms))) all_coords
slots-put c name d ms slots written is read before =
    map-set slot_seen slots (place_of c) (record { coord = c; written = written })
    ∙ ap₂ (λ ss s. set ss (place_of c) s) before (sym (slot-put c name d ms is ∙ ap (λ y. y >>= λ w. Ok (c, w)) read))
    ∙ changed-at (slot_at (object ms)) (slot_at (object (put name d ms))) c (λ k ne. slot-put_other k name d ms (λ same. ne (name-once k c (same ∙ sym is))))

-- a member that is none of the coordinates fills none of the slots
pub slots-other : (cs : List Coord) (name : List ℕ) (d : Data) (ms : Members) → is_among (map name_of cs) name ≡ false → map (slot_at (object ms)) cs ≡ map (slot_at (object (put name d ms))) cs
unfolding is_among
slots-other [] name d ms none = refl
slots-other (c ∷ cs) name d ms none =
    let both = either_false (bytes_eq (name_of c) name) (is_among (map name_of cs) name) none in
    ap₂ (λ s ss. s ∷ ss) (slot-put_other c name d ms (apart (name_of c) name both.0)) (slots-other cs name d ms both.1)

-- the slots keep their coordinates
pub coords-put : (c : Coord) (slots : List Slot) (written : Option Written) → map (λ slot. slot.coord) slots ≡ all_coords
    → map (λ slot. slot.coord) (set slots (place_of c) (record { coord = c; written = written })) ≡ all_coords
coords-put c slots written before =
    map-set (λ slot. slot.coord) slots (place_of c) (record { coord = c; written = written })
    ∙ ap (λ cs. set cs (place_of c) c) before
    ∙ ap (set all_coords (place_of c)) (sym (coordinate-at_place c))
    ∙ set-get_or all_coords (place_of c) coords.Mcc

-- ---- whether there are no other members

and_true : (b : Bool) → b ≡ (b && true)
and_true true = refl
and_true false = refl

and_false : (b : Bool) → false ≡ (b && false)
and_false true = refl
and_false false = refl

pub only-known : (c : Coord) (name : List ℕ) (d : Data) (ms : Members) (only : Bool) → name_of c ≡ name → only ≡ are_among (map name_of all_coords) ms → only ≡ are_among (map name_of all_coords) (put name d ms)
only-known c name d ms only is before =
    and_true only ∙ only-put (map name_of all_coords) name d ms only true before (sym (ap (is_among (map name_of all_coords)) (sym is) ∙ name-among c))

pub only-other : (name : List ℕ) (d : Data) (ms : Members) (only : Bool) → is_among (map name_of all_coords) name ≡ false → only ≡ are_among (map name_of all_coords) ms
    → false ≡ are_among (map name_of all_coords) (put name d ms)
only-other name d ms only none before = and_false only ∙ only-put (map name_of all_coords) name d ms only false before (sym none)

-- ---- what all say together

each-mapped : {A X E : Type 0} (f : A → Result X E) (xs : List A) → each f xs ≡ each (λ y. y) (map f xs)
unfolding each
each-mapped f [] = refl
each-mapped {A} {X} {E} f (a ∷ xs) = ap (λ (rest : Result (List X) E). f a >>= λ x. with_front (x ∷ []) rest) (each-mapped f xs)

abbrev keep_pair : (Coord × WrittenOf) → (Coord × WrittenOf)
keep_pair pair = (pair.0, kept pair.1)

each-kept : (value : Data) (cs : List Coord) → (each (written_at value) cs >>= λ pairs. Ok (map keep_pair pairs)) ≡ each (slot_at value) cs
unfolding each written_at
each-kept value [] = refl
each-kept value (c ∷ cs) = one (member_at c (get (name_of c) value)) (each (written_at value) cs) (each (slot_at value) cs) (each-kept value cs)
  where
    one : (m : Result WrittenOf BoxFault) (rest rest' : Result (List (Coord × WrittenOf)) BoxFault) → (rest >>= λ pairs. Ok (map keep_pair pairs)) ≡ rest'
        → (((m >>= λ w. Ok (c, w)) >>= λ x. with_front (x ∷ []) rest) >>= λ pairs. Ok (map keep_pair pairs)) ≡ ((keep m >>= λ w. Ok (c, w)) >>= λ x. with_front (x ∷ []) rest')
    one (Err fault) rest rest' e = refl
    one (Ok w) (Ok pairs) rest' e = ap (with_front ((c, kept w) ∷ [])) e
    one (Ok w) (Err fault) rest' e = ap (with_front ((c, kept w) ∷ [])) e

-- a box has the members of all these slots
pub slots-kept : (ms : Members) (slots : List Slot) → are_among (map name_of all_coords) ms ≡ true → map slot_seen slots ≡ map (slot_at (object ms)) all_coords → kept_in (object ms) ≡ each slot_seen slots
unfolding written_in has_only
slots-kept ms slots only seen =
    ap (λ b. (refuse (not b) Shape >>= λ _. each (written_at (object ms)) all_coords) >>= λ pairs. Ok (map keep_pair pairs)) only
    ∙ each-kept (object ms) all_coords
    ∙ each-mapped (slot_at (object ms)) all_coords
    ∙ ap (each (λ y. y)) (sym seen)
    ∙ sym (each-mapped slot_seen slots)

pub others-kept : (ms : Members) → are_among (map name_of all_coords) ms ≡ false → kept_in (object ms) ≡ Err Shape
unfolding written_in has_only
others-kept ms only = ap (λ b. (refuse (not b) Shape >>= λ _. each (written_at (object ms)) all_coords) >>= λ pairs. Ok (map keep_pair pairs)) only

pub not_object-kept : (value : Data) → has_only (map name_of all_coords) value ≡ false → kept_in value ≡ Err Shape
unfolding written_in
not_object-kept value other = ap (λ b. (refuse (not b) Shape >>= λ _. each (written_at value) all_coords) >>= λ pairs. Ok (map keep_pair pairs)) other

-- ---- a loop over slots

pub mapped-next : {A X Y : Type 0} (f : X → Y) (g : A → Y) (xs : List X) (x : X) (items : List A) (i : ℕ) (d : A) → map f xs ≡ map g (take i items) → i < length items → f x ≡ g (get_or items i d)
    → map f (xs ++ x ∷ []) ≡ map g (take (i + 1) items)
mapped-next f g xs x items i d before on is =
    map-append f xs (x ∷ [])
    ∙ ap₂ (λ ys y. ys ++ y ∷ []) before is
    ∙ sym (map-append g (take i items) (get_or items i d ∷ []))
    ∙ ap (map g) (sym (take_more items i d on))
