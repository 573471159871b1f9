-- What is found among the members that coordinates make.
use Rattle.std.proofs.Common.{◌≡◌, ℕ, ◌==◌, Bool, true, false, if◌then◌else◌, List, [], ◌∷◌, map, find, bytes_eq, Option, Some, None, option_map, Ordering, Less, Equal, Greater, inl, inr, refl, sym, ap, ◌∙◌}
use Rattle.std.specs.Ordering.{nat_cmp, match_ordering}
use Rattle.std.specs.Cmp.Lexicographic.{slice_cmp}
use Rattle.std.proofs.lemmas.Bool.{and_parts, cases_Bool, eqb-true, eqb-false}
use Rattle.serde_json.specs.Data.{Data, object, Members, no_members, member, put}
use Rattle.serde_json.specs.Find.{get, get_member}
use Rattle.serde_json.proofs.Views.{get_member-put, get_member-put_other}
use Rattle.json_input.specs.Shape.{has_only, are_among, is_among}
use Rattle.config_record.specs.declared.coord.Coord.{Coord}
use Rattle.config_record.specs.declared.coord.Coord.TheVariants as coords
use Rattle.config_record.specs.Coord.{all_coords, place_of, name_of}
use Rattle.config_record.proofs.ChangedNumber.{place_of-injective}
use Rattle.notation.proofs.JsonPrint.{Entry, entry_data, with_data, puts}

-- ---- the members have names of coordinates alone

put-among : (names : List (List ℕ)) (name : List ℕ) (value : Data) (ms : Members) → is_among names name ≡ true → are_among names ms ≡ true → are_among names (put name value ms) ≡ true
unfolding are_among
put-among names name value no_members here others = rw here refl
put-among names name value (member other e ms) here others =
    let parts = and_parts (is_among names other) (are_among names ms) others in
    at (slice_cmp nat_cmp name other) (rw (parts.0) (put-among names name value ms here parts.1))
  where
    at : (o : Ordering) → are_among names (member other e (put name value ms)) ≡ true
        → are_among names (match_ordering o (member name value (member other e ms)) (member other value ms) (member other e (put name value ms))) ≡ true
    at Less later = rw here others
    at Equal later = others
    at Greater later = later

name-among : (c : Coord) → is_among (map name_of all_coords) (name_of c) ≡ true
unfolding is_among name_of all_coords
name-among coords.Mcc = refl
name-among c = refl

one-among : (c : Coord) (o : Option Entry) (ms : Members) → are_among (map name_of all_coords) ms ≡ true → are_among (map name_of all_coords) (with_data c o ms) ≡ true
one-among c None ms others = others
one-among c (Some entry) ms others = put-among (map name_of all_coords) (name_of c) (entry_data entry) ms (name-among c) others

among : (entries : Coord → Option Entry) (cs : List Coord) (ms : Members) → are_among (map name_of all_coords) ms ≡ true → are_among (map name_of all_coords) (puts entries cs ms) ≡ true
among entries [] ms others = others
among entries (c ∷ cs) ms others = among entries cs (with_data c (entries c) ms) (one-among c (entries c) ms others)

pub only_coords : (entries : Coord → Option Entry) (cs : List Coord) → has_only (map name_of all_coords) (object (puts entries cs no_members)) ≡ true
unfolding has_only are_among
only_coords entries cs = among entries cs no_members refl

-- ---- the member of each coordinate

coord_called : List ℕ → Option Coord
coord_called name = find (λ c. bytes_eq (name_of c) name) all_coords

called : (c : Coord) → coord_called (name_of c) ≡ Some c
unfolding coord_called all_coords name_of
called coords.Mcc = refl
called c = refl

same_name : (c k : Coord) → name_of c ≡ name_of k → c ≡ k
same_name c k e = let one : ◌≡◌ {A = Option Coord} (Some c) (Some k) = sym (called c) ∙ ap coord_called e ∙ called k in cc

-- the last entry counts
abbrev or_before : Option Data → Option Entry → Option Data
or_before o None = o
or_before o (Some entry) = Some (entry_data entry)

abbrev last_entry : (Coord → Option Entry) → Coord → List Coord → Option Data → Option Data
last_entry entries c [] o = o
last_entry entries c (k ∷ cs) o = last_entry entries c cs (if place_of c == place_of k then or_before o (entries k) else o)

either : (b : Bool) (o : Option Data) → o ≡ (if b then o else o)
either true o = refl
either false o = refl

one-found : (c k : Coord) (o : Option Entry) (ms : Members)
    → get_member (name_of c) (with_data k o ms) ≡ (if place_of c == place_of k then or_before (get_member (name_of c) ms) o else get_member (name_of c) ms)
one-found c k None ms = either (place_of c == place_of k) (get_member (name_of c) ms)
one-found c k (Some entry) ms = elim (cases_Bool (place_of c == place_of k)) [
  | inl is ↦
      let same = place_of-injective c k (eqb-true (place_of c) (place_of k) is) in
      rw is (ap (λ (n : Coord). get_member (name_of n) (put (name_of k) (entry_data entry) ms)) same ∙ get_member-put (name_of k) (entry_data entry) ms)
  | inr other ↦
      rw other (get_member-put_other (name_of c) (name_of k) (entry_data entry) ms (λ e. eqb-false (place_of c) (place_of k) other (ap place_of (same_name c k e))))
]

found : (entries : Coord → Option Entry) (c : Coord) (cs : List Coord) (ms : Members) → get_member (name_of c) (puts entries cs ms) ≡ last_entry entries c cs (get_member (name_of c) ms)
found entries c [] ms = refl
found entries c (k ∷ cs) ms = found entries c cs (with_data k (entries k) ms) ∙ ap (last_entry entries c cs) (one-found c k (entries k) ms)

alone : (o : Option Entry) → or_before None o ≡ option_map entry_data o
alone None = refl
alone (Some entry) = refl

last_of_all : (entries : Coord → Option Entry) (c : Coord) → last_entry entries c all_coords None ≡ option_map entry_data (entries c)
unfolding all_coords place_of
last_of_all entries coords.Mcc = alone (entries coords.Mcc)
last_of_all entries c = alone (entries c)

pub found_at : (entries : Coord → Option Entry) (c : Coord) → get (name_of c) (object (puts entries all_coords no_members)) ≡ option_map entry_data (entries c)
found_at entries c = found entries c all_coords no_members ∙ last_of_all entries c
