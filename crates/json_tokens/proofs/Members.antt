-- Members that are put into an object one after the other.
use Rattle.std.proofs.Common.{◌≡◌, ℕ, List, [], ◌∷◌, map, replicate, length, Bool, true, false, ◌&&◌, ◌||◌, bytes_eq, Option, Some, None, option_map, if◌then◌else◌, Ordering, Less, Equal, Greater, nat_cmp, is_eq, refl, sym, ap, ap₂, ◌∙◌, arith}
use Rattle.std.proofs.lemmas.Bool.{false≢true}
use Rattle.std.proofs.lemmas.Map.Text.{is_eq-slice_cmp}
use Rattle.std.proofs.lemmas.Slice.Eq.{bytes_eq-Decides}
use Rattle.std.specs.Cmp.Lexicographic.{slice_cmp}
use Rattle.std.specs.Ordering.{match_ordering}
use Rattle.serde_json.specs.Data.{Data, null, boolean, number, string, array, object, Members, no_members, member, put}
use Rattle.serde_json.specs.Find.{get, get_member, as_object}
use Rattle.serde_json.proofs.Views.{get_member-put, get_member-put_other}
use Rattle.json_tokens.specs.json_input.Shape.{is_among, are_among, has_only}
use Rattle.json_tokens.specs.Kind.{KindOf, kind_of}
use Rattle.json_tokens.specs.ShortList.{ListOf, short_list}
use Rattle.json_tokens.specs.Fields.{field, fields, with_field, fields_and_list}

swapped : (a b c : Bool) → (a && (b && c)) ≡ (b && (a && c))
swapped true true c = refl
swapped true false c = refl
swapped false true c = refl
swapped false false c = refl

once : (a c : Bool) → (a && c) ≡ (a && (a && c))
once true c = refl
once false c = refl

are_among-put : (names : List (List ℕ)) (k : List ℕ) (d : Data) (ms : Members) → are_among names (put k d ms) ≡ (is_among names k && are_among names ms)
unfolding are_among
are_among-put names k d no_members = refl
are_among-put names k d (member l e ms) = at (slice_cmp nat_cmp k l) refl (are_among-put names k d ms)
  where
    at : (o : Ordering) → slice_cmp nat_cmp k l ≡ o → are_among names (put k d ms) ≡ (is_among names k && are_among names ms)
        → are_among names (match_ordering o (member k d (member l e ms)) (member l d ms) (member l e (put k d ms))) ≡ (is_among names k && (is_among names l && are_among names ms))
    at Less is later = refl
    at Equal is later =
        let same : k ≡ l = (bytes_eq-Decides k l).0 (sym (is_eq-slice_cmp k l) ∙ ap is_eq is) in
        once (is_among names l) (are_among names ms) ∙ ap (λ name. is_among names name && (is_among names l && are_among names ms)) (sym same)
    at Greater is later = ap (λ b. is_among names l && b) later ∙ swapped (is_among names l) (is_among names k) (are_among names ms)

one_field : (known name : List ℕ) (d : Data) (ms : Members) (b : Bool) → bytes_eq known name ≡ b → (if b then Some (kind_of d) else field (object ms) known) ≡ field (object (put name d ms)) known
one_field known name d ms true is =
    let same : known ≡ name = (bytes_eq-Decides known name).0 is in
    ap (option_map kind_of) (sym (get_member-put name d ms)) ∙ ap (λ n. option_map kind_of (get_member n (put name d ms))) (sym same)
one_field known name d ms false is =
    ap (option_map kind_of) (sym (get_member-put_other known name d ms (λ same. false≢true (sym is ∙ (bytes_eq-Decides known name).1 same))))

-- the slots follow the members
pub fields-put : (names : List (List ℕ)) (name : List ℕ) (d : Data) (ms : Members) → with_field names name (kind_of d) (map (field (object ms)) names) ≡ map (field (object (put name d ms))) names
unfolding with_field
fields-put [] name d ms = refl
fields-put (known ∷ names) name d ms = λ i. one_field known name d ms (bytes_eq known name) refl i ∷ fields-put names name d ms i

pub no_fields : (names : List (List ℕ)) → replicate (length names) None ≡ map (field (object no_members)) names
no_fields [] = refl
no_fields (name ∷ names) = ap (λ slots. None ∷ slots) (no_fields names)

pub not_object : (names : List (List ℕ)) (d : Data) → as_object d ≡ None → has_only names d ≡ false
unfolding has_only
not_object names null e = refl
not_object names (boolean b) e = refl
not_object names (number n) e = refl
not_object names (string s) e = refl
not_object names (array items) e = refl
not_object names (object ms) e = absurd (cc)

pub object-fields : (names : List (List ℕ)) (ms : Members) (only : Bool) (slots : List (Option KindOf)) → only ≡ are_among names ms → slots ≡ map (field (object ms)) names
    → fields names (object ms) ≡ (if only then Some slots else None)
unfolding has_only
object-fields names ms only slots e f = ap₂ (λ b ss. if b then Some ss else None) (sym e) (sym f)

both : (a b : Bool) → (a && b) ≡ (b && a)
both true true = refl
both true false = refl
both false true = refl
both false false = refl

pub only-put : (names : List (List ℕ)) (k : List ℕ) (d : Data) (ms : Members) (only known : Bool) → only ≡ are_among names ms → known ≡ is_among names k → (only && known) ≡ are_among names (put k d ms)
only-put names k d ms only known e is = ap₂ (λ a b. a && b) e is ∙ both (are_among names ms) (is_among names k) ∙ sym (are_among-put names k d ms)

pub among-none : (names : List (List ℕ)) → true ≡ are_among names no_members
unfolding are_among
among-none names = refl

-- ---- where one more name is that of a list

either_false : (a b : Bool) → (a || b) ≡ false → (a ≡ false) × (b ≡ false)
either_false true b e = absurd (false≢true (sym e))
either_false false b e = (refl, e)

-- a member of another name fills none of the slots
pub fields-other : (names : List (List ℕ)) (name : List ℕ) (d : Data) (ms : Members) → is_among names name ≡ false → map (field (object ms)) names ≡ map (field (object (put name d ms))) names
unfolding is_among
fields-other [] name d ms other = refl
fields-other (known ∷ names) name d ms other =
    let both = either_false (bytes_eq known name) (is_among names name) other in
    ap₂ (λ s ss. s ∷ ss) (one_field known name d ms false both.0) (fields-other names name d ms both.1)

apart : (a b : List ℕ) → bytes_eq a b ≡ false → a ≡ b → ⊥
apart a b e same = false≢true (sym e ∙ (bytes_eq-Decides a b).1 same)

-- the list's own name
pub only-list : (names : List (List ℕ)) (list_name : List ℕ) (d : Data) (ms : Members) (only : Bool) → only ≡ are_among (list_name ∷ names) ms → only ≡ are_among (list_name ∷ names) (put list_name d ms)
unfolding is_among
only-list names list_name d ms only e =
    e ∙ ap (λ b. (b || is_among names list_name) && are_among (list_name ∷ names) ms) (sym ((bytes_eq-Decides list_name list_name).1 refl)) ∙ sym (are_among-put (list_name ∷ names) list_name d ms)

-- another one
pub only-other : (names : List (List ℕ)) (list_name name : List ℕ) (d : Data) (ms : Members) (only known : Bool) → bytes_eq name list_name ≡ false → only ≡ are_among (list_name ∷ names) ms → known ≡ is_among names name
    → (only && known) ≡ are_among (list_name ∷ names) (put name d ms)
unfolding is_among
only-other names list_name name d ms only known other e is =
    let differ : bytes_eq list_name name ≡ false = grind (arith, bytes_eq-Decides list_name name, bytes_eq-Decides name list_name, other) in
    only-put (list_name ∷ names) name d ms only known e (is ∙ ap (λ b. b || is_among names name) (sym differ))

pub list-other : (list_name name : List ℕ) (d : Data) (ms : Members) → bytes_eq name list_name ≡ false → get_member list_name (put name d ms) ≡ get_member list_name ms
list-other list_name name d ms other = get_member-put_other list_name name d ms (λ same. apart name list_name other (sym same))

-- what an object means of which these were found
pub object-fields_and_list : (names : List (List ℕ)) (list_name : List ℕ) (most : ℕ) (ms : Members) (only : Bool) (kinds : List (Option KindOf)) (list : Option ListOf)
    → only ≡ are_among (list_name ∷ names) ms → kinds ≡ map (field (object ms)) names → list ≡ option_map (short_list most) (get_member list_name ms)
    → fields_and_list names list_name most (object ms) ≡ (if only then Some (record { kinds = kinds; list = list }) else None)
unfolding has_only
object-fields_and_list names list_name most ms only kinds list e f g = λ i. if sym e i then Some (record { kinds = sym f i; list = sym g i }) else None

pub other-fields_and_list : (names : List (List ℕ)) (list_name : List ℕ) (most : ℕ) (d : Data) → as_object d ≡ None → fields_and_list names list_name most d ≡ None
other-fields_and_list names list_name most d e =
    ap (λ b. if b then Some (record { kinds = map (field d) names; list = option_map (short_list most) (get list_name d) }) else None) (not_object (list_name ∷ names) d e)
