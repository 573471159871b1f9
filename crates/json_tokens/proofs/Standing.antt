-- What stands at tokens, a token, an item or a member at a time.
use Rattle.std.proofs.Common.{◌≡◌, ℕ, Bool, zero, suc, ◌-◌, ◌<◌, ◌≤◌, List, [], ◌∷◌, length, Option, Some, None, option_map, option_and_then, refl, sym, ap, ◌∙◌, arith}
use Rattle.json.specs.Token.{Token}
use Rattle.json.specs.Json as json
use Rattle.json.specs.Json.{Parse, parse_map, after_end_array, read_key, items_step, members_step, items, members, value}
use Rattle.json.proofs.Grammar as grammar
use Rattle.json.proofs.Grammar.{left}
use Rattle.serde_json.specs.Data.{Num, Data, number, array, object, Items, item, Members, no_members, put}
use Rattle.serde_json.specs.Find.{as_u64}
use Rattle.serde_json.specs.Read.{number_of, of_json, of_items, of_members, converted}
use Rattle.json_tokens.specs.json_input.Each.{list_items, list_of}
use Rattle.json_tokens.specs.Standing.{value_at, items_at, members_at}
use Rattle.json_tokens.specs.Kind.{KindOf, Text, Other, number_kind, kind_of}

abbrev pick : {A : Type 0} → A → Option A → A
pick d None = d
pick d (Some a) = a

found : {A B : Type 0} (a : A) (r s : List Token) (x : Option B) (b : B) → option_map {U = B × List Token} (λ y. (y, r)) x ≡ Some (b, s) → (r ≡ s) × (x ≡ Some b)
found a r s None b e = absurd (cc)
found a r s (Some y) b e = let same = ap (pick (y, r)) e in (ap (λ p. p.1) same, ap (λ p. Some p.0) same)

pub converted_some : {A B : Type 0} (f : A → Option B) (o : Option (A × List Token)) (b : B) (r : List Token) → converted f o ≡ Some (b, r) → (a : A) × (o ≡ Some (a, r)) × (f a ≡ Some b)
converted_some f None b r e = absurd (cc)
converted_some f (Some p) b r e = let both = found p.0 p.1 r (f p.0) b e in (p.0, ap (λ s. Some (p.0, s)) both.0, both.1)

pub refused : {B : Type 0} (r : List Token) (x : Option B) → option_map {U = B × List Token} (λ y. (y, r)) x ≡ None → x ≡ None
refused r None e = refl
refused r (Some y) e = absurd (cc)

twice : {A B : Type 0} (g : A → B) (r : List Token) (x : Option A) → option_map (λ b. (b, r)) (option_map g x) ≡ parse_map g (option_map (λ a. (a, r)) x)
twice g r None = refl
twice g r (Some a) = refl

-- ---- what opens

converted-array : (o : Option (json.Items × List Token)) → converted of_json (parse_map json.array o) ≡ parse_map array (converted of_items o)
converted-array None = refl
converted-array (Some p) = twice array p.1 (of_items p.0)

converted-object : (o : Option (json.Members × List Token)) → converted of_json (parse_map json.object o) ≡ parse_map object (converted (λ ms. of_members ms no_members) o)
converted-object None = refl
converted-object (Some p) = twice object p.1 (of_members p.0 no_members)

listed : (o : Option (Items × List Token)) → parse_map list_of (parse_map array o) ≡ parse_map {A = List Data} Some (parse_map list_items o)
listed None = refl
listed (Some p) = refl

pub at-list : (depth : ℕ) (ts : List Token) → 0 < depth → parse_map list_of (value_at depth (Token.begin_array ∷ ts)) ≡ parse_map {A = List Data} Some (items_at (depth - 1) ts)
unfolding value_at items_at
at-list depth ts some =
    ap (parse_map list_of) (ap (converted of_json) (grammar.value-begin_array depth ts some) ∙ converted-array (items (value (depth - 1)) (length ts) ts))
    ∙ listed (converted of_items (items (value (depth - 1)) (length ts) ts))

pub at-object : (depth : ℕ) (ts : List Token) → 0 < depth → value_at depth (Token.begin_object ∷ ts) ≡ parse_map object (members_at (depth - 1) no_members ts)
unfolding value_at members_at
at-object depth ts some = ap (converted of_json) (grammar.value-begin_object depth ts some) ∙ converted-object (members (value (depth - 1)) (length ts) ts)

-- ---- how many turns are allowed plays no part where they are as many as the tokens

module _ (p : Parse json.Json) (takes : grammar.Takes p) where
  none_of_none : p [] ≡ None
  none_of_none = at (p []) refl
    where
      at : (o : Option (json.Json × List Token)) → p [] ≡ o → o ≡ None
      at None e = refl
      at (Some q) e = let never : length q.1 < 0 = takes [] q.1 (ap left e) in absurd (omega (arith, never))

  items-turn : (a b : Parse json.Items) (ts : List Token) → ((r : List Token) → length r < length ts → a r ≡ b r) → (e : Option (List Token)) (o : Option (json.Json × List Token)) → p ts ≡ o
      → items_step p a ts e ≡ items_step p b ts e
  items-turn a b ts same (Some r) o is = refl
  items-turn a b ts same None None is = ap (option_and_then (λ q. parse_map (json.item q.0) (a q.1))) is ∙ sym (ap (option_and_then (λ q. parse_map (json.item q.0) (b q.1))) is)
  items-turn a b ts same None (Some q) is =
      ap (option_and_then (λ q. parse_map (json.item q.0) (a q.1))) is
      ∙ ap (parse_map (json.item q.0)) (same q.1 (takes ts q.1 (ap left is)))
      ∙ sym (ap (option_and_then (λ q. parse_map (json.item q.0) (b q.1))) is)

  items-turns : (n m : ℕ) (ts : List Token) → length ts ≤ n → length ts ≤ m → items p n ts ≡ items p m ts
  unfolding items
  items-turns zero zero ts few enough = refl
  items-turns zero (suc m) [] few enough = sym (ap (option_and_then (λ q. parse_map (json.item q.0) (items p m q.1))) none_of_none)
  items-turns zero (suc m) (t ∷ ts) few enough = let never : ⊥ = omega arith in absurd never
  items-turns (suc n) zero [] few enough = ap (option_and_then (λ q. parse_map (json.item q.0) (items p n q.1))) none_of_none
  items-turns (suc n) zero (t ∷ ts) few enough = let never : ⊥ = omega arith in absurd never
  items-turns (suc n) (suc m) ts few enough = items-turn (items p n) (items p m) ts (λ r less. items-turns n m r (omega (arith, less)) (omega (arith, less))) (after_end_array ts) (p ts) refl

  member-turn : (a b : Parse json.Members) (k : List ℕ) (ts : List Token) → ((r : List Token) → length r < length ts → a r ≡ b r) → (o : Option (json.Json × List Token)) → p ts ≡ o
      → members_step p a (Some k) ts ≡ members_step p b (Some k) ts
  member-turn a b k ts same None is = ap (option_and_then (λ q. parse_map (json.member k q.0) (a q.1))) is ∙ sym (ap (option_and_then (λ q. parse_map (json.member k q.0) (b q.1))) is)
  member-turn a b k ts same (Some q) is =
      ap (option_and_then (λ q. parse_map (json.member k q.0) (a q.1))) is
      ∙ ap (parse_map (json.member k q.0)) (same q.1 (takes ts q.1 (ap left is)))
      ∙ sym (ap (option_and_then (λ q. parse_map (json.member k q.0) (b q.1))) is)

  members-turn : (a b : Parse json.Members) (ts : List Token) → ((r : List Token) → length r < length ts → a r ≡ b r) → (o : Option (Option (List ℕ) × List Token)) → read_key ts ≡ o
      → option_and_then (λ q. members_step p a q.0 q.1) o ≡ option_and_then (λ q. members_step p b q.0 q.1) o
  members-turn a b ts same None is = refl
  members-turn a b ts same (Some (None, s)) is = refl
  members-turn a b ts same (Some (Some k, s)) is =
      let shorter = grammar.read_key-shorter ts (Some k) s is in
      member-turn a b k s (λ r less. same r (omega (arith, less, shorter))) (p s) refl

  members-turns : (n m : ℕ) (ts : List Token) → length ts ≤ n → length ts ≤ m → members p n ts ≡ members p m ts
  unfolding members
  members-turns zero zero ts few enough = refl
  members-turns zero (suc m) [] few enough = refl
  members-turns zero (suc m) (t ∷ ts) few enough = let never : ⊥ = omega arith in absurd never
  members-turns (suc n) zero [] few enough = refl
  members-turns (suc n) zero (t ∷ ts) few enough = let never : ⊥ = omega arith in absurd never
  members-turns (suc n) (suc m) ts few enough = members-turn (members p n) (members p m) ts (λ r less. members-turns n m r (omega (arith, less)) (omega (arith, less))) (read_key ts) refl

-- ---- the items of a list

with_item : (j : json.Json) (d : Data) → of_json j ≡ Some d → (o : Option (json.Items × List Token)) → converted of_items (parse_map (json.item j) o) ≡ parse_map (item d) (converted of_items o)
with_item j d e None = refl
with_item j d e (Some p) = rw e (twice (item d) p.1 (of_items p.0))

without_item : (j : json.Json) → of_json j ≡ None → (o : Option (json.Items × List Token)) → converted of_items (parse_map (json.item j) o) ≡ None
without_item j e None = refl
without_item j e (Some p) = rw e

no_item : (more : Parse json.Items) (o : Option (json.Json × List Token)) → converted of_json o ≡ None → converted of_items (option_and_then (λ q. parse_map (json.item q.0) (more q.1)) o) ≡ None
no_item more None e = refl
no_item more (Some q) e = without_item q.0 (refused q.1 (of_json q.0) e) (more q.1)

item-refused : (p : Parse json.Json) (n : ℕ) (ts : List Token) → after_end_array ts ≡ None → converted of_json (p ts) ≡ None → converted of_items (items p n ts) ≡ None
unfolding items
item-refused p zero ts going e = refl
item-refused p (suc n) ts going e = ap (λ o. converted of_items (items_step p (items p n) ts o)) going ∙ no_item (items p n) (p ts) e

pub at-items-end : (depth : ℕ) (ts r : List Token) → after_end_array ts ≡ Some r → items_at depth ts ≡ Some ([], r)
unfolding items_at
at-items-end depth ts r e = ap (λ o. parse_map list_items (converted of_items o)) (grammar.items_end (value depth) (length ts) ts r (omega arith) e)

one_more : (d : Data) (o : Option (Items × List Token)) → parse_map list_items (parse_map (item d) o) ≡ parse_map (λ ds. d ∷ ds) (parse_map list_items o)
one_more d None = refl
one_more d (Some p) = refl

pub at-item : (depth : ℕ) (ts r : List Token) (d : Data) → after_end_array ts ≡ None → value_at depth ts ≡ Some (d, r) → items_at depth ts ≡ parse_map (λ ds. d ∷ ds) (items_at depth r)
unfolding value_at items_at
at-item depth ts r d going e =
    let p = value depth in
    let takes = grammar.skip_value-shorter depth in
    let j = converted_some of_json (p ts) d r e in
    let less : length r < length ts = takes ts r (ap left j.1) in
    ap (parse_map list_items) (
    ap (converted of_items) (grammar.items_more p (length ts) ts r j.0 (omega (arith, less)) going j.1)
    ∙ with_item j.0 d j.2 (items p (length ts - 1) r)
    ∙ ap (λ o. parse_map (item d) (converted of_items o)) (items-turns p takes (length ts - 1) (length r) r (omega (arith, less)) (omega arith))
    )
    ∙ one_more d (converted of_items (items p (length r) r))

pub at-no_item : (depth : ℕ) (ts : List Token) → after_end_array ts ≡ None → value_at depth ts ≡ None → items_at depth ts ≡ None
unfolding value_at items_at
at-no_item depth ts going e = ap (parse_map list_items) (item-refused (value depth) (length ts) ts going e)

-- ---- the members of an object

with_member : (k : List ℕ) (j : json.Json) (d : Data) (old : Members) → of_json j ≡ Some d → (o : Option (json.Members × List Token))
    → converted (λ ms. of_members ms old) (parse_map (json.member k j) o) ≡ converted (λ ms. of_members ms (put k d old)) o
with_member k j d old e None = refl
with_member k j d old e (Some p) = rw e

without_member : (k : List ℕ) (j : json.Json) (old : Members) → of_json j ≡ None → (o : Option (json.Members × List Token)) → converted (λ ms. of_members ms old) (parse_map (json.member k j) o) ≡ None
without_member k j old e None = refl
without_member k j old e (Some p) = rw e

no_member : (old : Members) (k : List ℕ) (more : Parse json.Members) (o : Option (json.Json × List Token)) → converted of_json o ≡ None
    → converted (λ ms. of_members ms old) (option_and_then (λ q. parse_map (json.member k q.0) (more q.1)) o) ≡ None
no_member old k more None e = refl
no_member old k more (Some q) e = without_member k q.0 old (refused q.1 (of_json q.0) e) (more q.1)

member-refused : (p : Parse json.Json) (old : Members) (n : ℕ) (k : List ℕ) (ts s : List Token) → read_key ts ≡ Some (Some k, s) → converted of_json (p s) ≡ None
    → converted (λ ms. of_members ms old) (members p n ts) ≡ None
unfolding members
member-refused p old zero k ts s key e = refl
member-refused p old (suc n) k ts s key e = rw key (no_member old k (members p n) (p s) e)

pub at-members-end : (depth : ℕ) (old : Members) (ts r : List Token) → read_key ts ≡ Some (None, r) → members_at depth old ts ≡ Some (old, r)
unfolding members_at
at-members-end depth old ts r e = ap (converted (λ ms. of_members ms old)) (grammar.members_end (value depth) (length ts) ts r (omega arith) e)

pub at-member : (depth : ℕ) (old : Members) (k : List ℕ) (ts s r : List Token) (d : Data) → read_key ts ≡ Some (Some k, s) → value_at depth s ≡ Some (d, r)
    → members_at depth old ts ≡ members_at depth (put k d old) r
unfolding value_at members_at
at-member depth old k ts s r d key e =
    let p = value depth in
    let takes = grammar.skip_value-shorter depth in
    let j = converted_some of_json (p s) d r e in
    let less : length r < length s = takes s r (ap left j.1) in
    let shorter = grammar.read_key-shorter ts (Some k) s key in
    ap (converted (λ ms. of_members ms old)) (grammar.members_more p (length ts) k ts s r j.0 (omega (arith, less, shorter)) key j.1)
    ∙ with_member k j.0 d old j.2 (members p (length ts - 1) r)
    ∙ ap (converted (λ ms. of_members ms (put k d old))) (members-turns p takes (length ts - 1) (length r) r (omega (arith, less, shorter)) (omega arith))

pub at-no_member : (depth : ℕ) (old : Members) (k : List ℕ) (ts s : List Token) → read_key ts ≡ Some (Some k, s) → value_at depth s ≡ None → members_at depth old ts ≡ None
unfolding value_at members_at
at-no_member depth old k ts s key e = member-refused (value depth) old (length ts) k ts s key e

pub at-no_name : (depth : ℕ) (old : Members) (ts : List Token) → read_key ts ≡ None → members_at depth old ts ≡ None
unfolding members_at
at-no_name depth old ts e = ap (converted (λ ms. of_members ms old)) (grammar.members_no_key (value depth) (length ts) ts e)

-- ---- a token that is a whole value, and one that is none

abbrev pub kinds : Option (Data × List Token) → Option (KindOf × List Token)
kinds o = parse_map kind_of o

module _ (depth : ℕ) (ts : List Token) where
  pub at-string : (s : List ℕ) → kinds (value_at depth (Token.string s ∷ ts)) ≡ Some (Text s, ts)
  unfolding value_at
  at-string s = ap (λ o. kinds (converted of_json o)) (grammar.value_is depth (Token.string s ∷ ts))

  pub at-boolean : (b : Bool) → kinds (value_at depth (Token.boolean b ∷ ts)) ≡ Some (Other, ts)
  unfolding value_at
  at-boolean b = ap (λ o. kinds (converted of_json o)) (grammar.value_is depth (Token.boolean b ∷ ts))

  pub at-null : kinds (value_at depth (Token.null ∷ ts)) ≡ Some (Other, ts)
  unfolding value_at
  at-null = ap (λ o. kinds (converted of_json o)) (grammar.value_is depth (Token.null ∷ ts))

  kinds_of_number : (o : Option Num) (n : Option ℕ) → option_map as_u64 o ≡ Some n → kinds (option_map (λ d. (d, ts)) (option_map number o)) ≡ Some (number_kind n, ts)
  kinds_of_number None n e = absurd (cc)
  kinds_of_number (Some num) n e = ap (λ m. Some (number_kind (pick None m), ts)) e

  pub at-number : (s : List ℕ) (n : Option ℕ) → option_map as_u64 (number_of s) ≡ Some n → kinds (value_at depth (Token.number s ∷ ts)) ≡ Some (number_kind n, ts)
  unfolding value_at
  at-number s n e = ap (λ o. kinds (converted of_json o)) (grammar.value_is depth (Token.number s ∷ ts)) ∙ kinds_of_number (number_of s) n e

  pub at-huge_number : (s : List ℕ) → number_of s ≡ None → value_at depth (Token.number s ∷ ts) ≡ None
  unfolding value_at
  at-huge_number s e = ap (converted of_json) (grammar.value_is depth (Token.number s ∷ ts)) ∙ ap (λ o. option_map (λ d. (d, ts)) (option_map number o)) e

  pub at-end_array : value_at depth (Token.end_array ∷ ts) ≡ None
  unfolding value_at
  at-end_array = ap (converted of_json) (grammar.value_is depth (Token.end_array ∷ ts))

  pub at-end_object : value_at depth (Token.end_object ∷ ts) ≡ None
  unfolding value_at
  at-end_object = ap (converted of_json) (grammar.value_is depth (Token.end_object ∷ ts))

  pub at-key : (s : List ℕ) → value_at depth (Token.key s ∷ ts) ≡ None
  unfolding value_at
  at-key s = ap (converted of_json) (grammar.value_is depth (Token.key s ∷ ts))

  pub at-bad : value_at depth (Token.bad ∷ ts) ≡ None
  unfolding value_at
  at-bad = ap (converted of_json) (grammar.value_is depth (Token.bad ∷ ts))

pub at-nothing : (depth : ℕ) → value_at depth [] ≡ None
unfolding value_at
at-nothing depth = ap (converted of_json) (grammar.value_is depth [])

pub at-list-too_deep : (ts : List Token) → value_at 0 (Token.begin_array ∷ ts) ≡ None
unfolding value_at
at-list-too_deep ts = ap (converted of_json) (grammar.value_is 0 (Token.begin_array ∷ ts))

pub at-object-too_deep : (ts : List Token) → value_at 0 (Token.begin_object ∷ ts) ≡ None
unfolding value_at
at-object-too_deep ts = ap (converted of_json) (grammar.value_is 0 (Token.begin_object ∷ ts))

-- ---- what was read of what stands

-- a value that was read stands there
pub read_some : {A X : Type 0} (meant : A → X) (o : Option (A × List Token)) (x : X) (r : List Token) → parse_map meant o ≡ Some (x, r) → (a : A) × (o ≡ Some (a, r)) × (meant a ≡ x)
read_some meant None x r e = absurd (cc)
read_some meant (Some p) x r e = let both = ap (pick (meant p.0, p.1)) e in (p.0, ap (λ s. Some (p.0, s)) (ap (λ q. q.1) both), ap (λ q. q.0) both)

pub mapped-twice : {A B C : Type 0} (f : B → C) (g : A → B) (o : Option (A × List Token)) → parse_map f (parse_map g o) ≡ parse_map (λ a. f (g a)) o
mapped-twice f g None = refl
mapped-twice f g (Some p) = refl

pub mapped-none : {A B : Type 0} (g : A → B) (o : Option (A × List Token)) → parse_map g o ≡ None → o ≡ None
mapped-none g None e = refl
mapped-none g (Some p) e = absurd (cc)

-- what a list that was entered means, once its items are known
pub list-read : {X : Type 0} (f : Option (List Data) → X) (depth inner : ℕ) (ts s r : List Token) (found : List Data)
    → parse_map list_of (value_at depth ts) ≡ parse_map {A = List Data} Some (items_at inner s) → items_at inner s ≡ Some (found, r)
    → parse_map (λ value. f (list_of value)) (value_at depth ts) ≡ Some (f (Some found), r)
list-read f depth inner ts s r found entered e =
    sym (mapped-twice f list_of (value_at depth ts)) ∙ ap (parse_map f) (entered ∙ ap (parse_map {A = List Data} Some) e)

pub list-malformed : (depth inner : ℕ) (ts s : List Token) → parse_map list_of (value_at depth ts) ≡ parse_map {A = List Data} Some (items_at inner s) → items_at inner s ≡ None → value_at depth ts ≡ None
list-malformed depth inner ts s entered e = mapped-none list_of (value_at depth ts) (entered ∙ ap (parse_map {A = List Data} Some) e)

-- what an object that was entered means, once its members are known
pub object-read : {X : Type 0} (f : Data → X) (depth inner : ℕ) (ts s r : List Token) (found : Members)
    → value_at depth ts ≡ parse_map object (members_at inner no_members s) → members_at inner no_members s ≡ Some (found, r) → parse_map f (value_at depth ts) ≡ Some (f (object found), r)
object-read f depth inner ts s r found entered e = ap (parse_map f) (entered ∙ ap (parse_map object) e)

pub object-malformed : (depth inner : ℕ) (ts s : List Token) → value_at depth ts ≡ parse_map object (members_at inner no_members s) → members_at inner no_members s ≡ None → value_at depth ts ≡ None
object-malformed depth inner ts s entered e = entered ∙ ap (parse_map object) e
