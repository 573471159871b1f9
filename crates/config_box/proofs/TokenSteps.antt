-- What is kept of lists that are read item by item.
use Rattle.std.proofs.Common.{◌≡◌, ◌≢◌, ℕ, ◌<◌, ◌≤◌, List, [], ◌∷◌, ◌++◌, map, length, get_or, Bool, true, false, not, if◌then◌else◌, codes, Option, Some, None, option_map, option_and_then, ok_or, Result, Ok, Err, refl, sym, ap, ap₂, subst, ◌∙◌, arith, length-append}
use Rattle.std.proofs.lemmas.List.{take_all, take-append-le, length-take}
use Rattle.contract_words.specs.Faults.{◌>>=◌, refuse}
use Rattle.json.specs.Token.{Token}
use Rattle.json.specs.Json.{parse_map, after_end_array}
use Rattle.serde_json.specs.Data.{Data, null, boolean, number, string, array, object, Members}
use Rattle.serde_json.specs.Find.{get}
use Rattle.json_input.specs.Each.{each, list_of}
use Rattle.json_input.specs.Shape.{has_only}
use Rattle.json_tokens.specs.Standing.{value_at, items_at}
use Rattle.json_tokens.specs.Reads.{ReadsOr}
use Rattle.json_tokens.specs.Fields.{field, fields, slots_seen}
use Rattle.json_tokens.specs.Kind.{KindOf, AList, AnObject, kind_of, kind_seen, number_in, text_in}
use Rattle.json_tokens.specs.declared.kind.Kind.{Kind}
use Rattle.json_tokens.specs.declared.kind.Kind.TheVariants as kind
use Rattle.std.specs.Borrow.{Bor}
use Rattle.json_tokens.proofs.Standing.{read_some, mapped-twice, list-malformed}
use Rattle.json_tokens.proofs.EachWalked.{EachWalked, EachWalked-none, EachWalked-next}
use Rattle.json_tokens.proofs.OfKind.{number_in-kind, text_in-kind, number-member}
use Rattle.box_answers.specs.config_record.declared.coord.Coord.{Coord}
use Rattle.box_answers.specs.config_record.declared.coord.Coord.TheVariants as coords
use Rattle.config_box.specs.declared.box_fault.BoxFault.{BoxFault}
use Rattle.config_box.specs.declared.box_fault.BoxFault.TheVariants.{Syntax, Shape, OutOfMemory}
use Rattle.config_box.specs.Written.{WrittenOf, RangeOf, NumbersOf, TextsOf, number_item, text_item, number_member, range_in, numbers_or_range, numbers_in, texts_in}
use Rattle.config_box.specs.Written as written
use Rattle.config_box.specs.Kept.{kept_items, keep, numbers_kept, texts_kept, range_kept, kept_at}

-- what comes after what was read
pub read-then : {A X Y : Type 0} (f : A → X) (g : X → Y) (o : Option (A × List Token)) (x : X) (r : List Token) → parse_map f o ≡ Some (x, r) → parse_map (λ a. g (f a)) o ≡ Some (g x, r)
read-then f g o x r e = sym (mapped-twice g f o) ∙ ap (parse_map g) e

number-kind : (k : Kind) → ((n : ℕ) → k ≡ kind.Number n → ⊥) → number_in (kind_seen k) ≡ number_in (kind_seen kind.Other)
number-kind (kind.Number n) other = absurd (other n refl)
number-kind (kind.Text s) other = refl
number-kind kind.List other = refl
number-kind kind.Object other = refl
number-kind kind.Other other = refl

text-kind : (k : Kind) → ((s : Bor (List ℕ)) → k ≡ kind.Text s → ⊥) → text_in (kind_seen k) ≡ text_in (kind_seen kind.Other)
text-kind (kind.Number n) other = refl
text-kind (kind.Text s) other = absurd (other s refl)
text-kind kind.List other = refl
text-kind kind.Object other = refl
text-kind kind.Other other = refl

module _ (o : Option (Data × List Token)) (k : Kind) (r : List Token) (e : parse_map kind_of o ≡ Some (kind_seen k, r)) where
  number-read : parse_map number_item o ≡ Some (ok_or (number_in (kind_seen k)) Shape, r)
  number-read =
      let d = read_some kind_of o (kind_seen k) r e in
      ap (parse_map number_item) d.1 ∙ ap (λ n. Some (ok_or n Shape, r)) (sym (number_in-kind d.0) ∙ ap number_in d.2)

  pub number-is : (n : ℕ) → k ≡ kind.Number n → parse_map number_item o ≡ Some (Ok n, r)
  number-is n is = number-read ∙ ap (λ k. Some (ok_or (number_in (kind_seen k)) Shape, r)) is

  pub number-not : ((n : ℕ) → k ≡ kind.Number n → ⊥) → parse_map number_item o ≡ Some (Err Shape, r)
  number-not other = number-read ∙ ap (λ n. Some (ok_or n Shape, r)) (number-kind k other)

  text-read : parse_map text_item o ≡ Some (ok_or (text_in (kind_seen k)) Shape, r)
  text-read =
      let d = read_some kind_of o (kind_seen k) r e in
      ap (parse_map text_item) d.1 ∙ ap (λ t. Some (ok_or t Shape, r)) (sym (text_in-kind d.0) ∙ ap text_in d.2)

  pub text-is : (s : Bor (List ℕ)) → k ≡ kind.Text s → parse_map text_item o ≡ Some (Ok s.now, r)
  text-is s is = text-read ∙ ap (λ k. Some (ok_or (text_in (kind_seen k)) Shape, r)) is

  pub text-not : ((s : Bor (List ℕ)) → k ≡ kind.Text s → ⊥) → parse_map text_item o ≡ Some (Err Shape, r)
  text-not other = text-read ∙ ap (λ t. Some (ok_or t Shape, r)) (text-kind k other)

pub numbers-read : (o : Option (List Data × List Token)) (y : Result (List ℕ) BoxFault) (r : List Token) → parse_map (each number_item) o ≡ Some (y, r)
    → parse_map numbers_kept o ≡ Some (keep (y >>= λ numbers. Ok (NumbersOf numbers)), r)
numbers-read o y r e = read-then (each number_item) (λ y. keep (y >>= λ numbers. Ok (NumbersOf numbers))) o y r e

pub texts-read : (o : Option (List Data × List Token)) (y : Result (List (List ℕ)) BoxFault) (r : List Token) → parse_map (each text_item) o ≡ Some (y, r)
    → parse_map texts_kept o ≡ Some (keep (y >>= λ texts. Ok (TextsOf texts)), r)
texts-read o y r e = read-then (each text_item) (λ y. keep (y >>= λ texts. Ok (TextsOf texts))) o y r e

-- ---- the first items of a list

pub kept_items-nil : {X : Type 0} → kept_items {A = X} [] ≡ []
unfolding kept_items
kept_items-nil = refl

pub kept_items-few : {X : Type 0} (xs : List X) → length xs ≤ 513 → kept_items xs ≡ xs
unfolding kept_items
kept_items-few xs few = take_all 513 xs few

pub kept_items-many : {X : Type 0} (xs : List X) → 513 ≤ length xs → 512 < length (kept_items xs)
unfolding kept_items
kept_items-many xs many = omega (arith, length-take 513 xs)

kept_items-next : {X : Type 0} (xs : List X) (x : X) → length (kept_items xs) ≤ 512 → kept_items (xs ++ x ∷ []) ≡ kept_items xs ++ x ∷ []
unfolding kept_items
kept_items-next xs x few =
    let less : length xs ≤ 512 = omega (arith, length-take 513 xs) in
    take_all 513 (xs ++ x ∷ []) (omega (arith, length-append xs (x ∷ []))) ∙ ap (λ ys. ys ++ x ∷ []) (sym (take_all 513 xs (omega arith)))

kept_items-full : {X : Type 0} (xs : List X) (x : X) → 512 < length (kept_items xs) → kept_items (xs ++ x ∷ []) ≡ kept_items xs
unfolding kept_items
kept_items-full xs x many = take-append-le 513 xs (x ∷ []) (omega (arith, length-take 513 xs))

-- ---- a loop over the items of a list

-- these are kept of what f reads of the items that were taken
pub record KeptWalked {X : Type 0} (f : Data → Result X BoxFault) (depth : ℕ) (start : List Token) (kept : List X) (now : List Token) : Type 0 where
  pub so_far : List X
  pub walked : EachWalked f depth start so_far now
  pub first : kept ≡ kept_items so_far

pub KeptWalked-none : {X : Type 0} (f : Data → Result X BoxFault) (depth : ℕ) (start : List Token) → KeptWalked f depth start [] start
KeptWalked-none f depth start = record { so_far = []; walked = EachWalked-none f depth start; first = sym kept_items-nil }

pub KeptWalked-next : {X : Type 0} (f : Data → Result X BoxFault) (depth : ℕ) (start now r : List Token) (kept : List X) (x : X)
    → KeptWalked f depth start kept now → after_end_array now ≡ None → parse_map f (value_at depth now) ≡ Some (Ok x, r) → length kept ≤ 512 → KeptWalked f depth start (kept ++ x ∷ []) r
KeptWalked-next f depth start now r kept x so going e few = record {
  so_far = so.so_far ++ x ∷ [];
  walked = EachWalked-next f depth start now r so.so_far x so.walked going e;
  first = ap (λ ys. ys ++ x ∷ []) so.first ∙ sym (kept_items-next so.so_far x (subst (λ ys. length ys ≤ 512) so.first few));
}

pub KeptWalked-full : {X : Type 0} (f : Data → Result X BoxFault) (depth : ℕ) (start now r : List Token) (kept : List X) (x : X)
    → KeptWalked f depth start kept now → after_end_array now ≡ None → parse_map f (value_at depth now) ≡ Some (Ok x, r) → 512 < length kept → KeptWalked f depth start kept r
KeptWalked-full f depth start now r kept x so going e many = record {
  so_far = so.so_far ++ x ∷ [];
  walked = EachWalked-next f depth start now r so.so_far x so.walked going e;
  first = so.first ∙ sym (kept_items-full so.so_far x (subst (λ ys. 512 < length ys) so.first many));
}

-- ---- a list or an object that was entered

-- what a list means, by its items
pub list-reads : {X Y : Type 0} (view : Y → X) (f : Data → X) (g : List Data → X) → ((value : Data) (items : List Data) → list_of value ≡ Some items → f value ≡ g items) → (depth inner : ℕ) (ts s r : List Token) (result : Result Y BoxFault)
    → parse_map list_of (value_at depth ts) ≡ parse_map {A = List Data} Some (items_at inner s) → ReadsOr Syntax OutOfMemory view g (items_at inner s) result r → ReadsOr Syntax OutOfMemory view f (value_at depth ts) result r
list-reads view f g same depth inner ts s r (Ok y) entered e =
    let items = read_some g (items_at inner s) (view y) r e in
    let value = read_some list_of (value_at depth ts) (Some items.0) r (entered ∙ ap (parse_map {A = List Data} Some) items.1) in
    ap (parse_map f) value.1 ∙ ap (λ x. Some (x, r)) (same value.0 items.0 value.2 ∙ items.2)
list-reads view f g same depth inner ts s r (Err fault) entered e = λ other. let p = e other in (p.0, list-malformed depth inner ts s entered p.1)

pub numbers-in_list : (value : Data) (items : List Data) → list_of value ≡ Some items → keep (numbers_in value) ≡ numbers_kept items
unfolding numbers_in
numbers-in_list value items e = ap (λ o. keep (numbers_or_range o value)) e

pub texts-in_list : (value : Data) (items : List Data) → list_of value ≡ Some items → keep (texts_in value) ≡ texts_kept items
unfolding texts_in
texts-in_list value items e = ap (λ o. keep (ok_or o Shape >>= λ items. each text_item items >>= λ texts. Ok (TextsOf texts))) e

pub texts-no_list : (value : Data) → list_of value ≡ None → keep (texts_in value) ≡ Err Shape
unfolding texts_in
texts-no_list value e = ap (λ o. keep (ok_or o Shape >>= λ items. each text_item items >>= λ texts. Ok (TextsOf texts))) e

pub range-in_object : (ms : Members) → keep (numbers_in (object ms)) ≡ range_kept ms
unfolding numbers_in
range-in_object ms = refl

numbers-elsewhere : (value : Data) → (kind_of value ≡ AList → ⊥) → (kind_of value ≡ AnObject → ⊥) → keep (numbers_in value) ≡ Err Shape
unfolding numbers_in range_in has_only
numbers-elsewhere null no_list no_object = refl
numbers-elsewhere (boolean b) no_list no_object = refl
numbers-elsewhere (number n) no_list no_object = refl
numbers-elsewhere (string s) no_list no_object = refl
numbers-elsewhere (array items) no_list no_object = absurd (no_list refl)
numbers-elsewhere (object ms) no_list no_object = absurd (no_object refl)

-- a value that is neither
pub other-read : (o : Option (Data × List Token)) (k : KindOf) (r : List Token) → (k ≡ AList → ⊥) → (k ≡ AnObject → ⊥) → parse_map kind_of o ≡ Some (k, r) → parse_map (λ value. keep (numbers_in value)) o ≡ Some (Err Shape, r)
other-read o k r no_list no_object e =
    let d = read_some kind_of o k r e in
    ap (parse_map (λ value. keep (numbers_in value))) d.1 ∙ ap (λ y. Some (y, r)) (numbers-elsewhere d.0 (λ is. no_list (sym d.2 ∙ is)) (λ is. no_object (sym d.2 ∙ is)))

pub elsewhere-kept : (at : Coord) → at ≢ coords.Locale → (λ value. keep (numbers_in value)) ≡ kept_at at
unfolding written.value_at
elsewhere-kept coords.Locale other = absurd (other refl)
elsewhere-kept c other = refl

-- ---- a range

-- the first number and the last
abbrev pub ends_in : Option (List (Option KindOf)) → Result (ℕ × ℕ) BoxFault
ends_in None = Err Shape
ends_in (Some (a ∷ b ∷ _)) = ok_or (option_and_then number_in a) Shape >>= λ from. ok_or (option_and_then number_in b) Shape >>= λ to. Ok (from, to)
ends_in (Some _) = Err Shape

pub range-ends : (value : Data) → range_in value ≡ ends_in (fields (codes "from" ∷ codes "to" ∷ []) value)
unfolding range_in number_member
range-ends value = at (has_only (codes "from" ∷ codes "to" ∷ []) value)
  where
    at : (b : Bool)
        → (refuse (not b) Shape >>= λ _. number_member (codes "from") value >>= λ from. number_member (codes "to") value >>= λ to. Ok (from, to))
        ≡ ends_in (if b then Some (map (field value) (codes "from" ∷ codes "to" ∷ [])) else None)
    at false = refl
    at true =
        ap₂ (λ a b. ok_or a Shape >>= λ from. ok_or b Shape >>= λ to. Ok (from, to)) (number-member (get (codes "from") value)) (number-member (get (codes "to") value))

abbrev pub kept_range : Result (ℕ × ℕ) BoxFault → Result WrittenOf BoxFault
kept_range read = keep (read >>= λ range. Ok (RangeOf range.0 range.1))

pub range-read : (o : Option (Members × List Token)) (y : Option (List (Option KindOf))) (r : List Token) → parse_map (λ found. fields (codes "from" ∷ codes "to" ∷ []) (object found)) o ≡ Some (y, r)
    → parse_map range_kept o ≡ Some (kept_range (ends_in y), r)
range-read o y r e =
    let d = read_some (λ found. fields (codes "from" ∷ codes "to" ∷ []) (object found)) o y r e in
    ap (parse_map range_kept) d.1 ∙ ap (λ z. Some (kept_range z, r)) (range-ends (object d.0) ∙ ap ends_in d.2)

-- the slots of both
ends-seen : (slots : List (Option Kind)) (d e : Option Kind) (a b : Option ℕ) → length slots ≡ 2 → a ≡ option_and_then number_in (option_map kind_seen (get_or slots 0 d)) → b ≡ option_and_then number_in (option_map kind_seen (get_or slots 1 e))
    → ends_in (Some (slots_seen slots)) ≡ (ok_or a Shape >>= λ from. ok_or b Shape >>= λ to. Ok (from, to))
ends-seen [] d e a b two first last = let never : ⊥ = omega arith in absurd never
ends-seen (s ∷ []) d e a b two first last = let never : ⊥ = omega arith in absurd never
ends-seen (s ∷ t ∷ slots) d e a b two first last = ap₂ (λ a b. ok_or a Shape >>= λ from. ok_or b Shape >>= λ to. Ok (from, to)) (sym first) (sym last)

module _ (slots : List (Option Kind)) (d : Option Kind) (a : Option ℕ) (two : length slots ≡ 2) (first : a ≡ option_and_then number_in (option_map kind_seen (get_or slots 0 d))) where
  pub ends-no_first : a ≡ None → kept_range (ends_in (Some (slots_seen slots))) ≡ Err Shape
  ends-no_first none =
      ap kept_range (ends-seen slots d d a (option_and_then number_in (option_map kind_seen (get_or slots 1 d))) two first refl)
      ∙ ap (λ a. kept_range (ok_or a Shape >>= λ from. ok_or (option_and_then number_in (option_map kind_seen (get_or slots 1 d))) Shape >>= λ to. Ok (from, to))) none

  pub ends-both : (e : Option Kind) (b : Option ℕ) → b ≡ option_and_then number_in (option_map kind_seen (get_or slots 1 e)) → (from : ℕ) → a ≡ Some from
      → kept_range (ends_in (Some (slots_seen slots))) ≡ kept_range (ok_or b Shape >>= λ to. Ok (from, to))
  ends-both e b last from is =
      ap kept_range (ends-seen slots d e a b two first last) ∙ ap (λ a. kept_range (ok_or a Shape >>= λ from. ok_or b Shape >>= λ to. Ok (from, to))) is
