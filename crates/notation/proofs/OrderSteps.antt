-- Parts that are read say the same in any order.
use Rattle.std.proofs.Common.{◌≡◌, ◌≢◌, ℕ, ◌<◌, ◌==◌, ◌&&◌, not, Bool, true, false, List, [], ◌∷◌, length, set, get_or, bytes_eq, Option, Some, None, option_map, IfSome, Result, Ok, Err, inl, inr, refl, sym, ap, ◌∙◌, arith}
use Rattle.std.specs.List.{list_all}
use Rattle.std.specs.Option.{option_or}
use Rattle.std.proofs.lemmas.Bool.{and_parts, cases_Bool, eqb-false, not-true}
use Rattle.std.proofs.lemmas.List.{length-set, get_or-set_same, get_or-set_other, set_comm}
use Rattle.std.proofs.lemmas.Option.{unwrap_or-slice_get}
use Rattle.contract_words.specs.Faults.{◌>>=◌}
use Rattle.config_record.specs.declared.coord.Coord.{Coord}
use Rattle.config_record.specs.declared.coord.Coord.TheVariants as coords
use Rattle.config_record.specs.declared.fields.Fields.{Fields}
use Rattle.config_record.specs.locales.declared.locale.Locale as locale
use Rattle.config_record.specs.locales.declared.locale_rule.LocaleRule.{LocaleRule}
use Rattle.config_record.specs.Coord.{all_coords, place_of}
use Rattle.config_record.proofs.DeviceLemmas.{place_of-within}
use Rattle.notation.specs.declared.forms.NumberAt.{NumberAt}
use Rattle.notation.specs.declared.qualifier.Qualifier.{Qualifier}
use Rattle.notation.specs.declared.qualifier.Qualifier.TheVariants.{Number, Locale, Size, Version}
use Rattle.notation.specs.declared.said.Said.{Said}
use Rattle.notation.specs.Config.{nothing_said, device_said, device_of_config_by}
use Rattle.notation.specs.Fault.{FaultOf}
use Rattle.notation.specs.Forms.{FormOf, forms, number_by, or_by_others, numbered_by}
use Rattle.notation.specs.LineLocale.{locale_in}
use Rattle.notation.specs.Parts.{parts_of}
use Rattle.notation.specs.Qualifier.{word_in, number_in, numbers_in, locales_in, qualifier_in, kind_of}
use Rattle.notation.specs.Reorders.{Reorders, nothing, one_more, exchanged, in_steps}
use Rattle.notation.specs.Said.{with_number, with_qualifier, is_given, with_given, with_read, with_part, with_parts}
use Rattle.notation.specs.Words.{WordOf, words, find_word}
use Rattle.notation.proofs.NumberSteps.{numbers_have}

-- ---- a word or a number with letters is of one coordinate, and not of the second of a size or a version

abbrev is_single : Coord → Bool
is_single c = not (place_of c == place_of coords.Height) && not (place_of c == place_of coords.Minor)

abbrev IsSingle : Qualifier → Type 0
IsSingle (Number c n) = is_single c ≡ true
IsSingle _ = Unit {0}

single_word : (ws : List WordOf) (text : List ℕ) → list_all (λ word. is_single word.coord) ws ≡ true → IfSome (find_word ws text) (λ word. is_single word.coord ≡ true)
unfolding find_word
single_word [] text all = tt
single_word (word ∷ ws) text all =
    let parts = and_parts (is_single word.coord) (list_all (λ word. is_single word.coord) ws) all in
    elim (cases_Bool (bytes_eq word.text text)) [
      | inl here ↦ rw here parts.0
      | inr other ↦ rw other (single_word ws text parts.1)
    ]

single_form : (fs : List FormOf) (text : List ℕ) → list_all (λ form. is_single form.coord) fs ≡ true → IfSome (numbered_by fs text) (λ at. is_single at.coord ≡ true)
unfolding numbered_by
single_form [] text all = tt
single_form (form ∷ fs) text all =
    let parts = and_parts (is_single form.coord) (list_all (λ form. is_single form.coord) fs) all in
    by (number_by form text) parts.0 (single_form fs text parts.1)
  where
    by : (o : Option ℕ) → is_single form.coord ≡ true → IfSome (numbered_by fs text) (λ at. is_single at.coord ≡ true) → IfSome (or_by_others form o (numbered_by fs text)) (λ at. is_single at.coord ≡ true)
    by None here others = others
    by (Some n) here others = here

word_single : (part : List ℕ) → IfSome (word_in part) IsSingle
unfolding word_in words place_of
word_single part = of_word (find_word words part) (single_word words part refl)
  where
    of_word : (o : Option WordOf) → IfSome o (λ word. is_single word.coord ≡ true) → IfSome (option_map (λ word. Number word.coord word.number) o) IsSingle
    of_word None single = tt
    of_word (Some word) single = single

number_single : (part : List ℕ) → IfSome (number_in part) IsSingle
unfolding number_in forms place_of
number_single part = of_number (numbered_by forms part) (single_form forms part refl)
  where
    of_number : (o : Option NumberAt) → IfSome o (λ at. is_single at.coord ≡ true) → IfSome (option_map (λ at. Number at.coord at.number) o) IsSingle
    of_number None single = tt
    of_number (Some at) single = single

read_single : (rule : LocaleRule) (part : List ℕ) → IfSome (qualifier_in rule part) IsSingle
unfolding qualifier_in locales_in
read_single rule part = either (numbers_in part) (locale_in rule part) (numbers_have IsSingle (record { word = word_single; number = number_single; size = λ w h. tt; version = λ s m. tt }) part)
  where
    either : (first : Option Qualifier) (second : Option locale.Locale) → IfSome first IsSingle → IfSome (option_or first (option_map Locale second)) IsSingle
    either None None single = tt
    either None (Some locale) single = tt
    either (Some qualifier) second single = single

-- ---- parts of two kinds change the fields apart from each other

past : (c : Coord) (n : ℕ) (d : Coord) (m : ℕ) (f : Fields) → place_of c ≢ place_of d → with_number d m (with_number c n f) ≡ with_number c n (with_number d m f)
past c n d m f other = ap (λ (numbers : List ℕ). record f { numbers = numbers }) (set_comm f.numbers (place_of c) (place_of d) n m other)

past_two : (c : Coord) (n : ℕ) (d : Coord) (m : ℕ) (e : Coord) (k : ℕ) (f : Fields) → place_of c ≢ place_of d → place_of c ≢ place_of e
    → with_number e k (with_number d m (with_number c n f)) ≡ with_number c n (with_number e k (with_number d m f))
past_two c n d m e k f first second = ap (with_number e k) (past c n d m f first) ∙ past c n e k (with_number d m f) second

size_and_version : (w h s m : ℕ) (f : Fields) → with_qualifier (Version s m) (with_qualifier (Size w h) f) ≡ with_qualifier (Size w h) (with_qualifier (Version s m) f)
unfolding with_qualifier place_of
size_and_version w h s m f =
    past_two coords.Height h coords.Sdk s coords.Minor m (with_number coords.Width w f) (λ e. omega arith) (λ e. omega arith)
    ∙ ap (with_number coords.Height h) (past_two coords.Width w coords.Sdk s coords.Minor m f (λ e. omega arith) (λ e. omega arith))

apart : (c : Coord) → is_single c ≡ true → (place_of c ≢ place_of coords.Height) × (place_of c ≢ place_of coords.Minor)
apart c single =
    let parts = and_parts (not (place_of c == place_of coords.Height)) (not (place_of c == place_of coords.Minor)) single in (
      eqb-false (place_of c) (place_of coords.Height) (not-true (place_of c == place_of coords.Height) parts.0),
      eqb-false (place_of c) (place_of coords.Minor) (not-true (place_of c == place_of coords.Minor) parts.1),
    )

apart_fields : (q r : Qualifier) (f : Fields) → IsSingle q → IsSingle r → place_of (kind_of q) ≢ place_of (kind_of r)
    → with_qualifier r (with_qualifier q f) ≡ with_qualifier q (with_qualifier r f)
unfolding with_qualifier
apart_fields (Number c n) (Number d m) f one two other = past c n d m f other
apart_fields (Number c n) (Locale l) f one two other = refl
apart_fields (Number c n) (Size w h) f one two other = past_two c n coords.Width w coords.Height h f other (apart c one).0
apart_fields (Number c n) (Version s m) f one two other = past_two c n coords.Sdk s coords.Minor m f other (apart c one).1
apart_fields (Locale l) (Number d m) f one two other = refl
apart_fields (Locale l) (Locale k) f one two other = absurd (other refl)
apart_fields (Locale l) (Size w h) f one two other = refl
apart_fields (Locale l) (Version s m) f one two other = refl
apart_fields (Size w h) (Number d m) f one two other = sym (past_two d m coords.Width w coords.Height h f (λ e. other (sym e)) (apart d two).0)
apart_fields (Size w h) (Locale l) f one two other = refl
apart_fields (Size w h) (Size v g) f one two other = absurd (other refl)
apart_fields (Size w h) (Version s m) f one two other = size_and_version w h s m f
apart_fields (Version s m) (Number d k) f one two other = sym (past_two d k coords.Sdk s coords.Minor m f (λ e. other (sym e)) (apart d two).1)
apart_fields (Version s m) (Locale l) f one two other = refl
apart_fields (Version s m) (Size w h) f one two other = sym (size_and_version w h s m f)
apart_fields (Version s m) (Version t k) f one two other = absurd (other refl)

-- ---- which kinds are there

given_at : (said : Said) (c : Coord) → is_given said c ≡ get_or said.given (place_of c) false
unfolding is_given
given_at said c = unwrap_or-slice_get said.given (place_of c) false

within : (said : Said) (c : Coord) → length said.given ≡ 25 → place_of c < length said.given
unfolding all_coords
within said c count = omega (arith, place_of-within c)

is_then_given : (q : Qualifier) (said : Said) → length said.given ≡ 25 → is_given (with_given q said) (kind_of q) ≡ true
unfolding with_given
is_then_given q said count = given_at (with_given q said) (kind_of q) ∙ get_or-set_same said.given (place_of (kind_of q)) true false (within said (kind_of q) count)

given_as_before : (q : Qualifier) (said : Said) (c : Coord) → place_of c ≢ place_of (kind_of q) → is_given (with_given q said) c ≡ is_given said c
unfolding with_given
given_as_before q said c other = given_at (with_given q said) c ∙ get_or-set_other said.given (place_of (kind_of q)) (place_of c) true false other ∙ sym (given_at said c)

count_then : (q : Qualifier) (said : Said) → length said.given ≡ 25 → length (with_given q said).given ≡ 25
unfolding with_given
count_then q said count = length-set said.given (place_of (kind_of q)) true ∙ count

both_given : (q r : Qualifier) (said : Said) → IsSingle q → IsSingle r → place_of (kind_of q) ≢ place_of (kind_of r) → with_given r (with_given q said) ≡ with_given q (with_given r said)
unfolding with_given
both_given q r said one two other =
    let of_fields : (f : Fields) (g : List Bool) → Said = λ f g. record { fields = f; given = g } in
    ap (λ (f : Fields). of_fields f (set (set said.given (place_of (kind_of q)) true) (place_of (kind_of r)) true)) (apart_fields q r said.fields one two other)
    ∙ ap (of_fields (with_qualifier q (with_qualifier r said.fields))) (set_comm said.given (place_of (kind_of q)) (place_of (kind_of r)) true true other)

-- ---- a part that is read

record IsRead (rule : LocaleRule) (part : List ℕ) (said next : Said) : Type 0 where
  qualifier : Qualifier
  read : qualifier_in rule part ≡ Some qualifier
  single : IsSingle qualifier
  free : is_given said (kind_of qualifier) ≡ false
  added : with_given qualifier said ≡ next

is_read : (rule : LocaleRule) (part : List ℕ) (said next : Said) → with_part rule part said ≡ Ok next → IsRead rule part said next
unfolding with_part
is_read rule part said next e = by (qualifier_in rule part) refl (read_single rule part) e
  where
    by : (o : Option Qualifier) → qualifier_in rule part ≡ o → IfSome o IsSingle → with_read part o said ≡ Ok next → IsRead rule part said next
    by None is single f = absurd cc
    by (Some qualifier) is single f = elim (cases_Bool (is_given said (kind_of qualifier))) [
      | inl there ↦ let refused = rw there at f in absurd cc
      | inr free ↦
          let whole : ◌≡◌ {A = Result Said FaultOf} (Ok (with_given qualifier said)) (Ok next) = rw free at f in
          record { qualifier = qualifier; read = is; single = single; free = free; added = cc }
    ]

reads_as : (rule : LocaleRule) (part : List ℕ) (said : Said) (qualifier : Qualifier) → qualifier_in rule part ≡ Some qualifier → is_given said (kind_of qualifier) ≡ false
    → with_part rule part said ≡ Ok (with_given qualifier said)
unfolding with_part
reads_as rule part said qualifier read free = rw (read, free) refl

-- two parts one after the other
record AreRead (rule : LocaleRule) (x y : List ℕ) (said last : Said) : Type 0 where
  mid : Said
  first : with_part rule x said ≡ Ok mid
  second : with_part rule y mid ≡ Ok last

exchange : (rule : LocaleRule) (x y : List ℕ) (said last : Said) → length said.given ≡ 25 → AreRead rule x y said last → AreRead rule y x said last
exchange rule x y said last count both =
    let one = is_read rule x said both.mid both.first in
    let two = is_read rule y both.mid last both.second in
    let q = one.qualifier in
    let r = two.qualifier in
    let free : is_given (with_given q said) (kind_of r) ≡ false = ap (λ (s : Said). is_given s (kind_of r)) one.added ∙ two.free in
    let other : place_of (kind_of q) ≢ place_of (kind_of r) = λ e. kinds q r said count free e in
    record {
      mid = with_given r said;
      first = reads_as rule y said r two.read (sym (given_as_before q said (kind_of r) (λ e. other (sym e))) ∙ free);
      second =
          let wrapped : Said → Result Said FaultOf = λ s. Ok s in
          reads_as rule x (with_given r said) q one.read (given_as_before r said (kind_of q) other ∙ one.free)
          ∙ ap wrapped (sym (both_given q r said one.single two.single other) ∙ ap (with_given r) one.added ∙ two.added);
    }
  where
    kinds : (q r : Qualifier) (said : Said) → length said.given ≡ 25 → is_given (with_given q said) (kind_of r) ≡ false → place_of (kind_of q) ≡ place_of (kind_of r) → ⊥
    kinds q r said count free same =
        let there : is_given (with_given q said) (kind_of r) ≡ true =
        given_at (with_given q said) (kind_of r) ∙ ap (λ (place : ℕ). get_or (with_given q said).given place false) (sym same) ∙ sym (given_at (with_given q said) (kind_of q)) ∙ is_then_given q said count in
        absurd cc

-- ---- all parts

with_parts-two : (rule : LocaleRule) (x y : List ℕ) (parts : List (List ℕ)) (said last : Said) → AreRead rule x y said last → with_parts rule (x ∷ y ∷ parts) said ≡ with_parts rule parts last
unfolding with_parts
with_parts-two rule x y parts said last both = rw (both.first, both.second) refl

two_are_read : (rule : LocaleRule) (x y : List ℕ) (parts : List (List ℕ)) (said last : Said) → with_parts rule (x ∷ y ∷ parts) said ≡ Ok last → (mid : Said) × AreRead rule x y said mid
unfolding with_parts
two_are_read rule x y parts said last e = by (with_part rule x said) refl e
  where
    second : (next : Said) → with_part rule x said ≡ Ok next → (r : Result Said FaultOf) → with_part rule y next ≡ r → (r >>= with_parts rule parts) ≡ Ok last → (mid : Said) × AreRead rule x y said mid
    second next first (Ok mid) is f = (mid, record { mid = next; first = first; second = is })
    second next first (Err fault) is f = absurd cc

    by : (r : Result Said FaultOf) → with_part rule x said ≡ r → (r >>= with_parts rule (y ∷ parts)) ≡ Ok last → (mid : Said) × AreRead rule x y said mid
    by (Ok next) is f = second next is (with_part rule y next) refl f
    by (Err fault) is f = absurd cc

reordered : (rule : LocaleRule) {xs ys : List (List ℕ)} → Reorders xs ys → (said last : Said) → length said.given ≡ 25 → with_parts rule xs said ≡ Ok last → with_parts rule ys said ≡ Ok last
unfolding with_parts
reordered rule nothing said last count e = e
reordered rule (one_more x xs ys same) said last count e = by (with_part rule x said) refl e (λ next left f. reordered rule same next last left f)
  where
    by : (r : Result Said FaultOf) → with_part rule x said ≡ r → (r >>= with_parts rule xs) ≡ Ok last
        → ((next : Said) → length next.given ≡ 25 → with_parts rule xs next ≡ Ok last → with_parts rule ys next ≡ Ok last) → (with_part rule x said >>= with_parts rule ys) ≡ Ok last
    by (Ok next) is f others =
        let one = is_read rule x said next is in
        let left : length next.given ≡ 25 = ap (λ (s : Said). length s.given) (sym one.added) ∙ count_then one.qualifier said count in
        ap (λ (r : Result Said FaultOf). r >>= with_parts rule ys) is ∙ others next left f
    by (Err fault) is f others = absurd cc
reordered rule (exchanged x y xs) said last count e =
    let both = two_are_read rule x y xs said last e in
    with_parts-two rule y x xs said both.0 (exchange rule x y said both.0 count both.1) ∙ sym (with_parts-two rule x y xs said both.0 both.1) ∙ e
reordered rule (in_steps xs ys zs first second) said last count e = reordered rule second said last count (reordered rule first said last count e)

pub any_order : (rule : LocaleRule) (line other device : List ℕ) → Reorders (parts_of line) (parts_of other) → device_of_config_by rule line ≡ Ok device → device_of_config_by rule other ≡ Ok device
unfolding device_of_config_by nothing_said
any_order rule line other device same e = by (with_parts rule (parts_of line) (nothing_said rule)) refl e
  where
    by : (r : Result Said FaultOf) → with_parts rule (parts_of line) (nothing_said rule) ≡ r → (r >>= device_said rule) ≡ Ok device → (with_parts rule (parts_of other) (nothing_said rule) >>= device_said rule) ≡ Ok device
    by (Ok said) is f = ap (λ (r : Result Said FaultOf). r >>= device_said rule) (reordered rule same (nothing_said rule) said refl is) ∙ f
    by (Err fault) is f = absurd cc
