-- The sets that are read are what a box has.
use Rattle.std.proofs.Common.{◌≡◌, ◌≢◌, ℕ, ◌+◌, ◌<◌, ◌≤◌, ◌==◌, nat_lt, arith, List, [], ◌∷◌, ◌++◌, length, map, get_or, take, ◌^◌, zero-add, length-append, inl, inr, false, Result, Ok, Err, IfOk, refl, sym, ap, subst, ◌∙◌}
use Rattle.std.proofs.lemmas.Bool.{ltb-false, or_parts}
use Rattle.std.specs.List.{list_any, range_with_len}
use Rattle.std.specs.Borrow.{Bor}
use Rattle.std.proofs.lemmas.Bool.{cases_eq}
use Rattle.std.proofs.lemmas.Bool.Decides.{nat_tests}
use Rattle.std.proofs.lemmas.List.{get_or-map, map-append, take_more, length-map}
use Rattle.std.proofs.lemmas.List.FromFn.{get_or-range_with_len}
use Rattle.std.proofs.Math.ListN.{get_or-append}
use Rattle.std.proofs.Math.Seq.{get_or-append_seam}
use Rattle.box_answers.specs.config_record.declared.coord.Coord.{Coord}
use Rattle.box_answers.specs.config_record.declared.coord.Coord.TheVariants as coords
use Rattle.box_answers.specs.config_record.Coord.{all_coords, place_of, greatest_of, greatest_of_device, is_outside}
use Rattle.box_answers.specs.config_record.locales.LocaleNumber.{locale_of_number}
use Rattle.box_answers.specs.config_record.ComparedNumber.{device_number}
use Rattle.box_answers.specs.config_record.locales.Locale.{plain_text}
use Rattle.box_answers.specs.config_record.locales.declared.locale_rule.LocaleRule.{LocaleRule}
use Rattle.box_answers.specs.config_record.locales.declared.locale_rule.LocaleRule.TheVariants.{LanguageAndRegion, Android}
use Rattle.box_answers.specs.config_record.locales.TextNumber.{number_of}
use Rattle.box_answers.specs.config_record.locales.Facts.{likely_of}
use Rattle.box_answers.specs.config_record.locales.Text.{in_likely_script, scripted_locale_of, locale_by, locale_text}
use Rattle.config_box.specs.ByRule.{IsOfRule, IsSetBy, IsByRule}
use Rattle.box_answers.proofs.config_record.DeviceLemmas.{inside-within, inside-some, inside-can}
use Rattle.box_answers.specs.declared.number_set.NumberSet.{NumberSet}
use Rattle.box_answers.specs.NumberSet.{SetOf, set_of, RangeOf, NumbersOf, LocalesOf}
use Rattle.box_answers.specs.Members.{sets_of, set_at, IsOfKind, IsSetAt, IsBox}
use Rattle.box_answers.proofs.Coords.{next-coord, every-coord, all_coords-count}
use Rattle.config_box.specs.BoxJson.{number_of_none, number_of_text}
use Rattle.config_box.specs.declared.box_fault.BoxFault.{BoxFault}
use Rattle.config_box.specs.Choices.{rising}
use Rattle.config_box.proofs.ChoiceSteps.{rising-increases, rising-few, rising-some, rising-each, each-not, Each}

-- ---- numbers in their range

between-inside : (c : Coord) (from to n : ℕ) → is_outside c from ≡ false → is_outside c to ≡ false → from ≤ n → n ≤ to → is_outside c n ≡ false
unfolding is_outside
between-inside coords.Density from to n f t p q =
    let some = inside-some from f in
    let within = inside-within coords.Density to t in
    let not_zero : (n == 0) ≡ false = grind (arith, nat_tests) in
    let not_above : nat_lt (greatest_of_device coords.Density) n ≡ false = grind (arith, nat_tests) in
    cc
between-inside c from to n f t p q = let within = inside-within c to t in grind (arith, nat_tests)

kind-range : (c : Coord) (from to : ℕ) → c ≢ coords.Locale → IsOfKind c (RangeOf from to)
kind-range coords.Locale from to other = absurd (other refl)
kind-range c from to other = tt

kind-numbers : (c : Coord) (numbers : List ℕ) → c ≢ coords.Locale → IsOfKind c (NumbersOf numbers)
kind-numbers coords.Locale numbers other = absurd (other refl)
kind-numbers c numbers other = tt

pub elsewhere : (rule : LocaleRule) (c : Coord) (set : SetOf) → c ≢ coords.Locale → IsSetAt c set → IsSetBy rule c set
elsewhere rule c set other fits = record { fits = fits; by_rule = λ is. absurd (other is) }

pub read-elsewhere : (rule : LocaleRule) (c : Coord) (r : Result NumberSet BoxFault) → c ≢ coords.Locale → IfOk r (λ s. IsSetAt c (set_of s)) → IfOk r (λ s. IsSetBy rule c (set_of s))
read-elsewhere rule c (Ok s) other fits = elsewhere rule c (set_of s) other fits
read-elsewhere rule c (Err fault) other fits = tt

pub range-fits : (c : Coord) (from to : ℕ) → c ≢ coords.Locale → from ≤ to → is_outside c from ≡ false → is_outside c to ≡ false → IsSetAt c (RangeOf from to)
range-fits c from to other le first last = record {
  proper = record { nonempty = omega arith; rises = le };
  kind = kind-range c from to other;
  few = omega arith;
  can = λ n is. inside-can c n other (between-inside c from to n first last is.0 is.1);
}

pub numbers-fit : (c : Coord) (numbers : List ℕ) → c ≢ coords.Locale → 0 < length numbers → length numbers ≤ 512 → list_any (is_outside c) numbers ≡ false → IsSetAt c (NumbersOf (rising numbers))
numbers-fit c numbers other some few inside = record {
  proper = record { nonempty = rising-some numbers some; rises = rising-increases numbers };
  kind = kind-numbers c (rising numbers) other;
  few = let le = rising-few numbers in omega arith;
  can = λ n is. inside-can c n other (rising-each (λ m. is_outside c m ≡ false) numbers (each-not (is_outside c) numbers inside) n is);
}

pub locales-fit : (rule : LocaleRule) (numbers : List ℕ) → 0 < length numbers → length numbers ≤ 512 → Each (IsOfRule rule) numbers → IsSetBy rule coords.Locale (LocalesOf (rising numbers))
locales-fit rule numbers some few all =
    let each = rising-each (IsOfRule rule) numbers all in
    record {
      fits = record {
        proper = record { nonempty = rising-some numbers some; rises = rising-increases numbers };
        kind = tt;
        few = let le = rising-few numbers in omega arith;
        can = λ n is. (each n is).given;
      };
      by_rule = λ at n is. (each n is).by_rule;
    }

-- 0 stands for nothing
pub nothing-inside : (c : Coord) → c ≢ coords.Density → list_any (is_outside c) (0 ∷ []) ≡ false
unfolding is_outside greatest_of_device greatest_of
nothing-inside coords.Density other = absurd (other refl)
nothing-inside c other = refl

-- ---- a set more

pub place-at : (i : ℕ) (here d : Coord) (items : List Coord) → items ≡ all_coords → here ≡ get_or items i d → i < length items → place_of here ≡ i
unfolding all_coords place_of
place-at i here d items all is on =
    let count : i < 25 = omega (arith, ap (λ (cs : List Coord). length cs) all) in
    let places : map place_of all_coords ≡ range_with_len 0 25 = refl in
    ap place_of (is ∙ ap (λ (cs : List Coord). get_or cs i d) all)
    ∙ sym (get_or-map place_of all_coords i d 0 count)
    ∙ ap (λ (ns : List ℕ). get_or ns i 0) places
    ∙ get_or-range_with_len 0 25 i 0 count
    ∙ zero-add i

pub sets-next : (rule : LocaleRule) (sets : List SetOf) (s : SetOf) (i : ℕ) (here d : Coord) (items : List Coord) → items ≡ all_coords → here ≡ get_or items i d → i < length items → length sets ≡ i
    → IsSetBy rule here s → ((c : Coord) → place_of c < i → IsSetBy rule c (set_at sets c)) → (c : Coord) → place_of c < i + 1 → IsSetBy rule c (set_at (sets ++ s ∷ []) c)
sets-next rule sets s i here d items all is on count new before =
    next-coord (λ c. IsSetBy rule c (set_at (sets ++ s ∷ []) c)) i here items d all is on
    (λ c q. subst (λ (t : SetOf). IsSetBy rule c t) (sym (get_or-append sets (s ∷ []) (RangeOf 0 0) (place_of c) (omega arith))) (before c q))
    (subst (λ (t : SetOf). IsSetBy rule here t) (sym there) new)
  where
    there : set_at (sets ++ s ∷ []) here ≡ s
    there = ap (λ (k : ℕ). get_or (sets ++ s ∷ []) k (RangeOf 0 0)) (place-at i here d items all is on ∙ sym count) ∙ get_or-append_seam sets s [] (RangeOf 0 0)

-- ---- small numbers

pub inside-small : (c : Coord) (n : ℕ) → is_outside c n ≡ false → n < 2 ^ 32
unfolding is_outside greatest_of_device greatest_of
inside-small coords.Density n e = let h = or_parts (n == 0) (nat_lt 32767 n) e in let le = ltb-false 32767 n h.1 in omega arith
inside-small coords.Mcc n e = let le = ltb-false 65535 n e in omega arith
inside-small coords.Mnc n e = let le = ltb-false 65535 n e in omega arith
inside-small coords.Locale n e = let le = ltb-false 0 n e in omega arith
inside-small coords.LayoutDirection n e = let le = ltb-false 3 n e in omega arith
inside-small coords.SmallestWidthDp n e = let le = ltb-false 65535 n e in omega arith
inside-small coords.WidthDp n e = let le = ltb-false 65535 n e in omega arith
inside-small coords.HeightDp n e = let le = ltb-false 65535 n e in omega arith
inside-small coords.ScreenSize n e = let le = ltb-false 15 n e in omega arith
inside-small coords.Long n e = let le = ltb-false 3 n e in omega arith
inside-small coords.Round n e = let le = ltb-false 3 n e in omega arith
inside-small coords.WideColor n e = let le = ltb-false 3 n e in omega arith
inside-small coords.Hdr n e = let le = ltb-false 3 n e in omega arith
inside-small coords.Orientation n e = let le = ltb-false 255 n e in omega arith
inside-small coords.UiType n e = let le = ltb-false 15 n e in omega arith
inside-small coords.Night n e = let le = ltb-false 3 n e in omega arith
inside-small coords.Touchscreen n e = let le = ltb-false 255 n e in omega arith
inside-small coords.KeysHidden n e = let le = ltb-false 3 n e in omega arith
inside-small coords.NavHidden n e = let le = ltb-false 3 n e in omega arith
inside-small coords.Keyboard n e = let le = ltb-false 255 n e in omega arith
inside-small coords.Navigation n e = let le = ltb-false 255 n e in omega arith
inside-small coords.Width n e = let le = ltb-false 65535 n e in omega arith
inside-small coords.Height n e = let le = ltb-false 65535 n e in omega arith
inside-small coords.Sdk n e = let le = ltb-false 65535 n e in omega arith
inside-small coords.Minor n e = let le = ltb-false 65535 n e in omega arith

-- no locale at all is given by a text, by either rule
pub none_of_rule : (rule : LocaleRule) → IsOfRule rule (number_of_none rule)
unfolding locale_of_number locale_by locale_text plain_text scripted_locale_of in_likely_script likely_of number_of
none_of_rule LanguageAndRegion = record { by_rule = refl; given = refl }
none_of_rule Android = record { by_rule = refl; given = refl }

-- ---- numbers of texts

pub texts-next : (rule : LocaleRule) (numbers new : List ℕ) (texts : List (Bor (List ℕ))) (i n : ℕ) (d : Bor (List ℕ)) → numbers ≡ map (number_of_text rule) (map (λ text. text.now) (take i texts)) → i < length texts
    → new ≡ numbers ++ n ∷ [] → n ≡ number_of_text rule (get_or texts i d).now → new ≡ map (number_of_text rule) (map (λ text. text.now) (take (i + 1) texts))
texts-next rule numbers new texts i n d before on pushed is =
    let now : Bor (List ℕ) → List ℕ = λ text. text.now in
    pushed
    ∙ ap (λ (xs : List ℕ). xs ++ n ∷ []) before
    ∙ ap (λ (m : ℕ). map (number_of_text rule) (map now (take i texts)) ++ m ∷ []) is
    ∙ sym (map-append (number_of_text rule) (map now (take i texts)) (now (get_or texts i d) ∷ []))
    ∙ ap (map (number_of_text rule)) (sym (map-append now (take i texts) (get_or texts i d ∷ [])))
    ∙ ap (λ (xs : List (Bor (List ℕ))). map (number_of_text rule) (map now xs)) (sym (take_more texts i d on))

pub each-next : (P : ℕ → Type 0) (numbers new : List ℕ) (n : ℕ) → ((k : ℕ) → k < length numbers → P (get_or numbers k 0)) → new ≡ numbers ++ n ∷ [] → P n
    → (k : ℕ) → k < length new → P (get_or new k 0)
each-next P numbers new n before pushed last k q =
    subst (λ (xs : List ℕ). P (get_or xs k 0)) (sym pushed)
    (elim (cases_eq k (length numbers)) [
      | inl e ↦ subst P (sym (ap (λ i. get_or (numbers ++ n ∷ []) i 0) e ∙ get_or-append_seam numbers n [] 0)) last
      | inr ne ↦ (let lt : k < length numbers = omega (arith, ap (λ (xs : List ℕ). length xs) pushed, length-append numbers (n ∷ [])) in
          subst P (sym (get_or-append numbers (n ∷ []) 0 k lt)) (before k lt))
    ])

-- what is known of the sets so far
pub record SetsSoFar (rule : LocaleRule) (sets : List NumberSet) (place : ℕ) : Type 0 where
  pub count : length (sets_of sets) ≡ place
  pub fits : (c : Coord) → place_of c < place → IsSetBy rule c (set_at (sets_of sets) c)

pub SetsSoFar-next : {X : Type 0} (rule : LocaleRule) (sets : List NumberSet) (s : NumberSet) (pairs : List (Coord × X)) (i : ℕ) (pair : Coord × X) → SetsSoFar rule sets i → map (λ p. p.0) pairs ≡ all_coords → i < length pairs
    → pair ≡ get_or pairs i pair → IsSetBy rule pair.0 (set_of s) → SetsSoFar rule (sets ++ s ∷ []) (i + 1)
SetsSoFar-next {X} rule sets s pairs i pair before all on is new =
    let first : (Coord × X) → Coord = λ p. p.0 in
    let split : sets_of (sets ++ s ∷ []) ≡ sets_of sets ++ set_of s ∷ [] = map-append set_of sets (s ∷ []) in
    let here : pair.0 ≡ get_or (map first pairs) i pair.0 = ap first is ∙ sym (get_or-map first pairs i pair pair.0 on) in
    let counted : length (map first pairs) ≡ length pairs = simp length-map refl in
    record {
      count = ap (λ (t : List SetOf). length t) split ∙ length-append (sets_of sets) (set_of s ∷ []) ∙ ap (λ (n : ℕ). n + 1) before.count;
      fits = λ c q. subst (λ (t : List SetOf). IsSetBy rule c (set_at t c)) (sym split)
          (sets-next rule (sets_of sets) (set_of s) i pair.0 pair.0 (map first pairs) all here (omega arith) before.count new before.fits c q);
    }

-- all coordinates have their sets
all-fit : {X : Type 0} (rule : LocaleRule) (sets : List NumberSet) (pairs : List (Coord × X)) (i : ℕ) → SetsSoFar rule sets i → map (λ p. p.0) pairs ≡ all_coords → length pairs ≤ i → (c : Coord) → IsSetBy rule c (set_at (sets_of sets) c)
all-fit {X} rule sets pairs i so_far all past =
    let first : (Coord × X) → Coord = λ p. p.0 in
    let counted : length (map first pairs) ≡ length pairs = simp length-map refl in
    every-coord (λ c. IsSetBy rule c (set_at (sets_of sets) c)) i (map first pairs) all (omega arith) so_far.fits

pub SetsSoFar-end : {X : Type 0} (rule : LocaleRule) (sets : List NumberSet) (pairs : List (Coord × X)) (i : ℕ) → SetsSoFar rule sets i → map (λ p. p.0) pairs ≡ all_coords → length pairs ≤ i → i ≤ length pairs → IsBox (sets_of sets)
SetsSoFar-end {X} rule sets pairs i so_far all past within =
    let first : (Coord × X) → Coord = λ p. p.0 in
    let counted : length (map first pairs) ≡ length pairs = simp length-map refl in
    let whole : length (map first pairs) ≡ 25 = ap (λ (cs : List Coord). length cs) all ∙ all_coords-count in
    record {
      count = so_far.count ∙ omega arith;
      each = λ c. (all-fit rule sets pairs i so_far all past c).fits;
    }

pub SetsSoFar-by_rule : {X : Type 0} (rule : LocaleRule) (sets : List NumberSet) (pairs : List (Coord × X)) (i : ℕ) → SetsSoFar rule sets i → map (λ p. p.0) pairs ≡ all_coords → length pairs ≤ i → IsByRule rule (sets_of sets)
SetsSoFar-by_rule rule sets pairs i so_far all past d member = (all-fit rule sets pairs i so_far all past coords.Locale).by_rule refl (device_number d coords.Locale) (member coords.Locale)
