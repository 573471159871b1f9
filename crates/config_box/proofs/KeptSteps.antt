-- What is kept of a box while its text is read says the same as what is written.
use Rattle.std.proofs.Common.{◌≡◌, ◌≢◌, ℕ, ◌<◌, ◌==◌, nat_lt, List, [], ◌∷◌, map, length, Bool, true, false, IsUtf8, Option, Some, ok_or, Result, Ok, Err, refl, sym, ap, ap₂, subst, ◌∙◌, arith}
use Rattle.std.proofs.lemmas.Bool.{ltb-true, ltb-false}
use Rattle.std.proofs.lemmas.Bool.Decides.{nat_tests}
use Rattle.contract_words.specs.Faults.{◌>>=◌}
use Rattle.contract_words.specs.Sequences.{with_front}
use Rattle.json.specs.Token.{Token}
use Rattle.json.specs.Json.{parse_map}
use Rattle.json.specs.Lex.{tokens}
use Rattle.serde_json.specs.Data.{Data}
use Rattle.json_input.specs.Each.{each}
use Rattle.json_input.specs.Json.{value_of}
use Rattle.json_tokens.specs.Standing.{value_at}
use Rattle.json_tokens.proofs.Standing.{read_some}
use Rattle.json_tokens.proofs.Whole.{text-means, text-followed}
use Rattle.box_answers.specs.config_record.declared.coord.Coord.{Coord}
use Rattle.box_answers.specs.config_record.declared.coord.Coord.TheVariants as coords
use Rattle.box_answers.specs.config_record.locales.declared.locale_rule.LocaleRule.{LocaleRule}
use Rattle.box_answers.specs.NumberSet.{SetOf}
use Rattle.config_box.specs.declared.box_fault.BoxFault.{BoxFault}
use Rattle.config_box.specs.declared.box_fault.BoxFault.TheVariants.{Syntax, TooMany}
use Rattle.config_box.specs.Written.{WrittenOf, NothingOf, RangeOf, NumbersOf, TextsOf, written_in}
use Rattle.config_box.specs.Kept.{kept_items, kept, kept_in}
use Rattle.config_box.specs.BoxJson.{set_of_numbers, set_of_texts, set_in, box_in_value}
use Rattle.config_box.proofs.TokenSteps.{kept_items-few, kept_items-many}

-- ---- a list

many-numbers : (c : Coord) (numbers : List ℕ) → 512 < length numbers → set_of_numbers c numbers ≡ Err (TooMany c)
unfolding set_of_numbers
many-numbers c numbers many =
    let some : (length numbers == 0) ≡ false = grind (arith, nat_tests) in
    let more : nat_lt 512 (length numbers) ≡ true = grind (arith, nat_tests) in
    rw (some, more) refl

many-texts : (rule : LocaleRule) (texts : List (List ℕ)) → 512 < length texts → set_of_texts rule texts ≡ Err (TooMany coords.Locale)
unfolding set_of_texts
many-texts rule texts many =
    let some : (length texts == 0) ≡ false = grind (arith, nat_tests) in
    let more : nat_lt 512 (length texts) ≡ true = grind (arith, nat_tests) in
    rw (some, more) refl

-- what looks at no more than that there are too many
same-kept : {X : Type 0} (f : List X → Result SetOf BoxFault) (fault : BoxFault) → ((xs : List X) → 512 < length xs → f xs ≡ Err fault) → (xs : List X) → f (kept_items xs) ≡ f xs
same-kept {X} f fault stops xs = at (nat_lt 512 (length xs)) refl
  where
    at : (b : Bool) → nat_lt 512 (length xs) ≡ b → f (kept_items xs) ≡ f xs
    at true is =
        let many : 512 < length xs = ltb-true 512 (length xs) is in
        stops (kept_items xs) (kept_items-many xs (omega arith)) ∙ sym (stops xs many)
    at false is = let few = ltb-false 512 (length xs) is in ap f (kept_items-few xs (omega arith))

set-kept : (rule : LocaleRule) (pair : Coord × WrittenOf) → set_in rule (pair.0, kept pair.1) ≡ set_in rule pair
unfolding set_in
set-kept rule (c, NothingOf) = refl
set-kept rule (c, RangeOf from to) = refl
set-kept rule (coords.Locale, NumbersOf numbers) = refl
set-kept rule (c, NumbersOf numbers) = same-kept (set_of_numbers c) (TooMany c) (many-numbers c) numbers
set-kept rule (coords.Locale, TextsOf texts) = same-kept (set_of_texts rule) (TooMany coords.Locale) (many-texts rule) texts
set-kept rule (c, TextsOf texts) = refl

-- ---- the box

sets-kept : (rule : LocaleRule) (pairs : List (Coord × WrittenOf)) → each (set_in rule) (map (λ pair. (pair.0, kept pair.1)) pairs) ≡ each (set_in rule) pairs
unfolding each
sets-kept rule [] = refl
sets-kept rule (pair ∷ pairs) =
    ap₂ (λ (r : Result SetOf BoxFault) (rest : Result (List SetOf) BoxFault). r >>= λ set. with_front (set ∷ []) rest) (set-kept rule pair) (sets-kept rule pairs)

box-kept : (rule : LocaleRule) (value : Data) → (kept_in value >>= each (set_in rule)) ≡ box_in_value rule value
unfolding box_in_value
box-kept rule value = at (written_in value)
  where
    at : (r : Result (List (Coord × WrittenOf)) BoxFault) → ((r >>= λ pairs. Ok (map (λ pair. (pair.0, kept pair.1)) pairs)) >>= each (set_in rule)) ≡ (r >>= each (set_in rule))
    at (Ok pairs) = sets-kept rule pairs
    at (Err fault) = refl

box-read : (rule : LocaleRule) (o : Option (Data × List Token)) (y : Result (List (Coord × WrittenOf)) BoxFault) (r : List Token) → parse_map kept_in o ≡ Some (y, r)
    → parse_map (box_in_value rule) o ≡ Some (y >>= each (set_in rule), r)
box-read rule o y r e =
    let d = read_some kept_in o y r e in
    ap (parse_map (box_in_value rule)) d.1 ∙ ap (λ z. Some (z, r)) (sym (box-kept rule d.0) ∙ ap (λ z. z >>= each (set_in rule)) d.2)

-- ---- the text

module _ (rule : LocaleRule) (bytes : List ℕ) (ts r : List Token) (y : Result (List (Coord × WrittenOf)) BoxFault) (text : IsUtf8 bytes) (is : ts ≡ tokens bytes)
    (e : parse_map kept_in (value_at 127 ts) ≡ Some (y, r)) where
  read : parse_map (box_in_value rule) (value_at 127 (tokens bytes)) ≡ Some (y >>= each (set_in rule), r)
  read = box-read rule (value_at 127 (tokens bytes)) y r (subst (λ ts. parse_map kept_in (value_at 127 ts) ≡ Some (y, r)) is e)

  -- nothing follows the value
  pub box-whole : r ≡ [] → (ok_or (value_of bytes) Syntax >>= box_in_value rule) ≡ (y >>= each (set_in rule))
  box-whole none = text-means (box_in_value rule) Syntax bytes (y >>= each (set_in rule)) text (subst (λ r. parse_map (box_in_value rule) (value_at 127 (tokens bytes)) ≡ Some (y >>= each (set_in rule), r)) none read)

  pub box-followed : r ≢ [] → (ok_or (value_of bytes) Syntax >>= box_in_value rule) ≡ Err Syntax
  box-followed more = text-followed (box_in_value rule) Syntax bytes (y >>= each (set_in rule)) r read more
