-- How the ids of styles are read.
use Rattle.std.proofs.Common.{◌≡◌, ℕ, suc, ◌<◌, ◌≤◌, Bool, true, false, List, [], ◌∷◌, ◌++◌, length, length-append, Option, Some, None, ok_or, Result, Ok, Err, refl, sym, ap, ◌∙◌, arith}
use Rattle.std.specs.Prelude.{nat_lt, option_and_then}
use Rattle.std.proofs.lemmas.Bool.{le-ltb}
use Rattle.std.proofs.lemmas.Bool.Decides.{nat_tests}
use Rattle.contract_words.specs.Faults.{◌>>=◌, refuse}
use Rattle.contract_words.specs.Sequences.{with_front}
use Rattle.json.specs.Token.{Token}
use Rattle.json.specs.Json.{parse_map, after_end_array}
use Rattle.json.proofs.Grammar.{left}
use Rattle.serde_json.specs.Data.{Data}
use Rattle.json_input.specs.Each.{each, list_of}
use Rattle.json_input.specs.Shape.{text_of}
use Rattle.json_tokens.specs.Standing.{value_at, items_at}
use Rattle.json_tokens.proofs.Standing.{read_some, list-read, list-malformed}
use Rattle.json_tokens.proofs.Walked.{Walked-next, Walked-end, Walked-passed}
use Rattle.json_tokens.proofs.EachWalked.{EachWalked, EachWalked-stops, EachWalked-malformed, EachWalked-not_passed}
use Rattle.res_value.specs.declared.res_id.ResId.{ResId}
use Rattle.res_value.specs.Goal.{most_styles}
use Rattle.res_value.specs.ResId.{id_of}
use Rattle.cert_tree.specs.declared.cert_fault.CertFault.{CertFault}
use Rattle.cert_tree.specs.CertJson.{id_item, styles_in}

abbrev ok_items : {X E : Type 0} → Result (List X) E → List X
ok_items (Ok xs) = xs
ok_items (Err fault) = []

each-length : {A X E : Type 0} (f : A → Result X E) (items : List A) (xs : List X) → each f items ≡ Ok xs → length xs ≡ length items
unfolding each
each-length f [] [] e = refl
each-length f [] (x ∷ xs) e = absurd (cc)
each-length {A} {X} {E} f (a ∷ items) xs e = first (f a) (each f items) e (λ rest read. each-length f items rest read)
  where
    first : (r : Result X E) (others : Result (List X) E) → (r >>= λ x. with_front (x ∷ []) others) ≡ Ok xs → ((rest : List X) → others ≡ Ok rest → length rest ≡ length items) → length xs ≡ length (a ∷ items)
    first (Ok x) (Ok rest) e later = let same : x ∷ rest ≡ xs = ap ok_items e in ap length (sym same) ∙ ap suc (later rest refl)
    first (Ok x) (Err fault) e later = absurd (cc)
    first (Err fault) others e later = absurd (cc)

abbrev ids_of : CertFault → Bool → List Data → Result (List ResId) CertFault
ids_of shape many items = refuse many shape >>= λ _. each (id_item shape) items

abbrev few-ids : CertFault → Option (List Data) → Result (List ResId) CertFault
few-ids shape items = ok_or items shape >>= λ items. ids_of shape (nat_lt most_styles (length items)) items

abbrev Entered : ℕ → ℕ → List Token → List Token → Type 0
Entered depth inner ts start = parse_map list_of (value_at depth ts) ≡ parse_map {A = List Data} Some (items_at inner start)

styles-read : (shape : CertFault) (depth inner : ℕ) (ts start r : List Token) (items : List Data) (y : Result (List ResId) CertFault)
    → Entered depth inner ts start → items_at inner start ≡ Some (items, r) → ids_of shape (nat_lt most_styles (length items)) items ≡ y → parse_map (styles_in shape) (value_at depth ts) ≡ Some (y, r)
unfolding styles_in
styles-read shape depth inner ts start r items y entered e meant = list-read (few-ids shape) depth inner ts start r items entered e ∙ ap (λ y. Some (y, r)) meant

pub styles-end : (shape : CertFault) (depth inner : ℕ) (ts start now r : List Token) (ids : List ResId)
    → Entered depth inner ts start → EachWalked (id_item shape) inner start ids now → length ids ≤ most_styles → after_end_array now ≡ Some r → parse_map (styles_in shape) (value_at depth ts) ≡ Some (Ok ids, r)
styles-end shape depth inner ts start now r ids entered so few e =
    let count : length ids ≡ length so.before = each-length (id_item shape) so.before ids so.read in
    let test : nat_lt most_styles (length so.before) ≡ false = le-ltb most_styles (length so.before) (omega arith) in
    styles-read shape depth inner ts start r so.before (Ok ids) entered (Walked-end inner start now r so.before so.walked e) (rw test so.read)

id-unfolded : (shape : CertFault) (d : Data) (fault : CertFault) → id_item shape d ≡ Err fault → ok_or (option_and_then id_of (text_of d)) shape ≡ Err fault
unfolding id_item
id-unfolded shape d fault e = e

-- what is no id, and all behind it
pub styles-no_id : (shape : CertFault) (depth inner : ℕ) (ts start now s r : List Token) (ids : List ResId) (fault : CertFault)
    → Entered depth inner ts start → EachWalked (id_item shape) inner start ids now → after_end_array now ≡ None → parse_map (id_item shape) (value_at inner now) ≡ Some (Err fault, s) → left (items_at inner s) ≡ Some r
    → parse_map (styles_in shape) (value_at depth ts) ≡ Some (Err shape, r)
styles-no_id shape depth inner ts start now s r ids fault entered so going e passed =
    let d = read_some (id_item shape) (value_at inner now) (Err fault) s e in
    let items = read_some (each (id_item shape)) (items_at inner start) (Err fault) r (EachWalked-stops (id_item shape) inner start now s r ids fault so going e passed) in
    styles-read shape depth inner ts start r items.0 (Err shape) entered items.1 (either (nat_lt most_styles (length items.0)) items.0 (items.2 ∙ ap (λ fault. Err fault) (its_own (option_and_then id_of (text_of d.0)) (id-unfolded shape d.0 fault d.2))))
  where
    its_own : (o : Option ResId) → ok_or o shape ≡ Err fault → fault ≡ shape
    its_own (Some id) e = absurd (cc)
    its_own None e = grind (arith, e)

    either : (many : Bool) (items : List Data) → each (id_item shape) items ≡ Err shape → ids_of shape many items ≡ Err shape
    either true items e = refl
    either false items e = e

-- one more than there can be, and all behind it
pub styles-many : (shape : CertFault) (depth inner : ℕ) (ts start now s r : List Token) (ids : List ResId) (id : Result ResId CertFault)
    → Entered depth inner ts start → EachWalked (id_item shape) inner start ids now → length ids ≡ most_styles → after_end_array now ≡ None → parse_map (id_item shape) (value_at inner now) ≡ Some (id, s) → left (items_at inner s) ≡ Some r
    → parse_map (styles_in shape) (value_at depth ts) ≡ Some (Err shape, r)
styles-many shape depth inner ts start now s r ids id entered so full going e passed =
    let d = read_some (id_item shape) (value_at inner now) id s e in
    let others = Walked-passed inner start s r (so.before ++ d.0 ∷ []) (Walked-next inner start now s so.before d.0 so.walked going d.1) passed in
    let all = (so.before ++ d.0 ∷ []) ++ others.0 in
    let count : length ids ≡ length so.before = each-length (id_item shape) so.before ids so.read in
    let more : most_styles < length all = omega (arith, length-append so.before (d.0 ∷ []), length-append (so.before ++ d.0 ∷ []) others.0, full, count) in
    let test : nat_lt most_styles (length all) ≡ true = grind (arith, nat_tests) in
    styles-read shape depth inner ts start r all (Err shape) entered others.1 (rw test refl)

pub styles-malformed : (shape : CertFault) (depth inner : ℕ) (ts start now : List Token) (ids : List ResId)
    → Entered depth inner ts start → EachWalked (id_item shape) inner start ids now → after_end_array now ≡ None → value_at inner now ≡ None → value_at depth ts ≡ None
styles-malformed shape depth inner ts start now ids entered so going e = list-malformed depth inner ts start entered (EachWalked-malformed (id_item shape) inner start now ids so going e)

pub styles-not_passed : (shape : CertFault) (depth inner : ℕ) (ts start now s : List Token) (ids : List ResId) (id : Result ResId CertFault)
    → Entered depth inner ts start → EachWalked (id_item shape) inner start ids now → after_end_array now ≡ None → parse_map (id_item shape) (value_at inner now) ≡ Some (id, s) → items_at inner s ≡ None → value_at depth ts ≡ None
styles-not_passed shape depth inner ts start now s ids id entered so going e none = list-malformed depth inner ts start entered (EachWalked-not_passed (id_item shape) inner start now s ids id so going e none)

-- what is no list
pub styles-no_list : (shape : CertFault) (depth : ℕ) (ts r : List Token) → parse_map list_of (value_at depth ts) ≡ Some (None, r) → parse_map (styles_in shape) (value_at depth ts) ≡ Some (Err shape, r)
unfolding styles_in
styles-no_list shape depth ts r e =
    let d = read_some list_of (value_at depth ts) None r e in
    ap (parse_map (λ (value : Data). few-ids shape (list_of value))) d.1 ∙ ap (λ o. Some (few-ids shape o, r)) d.2
