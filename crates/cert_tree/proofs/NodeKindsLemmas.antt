-- A value is the node that the kinds of its members tell.
use Rattle.std.proofs.Common.{◌≡◌, ◌≢◌, ℕ, List, [], ◌∷◌, map, length, get_or, Bool, true, false, not, if◌then◌else◌, Option, Some, None, option_map, option_and_then, ok_or, Result, Ok, Err, nat_le, refl, sym, ap, ◌∙◌, arith}
use Rattle.std.specs.Prelude.{codes, nat_lt}
use Rattle.std.specs.Option.{is_none, is_some}
use Rattle.std.proofs.lemmas.Bool.Decides.{nat_tests}
use Rattle.contract_words.specs.Exact.{GivesOr}
use Rattle.contract_words.specs.Faults.{◌>>=◌, refuse}
use Rattle.serde_json.specs.Data.{Data, null, boolean, number, string, array, object, Members}
use Rattle.serde_json.specs.Find.{get, get_member}
use Rattle.json_input.specs.Each.{each, list_of}
use Rattle.json_input.specs.Shape.{is_among, are_among, has_only}
use Rattle.json_tokens.specs.Kind.{KindOf, kind_of, kind_seen}
use Rattle.json_tokens.specs.declared.kind.Kind.{Kind}
use Rattle.json_tokens.specs.ShortList.{ListOf, short_list, short_list_of}
use Rattle.json_tokens.specs.Fields.{FieldsOf, field, fields_and_list, slots_seen}
use Rattle.json.specs.Token.{Token}
use Rattle.json.specs.Json.{parse_map}
use Rattle.json_tokens.specs.Standing.{value_at}
use Rattle.json_tokens.proofs.Standing.{read_some}
use Rattle.json_tokens.proofs.OfKind.{number_in-kind, text_in-kind, text-member, each-kinds}
use Rattle.json_tokens.proofs.Only.{only-where, only-not}
use Rattle.config_box.specs.config_record.declared.coord.Coord.{Coord}
use Rattle.config_box.specs.config_record.declared.coord.Coord.TheVariants as coords
use Rattle.config_box.specs.config_record.locales.declared.locale.Locale.{Locale}
use Rattle.config_box.specs.config_record.locales.declared.locale_rule.LocaleRule.{LocaleRule}
use Rattle.config_box.specs.config_record.locales.Text.{locale_by}
use Rattle.config_box.specs.Tests.{ChoiceOf, NumbersOf, LocalesOf, AtMostOf, AmongOf}
use Rattle.std.specs.Result.{result_ok}
use Rattle.res_value.specs.ResId.{id_of}
use Rattle.cert_tree.specs.declared.cert_fault.CertFault.{CertFault}
use Rattle.cert_tree.specs.declared.cert_fault.CertFault.TheVariants.{OutOfMemory}
use Rattle.cert_tree.specs.declared.node.Node.{Node}
use Rattle.cert_tree.specs.Certificate.{NodeOf, TestAt, ValueAt, BagAt, node_of, last_layer, most_listed}
use Rattle.cert_tree.specs.Kept.{node_seen}
use Rattle.cert_tree.specs.CertJson.{last_word, last_kind, at_most, number_within, number_at, id_at, list_at, coord_named, coord_at, number_item, locale_item, choice_in, at_most_in, among_in, value_in, bag_in, node_in}
use Rattle.cert_tree.specs.NodeKinds.{number_kind, coord_kind, id_kind, number_item_kind, locale_item_kind, choice_kinds, fitting, at_most_kinds, among_kinds, value_kinds, bag_kinds, hold, node_kinds, member_names, list_name, node_found}

-- ---- members

coord-member : (shape : CertFault) (value : Data) → coord_at shape value ≡ coord_kind shape (field value (codes "coord"))
unfolding coord_at coord_kind
coord-member shape value = ap (λ text. ok_or (option_and_then coord_named text) shape) (text-member (get (codes "coord") value))

id-member : (shape : CertFault) (name : List ℕ) (value : Data) → id_at shape name value ≡ id_kind shape (field value name)
unfolding id_at id_kind
id-member shape name value = ap (λ text. ok_or (option_and_then id_of text) shape) (text-member (get name value))

number-there : (shape : CertFault) (most : ℕ) (member : Option Data) → (ok_or member shape >>= number_within shape most) ≡ number_kind shape most (option_map kind_of member)
unfolding number_within number_kind
number-there shape most None = refl
number-there shape most (Some value) = ap (λ n. ok_or (option_and_then (at_most most) n) shape) (sym (number_in-kind value))

number-member : (shape : CertFault) (name : List ℕ) (most : ℕ) (value : Data) → number_at shape name most value ≡ number_kind shape most (field value name)
unfolding number_at
number-member shape name most value = number-there shape most (get name value)

-- ---- the items of a list

number-item : (shape : CertFault) (value : Data) → number_item shape value ≡ number_item_kind shape (kind_of value)
unfolding number_within number_item_kind
number-item shape value = ap (λ n. ok_or (option_and_then (at_most last_word) n) shape) (sym (number_in-kind value))

locale-item : (rule : LocaleRule) (shape : CertFault) (value : Data) → locale_item rule shape value ≡ locale_item_kind rule shape (kind_of value)
unfolding locale_item locale_item_kind
locale-item rule shape value = ap (λ text. ok_or (option_and_then (λ text. result_ok (locale_by rule text)) text) shape) (sym (text_in-kind value))

numbers : (shape : CertFault) (items : List Data) → (each (number_item shape) items >>= λ numbers. Ok (NumbersOf numbers)) ≡ (each (number_item_kind shape) (map kind_of items) >>= λ numbers. Ok (NumbersOf numbers))
numbers shape items = ap (λ (r : Result (List ℕ) CertFault). r >>= λ numbers. Ok (NumbersOf numbers)) (each-kinds (number_item shape) (number_item_kind shape) (number-item shape) items)

choice-kinds : (rule : LocaleRule) (shape : CertFault) (c : Coord) (items : List Data) → choice_in rule shape c items ≡ choice_kinds rule shape c (map kind_of items)
unfolding choice_in choice_kinds
choice-kinds rule shape coords.Locale items = ap (λ (r : Result (List Locale) CertFault). r >>= λ locales. Ok (LocalesOf locales)) (each-kinds (locale_item rule shape) (locale_item_kind rule shape) (locale-item rule shape) items)
choice-kinds rule shape coords.Mcc items = numbers shape items
choice-kinds rule shape coords.Mnc items = numbers shape items
choice-kinds rule shape coords.LayoutDirection items = numbers shape items
choice-kinds rule shape coords.SmallestWidthDp items = numbers shape items
choice-kinds rule shape coords.WidthDp items = numbers shape items
choice-kinds rule shape coords.HeightDp items = numbers shape items
choice-kinds rule shape coords.ScreenSize items = numbers shape items
choice-kinds rule shape coords.Long items = numbers shape items
choice-kinds rule shape coords.Round items = numbers shape items
choice-kinds rule shape coords.WideColor items = numbers shape items
choice-kinds rule shape coords.Hdr items = numbers shape items
choice-kinds rule shape coords.Orientation items = numbers shape items
choice-kinds rule shape coords.UiType items = numbers shape items
choice-kinds rule shape coords.Night items = numbers shape items
choice-kinds rule shape coords.Density items = numbers shape items
choice-kinds rule shape coords.Touchscreen items = numbers shape items
choice-kinds rule shape coords.KeysHidden items = numbers shape items
choice-kinds rule shape coords.NavHidden items = numbers shape items
choice-kinds rule shape coords.Keyboard items = numbers shape items
choice-kinds rule shape coords.Navigation items = numbers shape items
choice-kinds rule shape coords.Width items = numbers shape items
choice-kinds rule shape coords.Height items = numbers shape items
choice-kinds rule shape coords.Sdk items = numbers shape items
choice-kinds rule shape coords.Minor items = numbers shape items

abbrev listing : Coord → Result ChoiceOf CertFault → Result NodeOf CertFault
listing c choice = choice >>= λ choice. Ok (TestAt (AmongOf c choice))

among-items : (rule : LocaleRule) (shape : CertFault) (c : Coord) (items : Option (List Data))
    → (ok_or items shape >>= λ items. refuse (nat_lt most_listed (length items)) shape >>= λ _. listing c (choice_in rule shape c items))
    ≡ (ok_or (fitting (Some (short_list_of most_listed items))) shape >>= λ items. listing c (choice_kinds rule shape c items))
among-items rule shape c None = refl
among-items rule shape c (Some items) = at (nat_le (length items) most_listed) refl
  where
    at : (b : Bool) → nat_le (length items) most_listed ≡ b
        → (refuse (nat_lt most_listed (length items)) shape >>= λ _. listing c (choice_in rule shape c items))
        ≡ (ok_or (fitting (Some (short_list_of most_listed (Some items)))) shape >>= λ items. listing c (choice_kinds rule shape c items))
    at true is =
        let few : nat_lt most_listed (length items) ≡ false = grind (arith, nat_tests, is) in
        rw (few, is) (ap (listing c) (choice-kinds rule shape c items))
    at false is =
        let many : nat_lt most_listed (length items) ≡ true = grind (arith, nat_tests, is) in
        rw (many, is) refl

among-list : (rule : LocaleRule) (shape : CertFault) (c : Coord) (list : Option Data)
    → (ok_or (option_and_then list_of list) shape >>= λ items. refuse (nat_lt most_listed (length items)) shape >>= λ _. listing c (choice_in rule shape c items))
    ≡ (ok_or (fitting (option_map (short_list most_listed) list)) shape >>= λ items. listing c (choice_kinds rule shape c items))
among-list rule shape c None = refl
among-list rule shape c (Some list) = among-items rule shape c (list_of list)

-- ---- nodes

at_most-found : (shape : CertFault) (value : Data) → at_most_in shape value ≡ at_most_kinds shape (field value (codes "coord")) (field value (codes "atMost"))
unfolding at_most_in at_most_kinds
at_most-found shape value = λ i. coord-member shape value i >>= λ c. number-member shape (codes "atMost") last_word value i >>= λ n. Ok (TestAt (AtMostOf c n))

among-found : (rule : LocaleRule) (shape : CertFault) (value : Data) → among_in rule shape value ≡ among_kinds rule shape (field value (codes "coord")) (option_map (short_list most_listed) (get list_name value))
unfolding among_in among_kinds list_at
among-found rule shape value = λ i. coord-member shape value i >>= λ c. among-list rule shape c (get list_name value) i

value-found : (shape : CertFault) (value : Data) → value_in shape value ≡ value_kinds shape (field value (codes "layer")) (field value (codes "kind")) (field value (codes "word"))
unfolding value_in value_kinds
value-found shape value =
    λ i. number-member shape (codes "layer") last_layer value i >>= λ n. number-member shape (codes "kind") last_kind value i >>= λ k. number-member shape (codes "word") last_word value i >>= λ w.
    Ok (ValueAt n (record { kind = k; word = w }))

bag-found : (shape : CertFault) (value : Data) → bag_in shape value ≡ bag_kinds shape (field value (codes "bag"))
unfolding bag_in bag_kinds
bag-found shape value = λ i. id-member shape (codes "bag") value i >>= λ id. Ok (BagAt id)

none-seen : {A B : Type 0} (f : A → B) (member : Option A) → is_none member ≡ is_none (option_map f member)
none-seen f None = refl
none-seen f (Some a) = refl

object-found : (rule : LocaleRule) (shape : CertFault) (ms : Members) (b : Bool) → are_among (list_name ∷ member_names) ms ≡ b
    → node_in rule shape (object ms) ≡ node_found rule shape (fields_and_list member_names list_name most_listed (object ms))
unfolding node_in node_kinds has_only is_among
object-found rule shape ms false other =
    let all = list_name ∷ member_names in
    let no_at_most = only-not (codes "coord" ∷ codes "atMost" ∷ []) all ms refl other in
    let no_among = only-not (codes "coord" ∷ codes "in" ∷ []) all ms refl other in
    let no_value = only-not (codes "layer" ∷ codes "kind" ∷ codes "word" ∷ []) all ms refl other in
    let no_bag = only-not (codes "bag" ∷ []) all ms refl other in
    rw (no_at_most, no_among, no_value, no_bag, other) refl
object-found rule shape ms true only =
    let all = list_name ∷ member_names in
    let value = object ms in
    let no : (name : List ℕ) → is_none (get_member name ms) ≡ is_none (field value name) = λ name. none-seen kind_of (get_member name ms) in
    let no_list : is_none (get_member list_name ms) ≡ is_none (option_map (short_list most_listed) (get_member list_name ms)) = none-seen (short_list most_listed) (get_member list_name ms) in
    let coord = no (codes "coord") in
    let most = no (codes "atMost") in
    let layer = no (codes "layer") in
    let kind = no (codes "kind") in
    let word = no (codes "word") in
    let bag = no (codes "bag") in
    let is_at_most = only-where (codes "coord" ∷ codes "atMost" ∷ []) all ms only ∙ (λ i. hold (no_list i ∷ layer i ∷ kind i ∷ word i ∷ bag i ∷ [])) in
    let is_among_node = only-where (codes "coord" ∷ codes "in" ∷ []) all ms only ∙ (λ i. hold (most i ∷ layer i ∷ kind i ∷ word i ∷ bag i ∷ [])) in
    let is_value = only-where (codes "layer" ∷ codes "kind" ∷ codes "word" ∷ []) all ms only ∙ (λ i. hold (no_list i ∷ coord i ∷ most i ∷ bag i ∷ [])) in
    let is_bag = only-where (codes "bag" ∷ []) all ms only ∙ (λ i. hold (no_list i ∷ coord i ∷ most i ∷ layer i ∷ kind i ∷ word i ∷ [])) in
    (λ i.
    if is_at_most i then at_most-found shape value i
    else if is_among_node i then among-found rule shape value i
    else if is_value i then value-found shape value i
    else if is_bag i then bag-found shape value i
    else Err shape)
    ∙ rw only refl

pub node_in-found : (rule : LocaleRule) (shape : CertFault) (value : Data) → node_in rule shape value ≡ node_found rule shape (fields_and_list member_names list_name most_listed value)
unfolding node_in has_only
node_in-found rule shape null = refl
node_in-found rule shape (boolean b) = refl
node_in-found rule shape (number n) = refl
node_in-found rule shape (string s) = refl
node_in-found rule shape (array items) = refl
node_in-found rule shape (object ms) = object-found rule shape ms (are_among (list_name ∷ member_names) ms) refl

-- ---- the members of a node, by their slots

abbrev slot : List (Option Kind) → ℕ → Option KindOf
slot members place = option_map kind_seen (get_or members place None)

six : (members : List (Option Kind)) → length members ≡ 6
    → slots_seen members ≡ slot members 0 ∷ slot members 1 ∷ slot members 2 ∷ slot members 3 ∷ slot members 4 ∷ slot members 5 ∷ []
six (a ∷ b ∷ c ∷ d ∷ e ∷ f ∷ []) count = refl
six [] count = absurd cc
six (a ∷ []) count = absurd cc
six (a ∷ b ∷ []) count = absurd cc
six (a ∷ b ∷ c ∷ []) count = absurd cc
six (a ∷ b ∷ c ∷ d ∷ []) count = absurd cc
six (a ∷ b ∷ c ∷ d ∷ e ∷ []) count = absurd cc
six (a ∷ b ∷ c ∷ d ∷ e ∷ f ∷ g ∷ others) count = let never : ⊥ = omega (arith, count) in absurd never

none-slot : {A B : Type 0} (f : A → B) (member : Option A) (no : Bool) → is_some member ≡ not no → is_none (option_map f member) ≡ no
none-slot f None true is = refl
none-slot f None false is = sym is
none-slot f (Some a) true is = sym is
none-slot f (Some a) false is = refl

-- which node it is, where it is known which members are not there
pub node-tests : {L : Type 0} (rule : LocaleRule) (shape : CertFault) (members : List (Option Kind)) (seen : L → ListOf) (list : Option L)
    (no_coord no_most no_layer no_kind no_word no_bag no_list : Bool) → length members ≡ 6
    → is_some (get_or members 0 None) ≡ not no_coord → is_some (get_or members 1 None) ≡ not no_most → is_some (get_or members 2 None) ≡ not no_layer
    → is_some (get_or members 3 None) ≡ not no_kind → is_some (get_or members 4 None) ≡ not no_word → is_some (get_or members 5 None) ≡ not no_bag → is_some list ≡ not no_list
    → node_kinds rule shape (slots_seen members) (option_map seen list)
    ≡ (if hold (no_list ∷ no_layer ∷ no_kind ∷ no_word ∷ no_bag ∷ []) then at_most_kinds shape (slot members 0) (slot members 1)
    else if hold (no_most ∷ no_layer ∷ no_kind ∷ no_word ∷ no_bag ∷ []) then among_kinds rule shape (slot members 0) (option_map seen list)
    else if hold (no_list ∷ no_coord ∷ no_most ∷ no_bag ∷ []) then value_kinds shape (slot members 2) (slot members 3) (slot members 4)
    else if hold (no_list ∷ no_coord ∷ no_most ∷ no_layer ∷ no_kind ∷ no_word ∷ []) then bag_kinds shape (slot members 5)
    else Err shape)
unfolding node_kinds
node-tests rule shape members seen list no_coord no_most no_layer no_kind no_word no_bag no_list count e0 e1 e2 e3 e4 e5 e6 =
    let coord = none-slot kind_seen (get_or members 0 None) no_coord e0 in
    let most = none-slot kind_seen (get_or members 1 None) no_most e1 in
    let layer = none-slot kind_seen (get_or members 2 None) no_layer e2 in
    let kind = none-slot kind_seen (get_or members 3 None) no_kind e3 in
    let word = none-slot kind_seen (get_or members 4 None) no_word e4 in
    let bag = none-slot kind_seen (get_or members 5 None) no_bag e5 in
    let listed = none-slot seen list no_list e6 in
    ap (λ slots. node_kinds rule shape slots (option_map seen list)) (six members count)
    ∙ (λ i.
    if hold (listed i ∷ layer i ∷ kind i ∷ word i ∷ bag i ∷ []) then at_most_kinds shape (slot members 0) (slot members 1)
    else if hold (most i ∷ layer i ∷ kind i ∷ word i ∷ bag i ∷ []) then among_kinds rule shape (slot members 0) (option_map seen list)
    else if hold (listed i ∷ coord i ∷ most i ∷ bag i ∷ []) then value_kinds shape (slot members 2) (slot members 3) (slot members 4)
    else if hold (listed i ∷ coord i ∷ most i ∷ layer i ∷ kind i ∷ word i ∷ []) then bag_kinds shape (slot members 5)
    else Err shape)

-- what is given where memory did not run out
pub given : (node : Result Node CertFault) (meant : Result NodeOf CertFault) → GivesOr OutOfMemory node_of node meant → node ≢ Err OutOfMemory → meant ≡ node_seen node
given (Ok node) meant gives other = gives
given (Err fault) meant gives other = gives (λ same. other (ap (λ fault. Err fault) same))

-- a node of one kind, which takes no memory, is the node where it is of that kind
pub node-is : (node : Result Node CertFault) (kinds meant : Result NodeOf CertFault) → node_seen node ≡ kinds → meant ≡ kinds → GivesOr OutOfMemory node_of node meant
node-is (Ok node) kinds meant is chosen = chosen ∙ sym is
node-is (Err fault) kinds meant is chosen = λ other. chosen ∙ sym is

-- what was read is a node
pub node-read : (rule : LocaleRule) (shape : CertFault) (depth room : ℕ) (ts r : List Token) (found : Option FieldsOf) (node : Result NodeOf CertFault) → room ≡ most_listed
    → parse_map (fields_and_list member_names list_name room) (value_at depth ts) ≡ Some (found, r) → node_found rule shape found ≡ node → parse_map (node_in rule shape) (value_at depth ts) ≡ Some (node, r)
node-read rule shape depth room ts r found node same e is =
    let d = read_some (fields_and_list member_names list_name room) (value_at depth ts) found r e in
    ap (parse_map (node_in rule shape)) d.1
    ∙ ap (λ node. Some (node, r)) (
    node_in-found rule shape d.0
    ∙ ap (λ room. node_found rule shape (fields_and_list member_names list_name room d.0)) (sym same)
    ∙ ap (node_found rule shape) d.2
    ∙ is
    )
