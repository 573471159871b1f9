-- A node by the kinds of its members, where it has no member but of nodes; `shape` is the fault of what has none of the
-- shapes.
use Rattle.std.specs.Prelude.{ℕ, Bool, if◌then◌else◌, List, [], ◌∷◌, codes, Option, Some, None, option_and_then, ok_or, Result, Ok, Err}
use Rattle.std.specs.List.{list_all}
use Rattle.std.specs.Option.{is_none}
use Rattle.std.specs.Result.{result_ok}
use Rattle.contract_words.specs.Faults.{◌>>=◌}
use Rattle.json_input.specs.Each.{each}
use Rattle.json_tokens.specs.Kind.{KindOf, number_in, text_in}
use Rattle.json_tokens.specs.ShortList.{ListOf, NoList, Fits, Longer}
use Rattle.json_tokens.specs.Fields.{FieldsOf}
use Rattle.config_box.specs.config_record.declared.coord.Coord as coord
use Rattle.config_box.specs.config_record.declared.coord.Coord.TheVariants as coords
use Rattle.config_box.specs.config_record.locales.declared.locale.Locale.{Locale}
use Rattle.config_box.specs.config_record.locales.declared.locale_rule.LocaleRule.{LocaleRule}
use Rattle.config_box.specs.config_record.locales.Text.{locale_by}
use Rattle.config_box.specs.Tests.{ChoiceOf, NumbersOf, LocalesOf, AtMostOf, AmongOf}
use Rattle.res_value.specs.declared.res_id.ResId.{ResId}
use Rattle.res_value.specs.ResId.{id_of}
use Rattle.cert_tree.specs.declared.cert_fault.CertFault.{CertFault}
use Rattle.cert_tree.specs.Certificate.{NodeOf, TestAt, ValueAt, BagAt, last_layer}
use Rattle.cert_tree.specs.CertJson.{last_word, last_kind, at_most, coord_named}

-- ---- a member

unfoldable pub number_kind : CertFault → ℕ → Option KindOf → Result ℕ CertFault
number_kind shape most member = ok_or (option_and_then (at_most most) (option_and_then number_in member)) shape

unfoldable pub coord_kind : CertFault → Option KindOf → Result coord.Coord CertFault
coord_kind shape member = ok_or (option_and_then coord_named (option_and_then text_in member)) shape

unfoldable pub id_kind : CertFault → Option KindOf → Result ResId CertFault
id_kind shape member = ok_or (option_and_then id_of (option_and_then text_in member)) shape

-- ---- the items of a list

unfoldable pub number_item_kind : CertFault → KindOf → Result ℕ CertFault
number_item_kind shape item = ok_or (option_and_then (at_most last_word) (number_in item)) shape

unfoldable pub locale_item_kind : LocaleRule → CertFault → KindOf → Result Locale CertFault
locale_item_kind rule shape item = ok_or (option_and_then (λ text. result_ok (locale_by rule text)) (text_in item)) shape

unfoldable pub choice_kinds : LocaleRule → CertFault → coord.Coord → List KindOf → Result ChoiceOf CertFault
choice_kinds rule shape coords.Locale items = each (locale_item_kind rule shape) items >>= λ locales. Ok (LocalesOf locales)
choice_kinds rule shape c items = each (number_item_kind shape) items >>= λ numbers. Ok (NumbersOf numbers)

-- the items of a list that is not too long
abbrev pub fitting : Option ListOf → Option (List KindOf)
fitting None = None
fitting (Some NoList) = None
fitting (Some (Fits items)) = Some items
fitting (Some Longer) = None

-- ---- nodes

unfoldable pub at_most_kinds : CertFault → Option KindOf → Option KindOf → Result NodeOf CertFault
at_most_kinds shape coord most = do
  c ← coord_kind shape coord
  n ← number_kind shape last_word most
  Ok (TestAt (AtMostOf c n))

unfoldable pub among_kinds : LocaleRule → CertFault → Option KindOf → Option ListOf → Result NodeOf CertFault
among_kinds rule shape coord list = do
  c ← coord_kind shape coord
  items ← ok_or (fitting list) shape
  choice ← choice_kinds rule shape c items
  Ok (TestAt (AmongOf c choice))

unfoldable pub value_kinds : CertFault → Option KindOf → Option KindOf → Option KindOf → Result NodeOf CertFault
value_kinds shape layer kind word = do
  n ← number_kind shape last_layer layer
  k ← number_kind shape last_kind kind
  w ← number_kind shape last_word word
  Ok (ValueAt n (record { kind = k; word = w }))

unfoldable pub bag_kinds : CertFault → Option KindOf → Result NodeOf CertFault
bag_kinds shape bag = id_kind shape bag >>= λ id. Ok (BagAt id)

-- whether each of these holds
abbrev pub hold : List Bool → Bool
hold tests = list_all (λ holds. holds) tests

-- which kind of node it is, by the members that are not there
unfoldable pub node_kinds : LocaleRule → CertFault → List (Option KindOf) → Option ListOf → Result NodeOf CertFault
node_kinds rule shape (coord ∷ most ∷ layer ∷ kind ∷ word ∷ bag ∷ []) list =
    if hold (is_none list ∷ is_none layer ∷ is_none kind ∷ is_none word ∷ is_none bag ∷ []) then at_most_kinds shape coord most
    else if hold (is_none most ∷ is_none layer ∷ is_none kind ∷ is_none word ∷ is_none bag ∷ []) then among_kinds rule shape coord list
    else if hold (is_none list ∷ is_none coord ∷ is_none most ∷ is_none bag ∷ []) then value_kinds shape layer kind word
    else if hold (is_none list ∷ is_none coord ∷ is_none most ∷ is_none layer ∷ is_none kind ∷ is_none word ∷ []) then bag_kinds shape bag
    else Err shape
node_kinds rule shape _ list = Err shape

-- the names of the members of nodes but that of the list
abbrev pub member_names : List (List ℕ)
member_names = codes "coord" ∷ codes "atMost" ∷ codes "layer" ∷ codes "kind" ∷ codes "word" ∷ codes "bag" ∷ []

abbrev pub list_name : List ℕ
list_name = codes "in"

-- what was found of a value
abbrev pub node_found : LocaleRule → CertFault → Option FieldsOf → Result NodeOf CertFault
node_found rule shape (Some f) = node_kinds rule shape f.kinds f.list
node_found rule shape None = Err shape
