-- What is written of a certificate is read as the same goals and nodes.
use Rattle.std.proofs.Common.{◌≡◌, ℕ, ◌+◌, ◌≤◌, ◌==◌, ◌||◌, Bool, true, false, List, [], ◌∷◌, ◌++◌, map, length, get_or, Option, Some, ok_or, Result, Ok, Err, IfOk, append_assoc, refl, sym, ap, ◌∙◌, arith}
use Rattle.std.specs.List.{All, list_all}
use Rattle.std.specs.Result.{result_ok}
use Rattle.std.proofs.Math.Bool.{or-true}
use Rattle.std.proofs.lemmas.Bool.{le-leb, le-ltb}
use Rattle.std.proofs.lemmas.List.{append-nil, length-map}
use Rattle.std.proofs.lemmas.List.Sums.{AllPass-from_list_all}
use Rattle.std.proofs.lemmas.List.Elements.{All-head, All-tail}
use Rattle.contract_words.specs.Faults.{◌>>=◌}
use Rattle.contract_words.specs.Sequences.{with_front}
use Rattle.serde_json.specs.Data.{Data, depth, items_depth}
use Rattle.serde_json.specs.View.{items_of}
use Rattle.serde_json.specs.Read.{max_depth}
use Rattle.serde_json.specs.Written.{has_float, items_have_float}
use Rattle.json_input.specs.Each.{list_items, each}
use Rattle.json_input.proofs.EachSteps.{each-ok}
use Rattle.json_input.specs.Json.{value_of}
use Rattle.json_input.specs.Shape.{has_only, are_among, is_among}
use Rattle.config_box.specs.config_record.declared.coord.Coord as coord
use Rattle.config_box.specs.config_record.declared.coord.Coord.TheVariants as coords
use Rattle.config_box.specs.config_record.locales.declared.locale.Locale.{Locale}
use Rattle.config_box.specs.config_record.locales.declared.locale.LocaleFault.{LocaleFault}
use Rattle.config_box.specs.config_record.Coord.{all_coords, name_of}
use Rattle.config_box.specs.config_record.locales.declared.locale_rule.LocaleRule.{LocaleRule}
use Rattle.config_box.specs.config_record.locales.Text.{locale_by, locale_text, IsGivenBy}
use Rattle.res_value.specs.declared.res_id.ResId.{ResId}
use Rattle.res_value.specs.declared.value.Value.{Value}
use Rattle.res_value.specs.ResId.{id_of, id_text}
use Rattle.cert_tree.specs.declared.cert_fault.CertFault.{CertFault}
use Rattle.cert_tree.specs.declared.cert_fault.CertFault.TheVariants.{Syntax, Shape}
use Rattle.config_box.specs.Tests.{ChoiceOf, NumbersOf, LocalesOf, AtMostOf, AmongOf}
use Rattle.cert_tree.specs.Certificate.{NodeOf, TestAt, ValueAt, BagAt, GoalOf, ChoiceFits, NodeFits, GoalFits, CertFits, node_count, most_nodes, most_listed, last_layer}
use Rattle.res_value.specs.Goal.{GoalSeen, IdGoal, AttrGoal, most_styles}
use Rattle.cert_tree.specs.ReadOn.{read_on}
use Rattle.cert_tree.specs.CertJson.{last_word, last_kind, number_within, number_at, id_at, list_at, coord_named, coord_at, number_item, locale_item, choice_in, at_most_in, among_in, value_in, bag_in, node_in, node_after, id_goal_in, id_item, styles_in, attr_goal_in, asked_in, nodes_in, goal_in, goal_after, is_version, goals_in, goals_in_value, cert_in_by}
use Rattle.cert_tree.specs.WrittenJson.{number_data, id_data, locale_data, list_data, choice_items, node_data, asked_data, goal_data, is_id_goal, version_of, cert_data}
use Rattle.cert_tree.specs.ReadsBack.{NumberReadsBack, IdReadsBack, ChoiceReadsBack, NodeReadsBack, CanBeRead, GoalReadsBack}
use Rattle.cert_tree.proofs.ReadOnSteps.{read_on-ok, read_on-none}
use Rattle.cert_tree.proofs.ReadSteps.{count-push}

-- ---- lists

list_items-items_of : (values : List Data) → list_items (items_of values) ≡ values
list_items-items_of [] = refl
list_items-items_of (value ∷ values) = ap (λ (t : List Data). value ∷ t) (list_items-items_of values)

each-back : {X E : Type 0} (f : Data → Result X E) (data_of : X → Data) (xs : List X) → All (λ x. f (data_of x) ≡ Ok x) xs → each f (map data_of xs) ≡ Ok xs
unfolding each
each-back f data_of [] back = refl
each-back {X} {E} f data_of (x ∷ xs) back =
    each-ok f (data_of x) (map data_of xs) x (All-head (λ y. f (data_of y) ≡ Ok y) x xs back)
    ∙ ap (with_front (x ∷ [])) (each-back f data_of xs (All-tail (λ y. f (data_of y) ≡ Ok y) x xs back))

-- ---- numbers and texts

pub number-back : (n : ℕ) → n ≤ last_word → NumberReadsBack n
unfolding number_within
number-back n le shape = rw (le-leb n last_word le) refl

id_item-back : (id : ResId) → IdReadsBack id → (shape : CertFault) → id_item shape (id_data id) ≡ Ok id
unfolding id_item
id_item-back id back shape = rw back refl

locale-read : (shape : CertFault) (r : Result Locale LocaleFault) (locale : Locale) → r ≡ Ok locale → ok_or (result_ok r) shape ≡ Ok locale
locale-read shape r locale given = rw given refl

locale-back : (rule : LocaleRule) (locale : Locale) → IsGivenBy rule locale → (shape : CertFault) → locale_item rule shape (locale_data locale) ≡ Ok locale
unfolding locale_item
locale-back rule locale given shape = locale-read shape (locale_by rule (locale_text locale)) locale given

coord-back : (c : coord.Coord) → coord_named (name_of c) ≡ Some c
unfolding coord_named all_coords name_of
coord-back coords.Mcc = refl
coord-back coords.Mnc = refl
coord-back coords.Locale = refl
coord-back coords.LayoutDirection = refl
coord-back coords.SmallestWidthDp = refl
coord-back coords.WidthDp = refl
coord-back coords.HeightDp = refl
coord-back coords.ScreenSize = refl
coord-back coords.Long = refl
coord-back coords.Round = refl
coord-back coords.WideColor = refl
coord-back coords.Hdr = refl
coord-back coords.Orientation = refl
coord-back coords.UiType = refl
coord-back coords.Night = refl
coord-back coords.Density = refl
coord-back coords.Touchscreen = refl
coord-back coords.KeysHidden = refl
coord-back coords.NavHidden = refl
coord-back coords.Keyboard = refl
coord-back coords.Navigation = refl
coord-back coords.Width = refl
coord-back coords.Height = refl
coord-back coords.Sdk = refl
coord-back coords.Minor = refl

-- ---- choices

numbers-read : (numbers : List ℕ) → All NumberReadsBack numbers → (shape : CertFault) → each (number_item shape) (map number_data numbers) ≡ Ok numbers
numbers-read numbers back shape = each-back (number_item shape) number_data numbers (λ k d on. back k d on shape)

locales-read : (rule : LocaleRule) (locales : List Locale) → All (IsGivenBy rule) locales → (shape : CertFault) → each (locale_item rule shape) (map locale_data locales) ≡ Ok locales
locales-read rule locales given shape = each-back (locale_item rule shape) locale_data locales (λ k d on. locale-back rule (get_or locales k d) (given k d on) shape)

pub numbers-back : (numbers : List ℕ) → All NumberReadsBack numbers → ChoiceReadsBack (NumbersOf numbers)
unfolding choice_in
numbers-back numbers back rule coords.Locale fits shape = absurd fits
numbers-back numbers back rule c fits shape = ap (λ (r : Result (List ℕ) CertFault). r >>= λ ns. Ok (NumbersOf ns)) (numbers-read numbers back shape)

pub locales-back : (locales : List Locale) → ChoiceReadsBack (LocalesOf locales)
unfolding choice_in
locales-back locales rule coords.Locale fits shape = ap (λ (r : Result (List Locale) CertFault). r >>= λ ls. Ok (LocalesOf ls)) (locales-read rule locales fits.1 shape)
locales-back locales rule c fits shape = absurd fits

few-listed : (rule : LocaleRule) (c : coord.Coord) (choice : ChoiceOf) → ChoiceFits rule c choice → length (choice_items choice) ≤ most_listed
few-listed rule coords.Locale (NumbersOf numbers) fits = absurd fits
few-listed rule coords.Locale (LocalesOf locales) fits = simp length-map fits.0
few-listed rule c (NumbersOf numbers) fits = simp length-map fits
few-listed rule c (LocalesOf locales) fits = absurd fits

-- ---- nodes

pub at_most-back : (c : coord.Coord) (most : ℕ) → most ≤ last_word → NodeReadsBack (TestAt (AtMostOf c most))
unfolding node_in at_most_in coord_at number_at number_within has_only are_among is_among
at_most-back c most le rule fits shape = rw (coord-back c, le-leb most last_word le) refl

pub among-back : (c : coord.Coord) (choice : ChoiceOf) → ChoiceReadsBack choice → NodeReadsBack (TestAt (AmongOf c choice))
unfolding node_in among_in coord_at list_at has_only are_among is_among
among-back c choice back rule fits shape =
    rw (coord-back c, list_items-items_of (choice_items choice), le-ltb most_listed (length (choice_items choice)) (few-listed rule c choice fits))
    (ap (λ (r : Result ChoiceOf CertFault). r >>= λ ch. Ok (TestAt (AmongOf c ch))) (back rule c fits shape))

pub value-back : (layer : ℕ) (value : Value) → value.kind ≤ last_kind → value.word ≤ last_word → NodeReadsBack (ValueAt layer value)
unfolding node_in value_in number_at number_within has_only are_among is_among
value-back layer value kind word rule fits shape = rw (le-leb layer last_layer fits, le-leb value.kind last_kind kind, le-leb value.word last_word word) refl

pub bag-back : (id : ResId) → id_of (id_text id.0) ≡ Some id → NodeReadsBack (BagAt id)
unfolding node_in bag_in id_at has_only are_among is_among
bag-back id back rule fits shape = rw back refl

nodes-read : (rule : LocaleRule) (goal : ℕ) (before nodes : List NodeOf) → All NodeReadsBack nodes → All (NodeFits rule) nodes → read_on (node_after rule goal) before (map node_data nodes) ≡ Ok (before ++ nodes)
nodes-read rule goal before [] back fits =
    let wrapped : List NodeOf → Result (List NodeOf) CertFault = λ t. Ok t in
    read_on-none (node_after rule goal) before ∙ ap wrapped (sym (append-nil before))
nodes-read rule goal before (node ∷ nodes) back fits =
    let wrapped : List NodeOf → Result (List NodeOf) CertFault = λ t. Ok t in
    read_on-ok (node_after rule goal) before (node_data node) (map node_data nodes) node
    (All-head NodeReadsBack node nodes back rule (All-head (NodeFits rule) node nodes fits) (Shape goal (length before)))
    ∙ nodes-read rule goal (before ++ node ∷ []) nodes (All-tail NodeReadsBack node nodes back) (All-tail (NodeFits rule) node nodes fits)
    ∙ ap wrapped (append_assoc before (node ∷ []) nodes)

-- ---- goals

ids-read : (ids : List ResId) → All IdReadsBack ids → (shape : CertFault) → each (id_item shape) (map id_data ids) ≡ Ok ids
ids-read ids back shape = each-back (id_item shape) id_data ids (λ k d on. id_item-back (get_or ids k d) (back k d on) shape)

pub id_goal-back : (id : ResId) (nodes : List NodeOf) → IdReadsBack id → All NodeReadsBack nodes → GoalReadsBack (record { goal = IdGoal id; nodes = nodes })
unfolding goal_in nodes_in asked_in id_goal_in id_at has_only are_among is_among
id_goal-back id nodes same back rule styles fits attributes can place nodes_before few =
    let count : length (map node_data nodes) ≡ length nodes = length-map nodes node_data in
    rw (same, list_items-items_of (map node_data nodes), le-ltb most_nodes (nodes_before + length (map node_data nodes)) (omega arith))
    (ap (λ (r : Result (List NodeOf) CertFault). r >>= λ ns. Ok (record { goal = IdGoal id; nodes = ns })) (nodes-read rule place [] nodes back fits))

pub attr_goal-back : (attr : ResId) (styles : List ResId) (nodes : List NodeOf) → IdReadsBack attr → All IdReadsBack styles → All NodeReadsBack nodes
    → GoalReadsBack (record { goal = AttrGoal attr styles; nodes = nodes })
unfolding goal_in nodes_in asked_in attr_goal_in styles_in id_at has_only are_among is_among
attr_goal-back attr styles nodes same ids back rule few_styles fits attributes can place nodes_before few =
    let count : length (map node_data nodes) ≡ length nodes = length-map nodes node_data in
    let style_count : length (map id_data styles) ≡ length styles = length-map styles id_data in
    rw (
      can,
      same,
      list_items-items_of (map id_data styles),
      le-ltb most_styles (length (map id_data styles)) (omega arith),
      ids-read styles ids (Shape place 0),
      list_items-items_of (map node_data nodes),
      le-ltb most_nodes (nodes_before + length (map node_data nodes)) (omega arith),
    )
    (ap (λ (r : Result (List NodeOf) CertFault). r >>= λ ns. Ok (record { goal = AttrGoal attr styles; nodes = ns })) (nodes-read rule place [] nodes back fits))

goals-read : (rule : LocaleRule) (attributes : Bool) (before goals : List GoalOf) → All GoalReadsBack goals → All (λ g. GoalFits g.goal) goals → All (λ g. All (NodeFits rule) g.nodes) goals
    → All (λ g. CanBeRead attributes g.goal) goals → node_count before + node_count goals ≤ most_nodes
    → read_on (goal_after rule attributes) before (map goal_data goals) ≡ Ok (before ++ goals)
goals-read rule attributes before [] back styles fits can few =
    let wrapped : List GoalOf → Result (List GoalOf) CertFault = λ t. Ok t in
    read_on-none (goal_after rule attributes) before ∙ ap wrapped (sym (append-nil before))
goals-read rule attributes before (g ∷ goals) back styles fits can few =
    let wrapped : List GoalOf → Result (List GoalOf) CertFault = λ t. Ok t in
    let pushed : node_count (before ++ g ∷ []) ≡ node_count before + length g.nodes = count-push before g in
    read_on-ok (goal_after rule attributes) before (goal_data g) (map goal_data goals) g
    (All-head GoalReadsBack g goals back rule (All-head (λ h. GoalFits h.goal) g goals styles) (All-head (λ h. All (NodeFits rule) h.nodes) g goals fits)
    attributes (All-head (λ h. CanBeRead attributes h.goal) g goals can) (length before) (node_count before) (omega arith))
    ∙ goals-read rule attributes (before ++ g ∷ []) goals (All-tail GoalReadsBack g goals back) (All-tail (λ h. GoalFits h.goal) g goals styles) (All-tail (λ h. All (NodeFits rule) h.nodes) g goals fits)
    (All-tail (λ h. CanBeRead attributes h.goal) g goals can) (omega arith)
    ∙ ap wrapped (append_assoc before (g ∷ []) goals)

-- goals of attributes are written as version 2
can_be_read : (goals : List GoalOf) → All (λ g. CanBeRead (version_of goals == 2) g.goal) goals
can_be_read goals = by (list_all is_id_goal goals) refl
  where
    by : (ids : Bool) → list_all is_id_goal goals ≡ ids → All (λ g. CanBeRead (version_of goals == 2) g.goal) goals
    by true e = λ k d on. ap (λ (b : Bool). b || (version_of goals == 2)) (AllPass-from_list_all is_id_goal goals e k d on)
    by false e = λ k d on. rw e (or-true (is_id_goal (get_or goals k d)))

-- the version is 1 or 2
is_written_version : (goals : List GoalOf) → (version_of goals == 1 || version_of goals == 2) ≡ true
is_written_version goals = by (list_all is_id_goal goals) refl
  where
    by : (ids : Bool) → list_all is_id_goal goals ≡ ids → (version_of goals == 1 || version_of goals == 2) ≡ true
    by true e = rw e refl
    by false e = rw e refl

pub cert-back : (rule : LocaleRule) (goals : List GoalOf) → All GoalReadsBack goals → CertFits rule goals → goals_in_value rule (cert_data goals) ≡ Ok goals
unfolding goals_in_value goals_in is_version has_only are_among is_among
cert-back rule goals back fits =
    rw (is_written_version goals, list_items-items_of (map goal_data goals))
    (goals-read rule (version_of goals == 2) [] goals back fits.styles fits.nodes (can_be_read goals) (omega (arith, fits.few)))

pub cert_in-back : (rule : LocaleRule) (json : List ℕ) (value : Data) (goals : List GoalOf) → value_of json ≡ Some value → value ≡ cert_data goals → goals_in_value rule (cert_data goals) ≡ Ok goals → cert_in_by rule json ≡ Ok goals
cert_in-back rule json value goals was is back = ap (λ (o : Option Data). ok_or o Syntax >>= goals_in_value rule) was ∙ ap (goals_in_value rule) is ∙ back

pub in_any_case : {X E P : Type 0} (r : Result X E) → P → IfOk r (λ _. P)
in_any_case (Ok x) holds = holds
in_any_case (Err e) holds = tt

-- ---- what is written has no float, and nests six deep at most

record Plain (most : ℕ) (value : Data) : Type 0 where
  no_float : has_float value ≡ false
  shallow : depth value ≤ most

record PlainItems (most : ℕ) (values : List Data) : Type 0 where
  no_float : items_have_float (items_of values) ≡ false
  shallow : items_depth (items_of values) ≤ most

plain-items : {X : Type 0} (data_of : X → Data) (most : ℕ) → ((x : X) → Plain most (data_of x)) → (xs : List X) → PlainItems most (map data_of xs)
plain-items data_of most plain [] = record { no_float = refl; shallow = omega arith }
plain-items data_of most plain (x ∷ xs) =
    let first = plain x in
    let others = plain-items data_of most plain xs in
    record { no_float = rw first.no_float others.no_float; shallow = omega (arith, first.shallow, others.shallow) }

plain-choice : (choice : ChoiceOf) → PlainItems 0 (choice_items choice)
plain-choice (NumbersOf numbers) = plain-items number_data 0 (λ n. record { no_float = refl; shallow = omega arith }) numbers
plain-choice (LocalesOf locales) = plain-items locale_data 0 (λ l. record { no_float = refl; shallow = omega arith }) locales

plain-node : (node : NodeOf) → Plain 2 (node_data node)
plain-node (TestAt (AtMostOf c most)) = record { no_float = refl; shallow = omega arith }
plain-node (TestAt (AmongOf c choice)) = let items = plain-choice choice in record { no_float = rw items.no_float refl; shallow = omega (arith, items.shallow) }
plain-node (ValueAt layer value) = record { no_float = refl; shallow = omega arith }
plain-node (BagAt id) = record { no_float = refl; shallow = omega arith }

plain-asked : (goal : GoalSeen) (nodes : List NodeOf) → Plain 4 (asked_data goal (list_data (map node_data nodes)))
plain-asked (IdGoal id) nodes =
    let items = plain-items node_data 2 plain-node nodes in
    record { no_float = rw items.no_float refl; shallow = omega (arith, items.shallow) }
plain-asked (AttrGoal attr styles) nodes =
    let items = plain-items node_data 2 plain-node nodes in
    let ids = plain-items id_data 0 (λ id. record { no_float = refl; shallow = omega arith }) styles in
    record { no_float = rw (items.no_float, ids.no_float) refl; shallow = omega (arith, items.shallow, ids.shallow) }

plain-goal : (g : GoalOf) → Plain 4 (goal_data g)
plain-goal g = plain-asked g.goal g.nodes

pub cert-no_float : (goals : List GoalOf) → has_float (cert_data goals) ≡ false
cert-no_float goals = let items = plain-items goal_data 4 plain-goal goals in rw items.no_float refl

pub cert-shallow : (goals : List GoalOf) → depth (cert_data goals) ≤ max_depth
cert-shallow goals = let items = plain-items goal_data 4 plain-goal goals in omega (arith, items.shallow)

pub ruleset choices_back = (numbers-back, locales-back)
