-- The nodes of a goal that are read of a list that is walked.
use Rattle.std.proofs.Common.{◌≡◌, ℕ, ◌+◌, ◌<◌, ◌≤◌, List, [], ◌∷◌, ◌++◌, map, length, Bool, true, false, if◌then◌else◌, nat_le, le-leb, Option, Some, None, ok_or, Result, Ok, Err, refl, sym, ap, ◌∙◌, append_assoc, length-append, arith}
use Rattle.std.specs.Prelude.{nat_lt}
use Rattle.std.proofs.lemmas.List.{length-map}
use Rattle.std.proofs.lemmas.Bool.Decides.{nat_tests}
use Rattle.contract_words.specs.Faults.{◌>>=◌, refuse}
use Rattle.json.specs.Token.{Token}
use Rattle.json.specs.Json.{parse_map, after_end_array}
use Rattle.json.proofs.Grammar.{left, left_some}
use Rattle.serde_json.specs.Data.{Data}
use Rattle.json_input.specs.Each.{list_of}
use Rattle.json_tokens.specs.Standing.{value_at, items_at}
use Rattle.json_tokens.proofs.Standing.{at-item, at-no_item, read_some, mapped-twice, list-read, list-malformed}
use Rattle.json_tokens.proofs.Walked.{Walked, Walked-none, Walked-next, Walked-end, Walked-malformed, Walked-not_passed}
use Rattle.config_box.specs.config_record.locales.declared.locale_rule.LocaleRule.{LocaleRule}
use Rattle.cert_tree.specs.declared.cert_fault.CertFault.{CertFault}
use Rattle.cert_tree.specs.declared.cert_fault.CertFault.TheVariants.{Shape, TooManyNodes}
use Rattle.cert_tree.specs.declared.node.Node.{Node}
use Rattle.cert_tree.specs.Certificate.{NodeOf, node_of, most_nodes}
use Rattle.cert_tree.specs.CertJson.{node_in, node_after, nodes_in}
use Rattle.cert_tree.specs.Kept.{fault_unless_more}
use Rattle.cert_tree.specs.ReadOn.{read_on}
use Rattle.cert_tree.proofs.ReadOnSteps.{read_on-after, read_on-one_more, read_on-err, read_on-none}

-- what f reads of the items that were taken, each after those before it
pub record ReadOnWalked {X E : Type 0} (f : List X → Data → Result X E) (depth : ℕ) (start : List Token) (so_far : List X) (now : List Token) : Type 0 where
  pub before : List Data
  pub walked : Walked depth start before now
  pub read : read_on f [] before ≡ Ok so_far
  pub count : length before ≡ length so_far

pub ReadOnWalked-none : {X E : Type 0} (f : List X → Data → Result X E) (depth : ℕ) (start : List Token) → ReadOnWalked f depth start [] start
ReadOnWalked-none f depth start = record { before = []; walked = Walked-none depth start; read = read_on-none f []; count = refl }

pub ReadOnWalked-next : {X E : Type 0} (f : List X → Data → Result X E) (depth : ℕ) (start now r : List Token) (so_far : List X) (x : X)
    → ReadOnWalked f depth start so_far now → after_end_array now ≡ None → parse_map (f so_far) (value_at depth now) ≡ Some (Ok x, r) → ReadOnWalked f depth start (so_far ++ x ∷ []) r
ReadOnWalked-next f depth start now r so_far x so going e =
    let d = read_some (f so_far) (value_at depth now) (Ok x) r e in
    record {
      before = so.before ++ d.0 ∷ [];
      walked = Walked-next depth start now r so.before d.0 so.walked going d.1;
      read = read_on-one_more f so.before d.0 so_far (Ok x) so.read d.2;
      count = omega (arith, so.count, length-append so.before (d.0 ∷ []), length-append so_far (x ∷ []));
    }

-- ---- items that are left

abbrev count_of : Option (List Data × List Token) → ℕ
count_of None = 0
count_of (Some p) = length p.0

some_of : (d : Data) (o : Option (List Data × List Token)) (items : List Data) (r : List Token) → parse_map (λ items. d ∷ items) o ≡ Some (items, r) → 0 < length items
some_of d None items r e = absurd cc
some_of d (Some p) items r e = let count : length (d ∷ p.0) ≡ length items = ap count_of e in omega (arith, count)

some_item : (depth : ℕ) (ts r : List Token) (items : List Data) → after_end_array ts ≡ None → items_at depth ts ≡ Some (items, r) → 0 < length items
some_item depth ts r items going e = at (value_at depth ts) refl
  where
    at : (o : Option (Data × List Token)) → value_at depth ts ≡ o → 0 < length items
    at None is = let none = at-no_item depth ts going is in absurd cc
    at (Some p) is = some_of p.0 (items_at depth p.1) items r (sym (at-item depth ts p.1 p.0 going is) ∙ e)

module _ (depth : ℕ) (start now r : List Token) (before : List Data) (walked : Walked depth start before now) (most : ℕ) (fault : CertFault) where
  pub fault-more : after_end_array now ≡ None → left (items_at depth now) ≡ Some r → most ≤ length before → parse_map (fault_unless_more most fault) (items_at depth start) ≡ Some (TooManyNodes, r)
  fault-more going passed full =
      let items = left_some (items_at depth now) r passed in
      let some = some_item depth now r items.0 going items.1 in
      let more : nat_le (length (before ++ items.0)) most ≡ false = grind (arith, nat_tests, length-append before items.0) in
      ap (parse_map (fault_unless_more most fault)) (walked.others ∙ ap (parse_map (λ items. before ++ items)) items.1) ∙ rw more refl

  pub fault-few : after_end_array now ≡ Some r → length before ≤ most → parse_map (fault_unless_more most fault) (items_at depth start) ≡ Some (fault, r)
  fault-few over few =
      let enough : nat_le (length before) most ≡ true = le-leb (length before) most few in
      ap (parse_map (fault_unless_more most fault)) (Walked-end depth start now r before walked over) ∙ rw enough refl

-- ---- the nodes of a goal

-- of the items of the list, where it is one
abbrev counted : LocaleRule → ℕ → ℕ → Option (List Data) → Result (List NodeOf) CertFault
counted rule goal nodes_before items =
    ok_or items (Shape goal 0) >>= λ items. refuse (nat_lt most_nodes (nodes_before + length items)) TooManyNodes >>= λ _. read_on (node_after rule goal) [] items

few : (rule : LocaleRule) (goal nodes_before : ℕ) (items : List Data) → nodes_before + length items ≤ most_nodes → counted rule goal nodes_before (Some items) ≡ read_on (node_after rule goal) [] items
few rule goal nodes_before items enough =
    let test : nat_lt most_nodes (nodes_before + length items) ≡ false = grind (arith, nat_tests) in
    rw test refl

many : (rule : LocaleRule) (goal nodes_before : ℕ) (items : List Data) → most_nodes < nodes_before + length items → counted rule goal nodes_before (Some items) ≡ Err TooManyNodes
many rule goal nodes_before items more =
    let test : nat_lt most_nodes (nodes_before + length items) ≡ true = grind (arith, nat_tests) in
    rw test refl

-- the next node is read by its place
pub node-after : (rule : LocaleRule) (goal place : ℕ) (nodes : List Node) (o : Option (Data × List Token)) (y : Result NodeOf CertFault) (r : List Token)
    → place ≡ length nodes → parse_map (node_in rule (Shape goal place)) o ≡ Some (y, r) → parse_map (node_after rule goal (map node_of nodes)) o ≡ Some (y, r)
node-after rule goal place nodes o y r is e = ap (λ (k : ℕ). parse_map (node_in rule (Shape goal k)) o) (length-map nodes node_of ∙ sym is) ∙ e

pub nodes-no_list : (rule : LocaleRule) (goal nodes_before depth : ℕ) (ts r : List Token) → parse_map list_of (value_at depth ts) ≡ Some (None, r)
    → parse_map (nodes_in rule goal nodes_before) (value_at depth ts) ≡ Some (Err (Shape goal 0), r)
unfolding nodes_in
nodes-no_list rule goal nodes_before depth ts r e = sym (mapped-twice (counted rule goal nodes_before) list_of (value_at depth ts)) ∙ ap (parse_map (counted rule goal nodes_before)) e

-- where the list was entered
module _ (rule : LocaleRule) (goal nodes_before depth inner : ℕ) (ts start : List Token) (entered : parse_map list_of (value_at depth ts) ≡ parse_map {A = List Data} Some (items_at inner start)) where
  read-as : (r : List Token) (items : List Data) (y : Result (List NodeOf) CertFault) → items_at inner start ≡ Some (items, r) → counted rule goal nodes_before (Some items) ≡ y
      → parse_map (nodes_in rule goal nodes_before) (value_at depth ts) ≡ Some (y, r)
  unfolding nodes_in
  read-as r items y e is = list-read (counted rule goal nodes_before) depth inner ts start r items entered e ∙ ap (λ y. Some (y, r)) is

  module _ (now : List Token) (so_far : List NodeOf) (so : ReadOnWalked (node_after rule goal) inner start so_far now) where
    pub nodes-end : (r : List Token) → after_end_array now ≡ Some r → nodes_before + length so_far ≤ most_nodes → parse_map (nodes_in rule goal nodes_before) (value_at depth ts) ≡ Some (Ok so_far, r)
    nodes-end r over enough =
        read-as r so.before (Ok so_far) (Walked-end inner start now r so.before so.walked over)
        (few rule goal nodes_before so.before (omega (arith, enough, so.count)) ∙ so.read)

    -- one node is wrong, and so many can still come
    pub nodes-wrong : (most : ℕ) (s r : List Token) (fault found : CertFault) → after_end_array now ≡ None → parse_map (node_after rule goal so_far) (value_at inner now) ≡ Some (Err fault, s)
        → parse_map (fault_unless_more most fault) (items_at inner s) ≡ Some (found, r) → nodes_before + length so_far + 1 + most ≡ most_nodes
        → parse_map (nodes_in rule goal nodes_before) (value_at depth ts) ≡ Some (Err found, r)
    nodes-wrong most s r fault found going e passed sum =
        let d = read_some (node_after rule goal so_far) (value_at inner now) (Err fault) s e in
        let others = read_some (fault_unless_more most fault) (items_at inner s) found r passed in
        let all = (so.before ++ d.0 ∷ []) ++ others.0 in
        let walked = Walked-next inner start now s so.before d.0 so.walked going d.1 in
        let count : nodes_before + length all ≡ nodes_before + length so_far + 1 + length others.0 =
        omega (arith, so.count, length-append so.before (d.0 ∷ []), length-append (so.before ++ d.0 ∷ []) others.0) in
        let wrong : read_on (node_after rule goal) [] all ≡ Err fault =
        ap (read_on (node_after rule goal) []) (append_assoc so.before (d.0 ∷ []) others.0)
        ∙ read_on-after (node_after rule goal) so.before (d.0 ∷ others.0) so_far so.read
        ∙ read_on-err (node_after rule goal) so_far d.0 others.0 fault d.2 in
        let last : (b : Bool) → nat_le (length others.0) most ≡ b → counted rule goal nodes_before (Some all) ≡ Err (if b then fault else TooManyNodes) = λ b. last-of b all others.0 most fault count wrong sum in
        read-as r all (Err found) (walked.others ∙ ap (parse_map (λ items. (so.before ++ d.0 ∷ []) ++ items)) others.1)
        (last (nat_le (length others.0) most) refl ∙ ap (λ fault. Err fault) others.2)
      where
        last-of : (b : Bool) (all others : List Data) (most : ℕ) (fault : CertFault) → nodes_before + length all ≡ nodes_before + length so_far + 1 + length others → read_on (node_after rule goal) [] all ≡ Err fault
            → nodes_before + length so_far + 1 + most ≡ most_nodes → nat_le (length others) most ≡ b → counted rule goal nodes_before (Some all) ≡ Err (if b then fault else TooManyNodes)
        last-of true all others most fault count wrong sum is =
            let enough : length others ≤ most = grind (arith, nat_tests, is) in
            few rule goal nodes_before all (omega (arith, count, sum, enough)) ∙ wrong
        last-of false all others most fault count wrong sum is =
            let more : most < length others = grind (arith, nat_tests, is) in
            many rule goal nodes_before all (omega (arith, count, sum, more))

    pub nodes-malformed : after_end_array now ≡ None → value_at inner now ≡ None → value_at depth ts ≡ None
    nodes-malformed going e = list-malformed depth inner ts start entered (Walked-malformed inner start now so.before so.walked going e)

    pub nodes-not_passed : (s : List Token) (y : Result NodeOf CertFault) → after_end_array now ≡ None → parse_map (node_after rule goal so_far) (value_at inner now) ≡ Some (y, s) → items_at inner s ≡ None
        → value_at depth ts ≡ None
    nodes-not_passed s y going e none =
        let d = read_some (node_after rule goal so_far) (value_at inner now) y s e in
        list-malformed depth inner ts start entered (Walked-not_passed inner start s (so.before ++ d.0 ∷ []) (Walked-next inner start now s so.before d.0 so.walked going d.1) none)

    -- one node more than there can be
    pub nodes-full : (r : List Token) → after_end_array now ≡ None → left (items_at inner now) ≡ Some r → most_nodes ≤ nodes_before + length so_far
        → parse_map (nodes_in rule goal nodes_before) (value_at depth ts) ≡ Some (Err TooManyNodes, r)
    nodes-full r going passed full =
        let items = left_some (items_at inner now) r passed in
        let some : 0 < length items.0 = some_item inner now r items.0 going items.1 in
        read-as r (so.before ++ items.0) (Err TooManyNodes) (so.walked.others ∙ ap (parse_map (λ items. so.before ++ items)) items.1)
        (many rule goal nodes_before (so.before ++ items.0) (omega (arith, full, some, so.count, length-append so.before items.0)))
