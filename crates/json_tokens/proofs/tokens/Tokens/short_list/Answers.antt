use Rattle.std.proofs.Common.{◌≡◌, ◌-◌, ◌<◌, List, [], ◌∷◌, ◌++◌, map, take, length, true, false, nat_le, Some, None, sym, ap, ◌∙◌, arith, le-leb, length-append, length-set}
use Rattle.std.proofs.lemmas.List.{map-append, take_more_set}
use Rattle.json.specs.Json.{parse_map, after_end_array}
use Rattle.serde_json.specs.Data.{Data}
use Rattle.json_tokens.specs.json_input.Each.{list_of}
use Rattle.json_tokens.specs.Standing.{value_at, items_at}
use Rattle.json_tokens.specs.Kind.{kind_of, kind_seen}
use Rattle.json_tokens.specs.ShortList.{Fits, short_list_of}
use Rattle.json_tokens.proofs.Standing.{read_some, list-read, list-malformed}
use Rattle.json_tokens.proofs.Walked.{Walked-next, Walked-end, Walked-malformed, Walked-passed, Walked-not_passed}
use Rattle.json_tokens.proofs.tokens.Tokens.short_list.Goals as goal

pub returns-in_err-pass_items-clause-value : goal.returns-in_err-pass_items-clause-value
returns-in_err-pass_items-clause-value c =
    let rest = c.args.depth - 1 in
    let start = c.enter_list.new.self in
    let l = c.items in
    let entered : parse_map list_of (value_at c.args.depth c.args.self.now) ≡ parse_map {A = List Data} Some (items_at rest start) = grind arith in
    let going : (after_end_array l.self ≡ None) × (c.next_item.new.self ≡ l.self) = grind arith in
    let d = read_some kind_of (value_at rest l.self) (kind_seen c.in_ok-kind.kind) c.kind.new.self (rw (← going.1) c.in_ok-kind.ensures.value) in
    let walked = Walked-next rest start l.self c.kind.new.self l.invariant.0 d.0 l.invariant.1 going.0 d.1 in
    let none = list-malformed c.args.depth rest c.args.self.now start entered (Walked-not_passed rest start c.kind.new.self (l.invariant.0 ++ d.0 ∷ []) walked c.in_err-pass_items.ensures.value) in
    grind (arith, none)

pub returns-then-count-kinds-clause-value : goal.returns-then-count-kinds-clause-value
returns-then-count-kinds-clause-value c =
    let rest = c.args.depth - 1 in
    let start = c.enter_list.new.self in
    let l = c.items in
    let most = length c.args.kinds.now in
    let entered : parse_map list_of (value_at c.args.depth c.args.self.now) ≡ parse_map {A = List Data} Some (items_at rest start) = grind arith in
    let going : (after_end_array l.self ≡ None) × (c.next_item.new.self ≡ l.self) = grind arith in
    let d = read_some kind_of (value_at rest l.self) (kind_seen c.in_ok-kind.kind) c.kind.new.self (rw (← going.1) c.in_ok-kind.ensures.value) in
    let walked = Walked-next rest start l.self c.kind.new.self l.invariant.0 d.0 l.invariant.1 going.0 d.1 in
    let others = Walked-passed rest start c.kind.new.self c.pass_items.new.self (l.invariant.0 ++ d.0 ∷ []) walked c.in_ok-pass_items.ensures.value in
    let all = (l.invariant.0 ++ d.0 ∷ []) ++ others.0 in
    let count = length-append l.invariant.0 (d.0 ∷ []) in
    let more : nat_le (length all) most ≡ false = grind (arith, count, length-append (l.invariant.0 ++ d.0 ∷ []) others.0, l.invariant.3, l.invariant.4) in
    list-read (short_list_of most) c.args.depth rest c.args.self.now start c.pass_items.new.self all entered others.1 ∙ rw more

pub returns-in_err-kind-clause-value : goal.returns-in_err-kind-clause-value
returns-in_err-kind-clause-value c =
    let rest = c.args.depth - 1 in
    let start = c.enter_list.new.self in
    let l = c.items in
    let entered : parse_map list_of (value_at c.args.depth c.args.self.now) ≡ parse_map {A = List Data} Some (items_at rest start) = grind arith in
    let going : (after_end_array l.self ≡ None) × (c.next_item.new.self ≡ l.self) = grind arith in
    let none = list-malformed c.args.depth rest c.args.self.now start entered (Walked-malformed rest start l.self l.invariant.0 l.invariant.1 going.0 (rw (← going.1) c.in_err-kind.ensures.value)) in
    grind (arith, none)

pub items-preserved : goal.items-preserved
items-preserved c =
    let rest = c.args.depth - 1 in
    let start = c.enter_list.new.self in
    let l = c.items in
    let going : (after_end_array l.self ≡ None) × (c.next_item.new.self ≡ l.self) = grind arith in
    let r = c.kind.new.self in
    let d = read_some kind_of (value_at rest l.self) (kind_seen c.in_ok-kind.kind) r (rw (← going.1) c.in_ok-kind.ensures.value) in
    let walked = Walked-next rest start l.self r l.invariant.0 d.0 l.invariant.1 going.0 d.1 in
    let kind = c.in_ok-kind.kind in
    let room : l.count < length l.kinds = grind (arith, l.invariant.4) in (
      l.invariant.0 ++ d.0 ∷ [],
      walked,
      map-append kind_of l.invariant.0 (d.0 ∷ [])
          ∙ ap (λ ks. ks ++ kind_of d.0 ∷ []) l.invariant.2
          ∙ ap (λ k. map kind_seen (take l.count l.kinds) ++ k ∷ []) d.2
          ∙ sym (map-append kind_seen (take l.count l.kinds) (kind ∷ []))
          ∙ ap (map kind_seen) (sym (take_more_set l.kinds l.count kind room)),
      omega (arith, length-append l.invariant.0 (d.0 ∷ []), l.invariant.3),
      grind (arith, room, length-set l.kinds l.count kind),
      grind (arith, l.invariant.5, going.1, c.in_ok-kind.ensures.shorter),
    )

pub returns-clause-value : goal.returns-clause-value
returns-clause-value c =
    let rest = c.args.depth - 1 in
    let start = c.enter_list.new.self in
    let l = c.items in
    let most = length c.args.kinds.now in
    let entered : parse_map list_of (value_at c.args.depth c.args.self.now) ≡ parse_map {A = List Data} Some (items_at rest start) = grind arith in
    let r = c.next_item.new.self in
    let over : after_end_array l.self ≡ Some r = grind arith in
    let few : nat_le (length l.invariant.0) most ≡ true = le-leb (length l.invariant.0) most (grind (arith, l.invariant.3, l.invariant.4)) in
    list-read (short_list_of most) c.args.depth rest c.args.self.now start r l.invariant.0 entered (Walked-end rest start l.self r l.invariant.0 l.invariant.1 over) ∙ rw few (ap (λ ks. Some (Fits ks, r)) l.invariant.2)
