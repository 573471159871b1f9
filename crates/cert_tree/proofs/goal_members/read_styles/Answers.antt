use Rattle.std.proofs.Common.{◌≡◌, ◌-◌, List, length, Some, None, Ok, sym, ap, subst, ◌∙◌, arith}
use Rattle.std.proofs.lemmas.List.{length_push}
use Rattle.json.specs.Json.{parse_map, after_end_array}
use Rattle.serde_json.specs.Data.{Data}
use Rattle.json_input.specs.Each.{list_of}
use Rattle.json_tokens.specs.Standing.{value_at, items_at}
use Rattle.json_tokens.proofs.EachWalked.{EachWalked, EachWalked-none, EachWalked-next}
use Rattle.res_value.specs.declared.res_id.ResId.{ResId}
use Rattle.res_value.specs.Goal.{most_styles}
use Rattle.cert_tree.specs.CertJson.{id_item}
use Rattle.cert_tree.proofs.StylesSteps.{styles-end, styles-no_id, styles-many, styles-malformed, styles-not_passed, styles-no_list}
use Rattle.cert_tree.proofs.goal_members.read_styles.Goals as goal

pub returns-then-not-branch-clause-value : goal.returns-then-not-branch-clause-value
returns-then-not-branch-clause-value c = styles-no_list c.args.shape c.args.depth c.args.tokens.now c.enter_list.new.self (grind arith)

pub styles-init : goal.styles-init
styles-init c = (
  subst (λ (ids : List ResId). EachWalked (id_item c.args.shape) (c.args.depth - 1) c.enter_list.new.self ids c.enter_list.new.self) (sym c.new-ids.ensures.items)
      (EachWalked-none (id_item c.args.shape) (c.args.depth - 1) c.enter_list.new.self),
  grind (arith, c.new-ids.ensures.items),
  omega arith,
)

pub returns-in_err-id-clause-value : goal.returns-in_err-id-clause-value
returns-in_err-id-clause-value c =
    let inner = c.args.depth - 1 in
    let start = c.enter_list.new.self in
    let l = c.styles in
    let entered : parse_map list_of (value_at c.args.depth c.args.tokens.now) ≡ parse_map {A = List Data} Some (items_at inner start) = grind arith in
    let going : (after_end_array l.tokens ≡ None) × (c.next_item.new.self ≡ l.tokens) = grind arith in
    let none = styles-malformed c.args.shape c.args.depth inner c.args.tokens.now start l.tokens l.ids.items entered l.invariant.0 going.0 (rw (← going.1) c.in_err-id.ensures.value) in
    grind (arith, none)

pub returns-in_err-pass_items-clause-value : goal.returns-in_err-pass_items-clause-value
returns-in_err-pass_items-clause-value c =
    let inner = c.args.depth - 1 in
    let start = c.enter_list.new.self in
    let l = c.styles in
    let entered : parse_map list_of (value_at c.args.depth c.args.tokens.now) ≡ parse_map {A = List Data} Some (items_at inner start) = grind arith in
    let going : (after_end_array l.tokens ≡ None) × (c.next_item.new.self ≡ l.tokens) = grind arith in
    let none = styles-not_passed c.args.shape c.args.depth inner c.args.tokens.now start l.tokens c.read_id.new.tokens l.ids.items c.in_ok-id.id entered l.invariant.0 going.0 (rw (← going.1) c.in_ok-id.ensures.value) c.in_err-pass_items.ensures.value in
    grind (arith, none)

pub returns-in_default-clause-value : goal.returns-in_default-clause-value
returns-in_default-clause-value c =
    let inner = c.args.depth - 1 in
    let start = c.enter_list.new.self in
    let l = c.styles in
    let entered : parse_map list_of (value_at c.args.depth c.args.tokens.now) ≡ parse_map {A = List Data} Some (items_at inner start) = grind arith in
    let going : (after_end_array l.tokens ≡ None) × (c.next_item.new.self ≡ l.tokens) = grind arith in
    styles-no_id c.args.shape c.args.depth inner c.args.tokens.now start l.tokens c.read_id.new.tokens c.pass_items.new.self l.ids.items c.in_default.field-0 entered l.invariant.0 going.0 (rw (← going.1) (c.in_ok-id.ensures.value ∙ ap (λ id. Some (id, c.read_id.new.tokens)) c.in_default.is)) c.in_ok-pass_items.ensures.value

pub returns-in_err-pass_items-2-clause-value : goal.returns-in_err-pass_items-2-clause-value
returns-in_err-pass_items-2-clause-value c =
    let inner = c.args.depth - 1 in
    let start = c.enter_list.new.self in
    let l = c.styles in
    let entered : parse_map list_of (value_at c.args.depth c.args.tokens.now) ≡ parse_map {A = List Data} Some (items_at inner start) = grind arith in
    let going : (after_end_array l.tokens ≡ None) × (c.next_item.new.self ≡ l.tokens) = grind arith in
    let none = styles-not_passed c.args.shape c.args.depth inner c.args.tokens.now start l.tokens c.read_id.new.tokens l.ids.items c.in_ok-id.id entered l.invariant.0 going.0 (rw (← going.1) c.in_ok-id.ensures.value) c.in_err-pass_items-2.ensures.value in
    grind (arith, none)

pub returns-then-len-eq-MOST_STYLES-clause-value : goal.returns-then-len-eq-MOST_STYLES-clause-value
returns-then-len-eq-MOST_STYLES-clause-value c =
    let inner = c.args.depth - 1 in
    let start = c.enter_list.new.self in
    let l = c.styles in
    let entered : parse_map list_of (value_at c.args.depth c.args.tokens.now) ≡ parse_map {A = List Data} Some (items_at inner start) = grind arith in
    let going : (after_end_array l.tokens ≡ None) × (c.next_item.new.self ≡ l.tokens) = grind arith in
    let full : length l.ids.items ≡ most_styles = omega arith in
    styles-many c.args.shape c.args.depth inner c.args.tokens.now start l.tokens c.read_id.new.tokens c.pass_items-then-len-eq-MOST_STYLES.new.self l.ids.items c.in_ok-id.id entered l.invariant.0 full going.0 (rw (← going.1) c.in_ok-id.ensures.value) c.in_ok-pass_items-2.ensures.value

pub styles-preserved : goal.styles-preserved
styles-preserved c =
    let inner = c.args.depth - 1 in
    let start = c.enter_list.new.self in
    let l = c.styles in
    let r = c.read_id.new.tokens in
    let id = c.in-Ok.id in
    let going : (after_end_array l.tokens ≡ None) × (c.next_item.new.self ≡ l.tokens) = grind arith in
    let read : parse_map (id_item c.args.shape) (value_at inner l.tokens) ≡ Some (Ok id, r) = rw (← going.1) (c.in_ok-id.ensures.value ∙ ap (λ id. Some (id, r)) c.in-Ok.is) in
    let next = EachWalked-next (id_item c.args.shape) inner start l.tokens r l.ids.items id l.invariant.0 going.0 read in (
      subst (λ (ids : List ResId). EachWalked (id_item c.args.shape) inner start ids r) (sym c.in_ok-push.ensures.items) next,
      grind (arith, c.in_ok-push.ensures.items, length_push l.ids.items id, l.invariant.1),
      grind (arith, going.1, l.invariant.2, c.in_ok-id.ensures.shorter),
    )

pub returns-clause-value : goal.returns-clause-value
returns-clause-value c =
    let inner = c.args.depth - 1 in
    let start = c.enter_list.new.self in
    let l = c.styles in
    let entered : parse_map list_of (value_at c.args.depth c.args.tokens.now) ≡ parse_map {A = List Data} Some (items_at inner start) = grind arith in
    styles-end c.args.shape c.args.depth inner c.args.tokens.now start l.tokens c.next_item.new.self l.ids.items entered l.invariant.0 l.invariant.1 (grind arith)
