use Rattle.std.proofs.Common.{◌≡◌, ℕ, ◌≤◌, List, [], ◌∷◌, map, length, Some, None, Ok, Err, refl, sym, ap, subst, ◌∙◌, arith}
use Rattle.std.specs.Borrow.{Bor}
use Rattle.std.proofs.lemmas.List.{length-map, map-append}
use Rattle.std.proofs.lemmas.Result.{err_from_is_err_and}
use Rattle.json.specs.Json.{after_end_array}
use Rattle.json.specs.Token.{Token}
use Rattle.json_tokens.specs.Standing.{value_at, items_at}
use Rattle.json_tokens.proofs.EachWalked.{EachWalked-malformed, EachWalked-not_passed, EachWalked-stops, EachWalked-end}
use Rattle.config_box.specs.declared.box_fault.BoxFault.TheVariants.{Shape}
use Rattle.config_box.specs.Written.{TextsOf, text_item}
use Rattle.config_box.proofs.TokenSteps.{KeptWalked, KeptWalked-none, KeptWalked-next, KeptWalked-full, text-is, text-not, texts-read}
use Rattle.config_box.proofs.written.text_items.Goals as goal

abbrev text_of : Bor (List ℕ) → List ℕ
text_of text = text.now

pub items-init : goal.items-init
items-init c = record {
  read = subst (λ (texts : List (Bor (List ℕ))). KeptWalked text_item c.args.depth c.args.tokens.now (map (λ text. text.now) texts) c.args.tokens.now) (sym c.new-texts.ensures.items) (KeptWalked-none text_item c.args.depth c.args.tokens.now);
  shorter = omega arith;
}

pub returns-in_err-kind-clause-value : goal.returns-in_err-kind-clause-value
returns-in_err-kind-clause-value c =
    let l = c.items in
    let going : (after_end_array l.tokens ≡ None) × (c.next_item.new.self ≡ l.tokens) = grind arith in
    let p = err_from_is_err_and c.from_residual.result c.from_residual.ensures.1 in
    rw (p.1, p.2) (λ other.
    (refl, EachWalked-malformed text_item c.args.depth c.args.tokens.now l.tokens l.invariant.read.so_far l.invariant.read.walked going.0 (rw (← going.1) c.in_err-kind.ensures.value)))

pub returns-in_err-pass_items : goal.returns-in_err-pass_items
returns-in_err-pass_items c =
    let depth = c.args.depth in
    let l = c.items in
    let going : (after_end_array l.tokens ≡ None) × (c.next_item.new.self ≡ l.tokens) = grind arith in
    let p = err_from_is_err_and c.from_residual-in_err-pass_items.result c.from_residual-in_err-pass_items.ensures.1 in
    let wrong = text-not (value_at depth l.tokens) c.in_ok-kind.kind c.kind.new.self (rw (← going.1) c.in_ok-kind.ensures.value) c.in_default.not-Text in
    record {
      value = rw (p.1, p.2) (λ other. (
        refl,
        EachWalked-not_passed text_item depth c.args.tokens.now l.tokens c.kind.new.self l.invariant.read.so_far (Err Shape) l.invariant.read.walked going.0 wrong c.in_err-pass_items.ensures.value,
      ));
      shorter = rw p.1 tt;
    }

pub returns-in_default : goal.returns-in_default
returns-in_default c =
    let depth = c.args.depth in
    let start = c.args.tokens.now in
    let l = c.items in
    let r = c.pass_items.new.self in
    let going : (after_end_array l.tokens ≡ None) × (c.next_item.new.self ≡ l.tokens) = grind arith in
    let wrong = text-not (value_at depth l.tokens) c.in_ok-kind.kind c.kind.new.self (rw (← going.1) c.in_ok-kind.ensures.value) c.in_default.not-Text in
    record {
      value = texts-read (items_at depth start) (Err Shape) r
          (EachWalked-stops text_item depth start l.tokens c.kind.new.self r l.invariant.read.so_far Shape l.invariant.read.walked going.0 wrong c.in_ok-pass_items.ensures.value);
      shorter = omega (arith, l.invariant.shorter, c.in_ok-kind.ensures.shorter, c.in_ok-pass_items.ensures.shorter, ap (λ (ts : List Token). length ts) going.1);
    }

pub items-preserved-in-Continue-branch-3 : goal.items-preserved-in-Continue-branch-3
items-preserved-in-Continue-branch-3 c =
    let depth = c.args.depth in
    let start = c.args.tokens.now in
    let l = c.items in
    let r = c.kind.new.self in
    let going : (after_end_array l.tokens ≡ None) × (c.next_item.new.self ≡ l.tokens) = grind arith in
    let read = text-is (value_at depth l.tokens) c.in_ok-kind.kind r (rw (← going.1) c.in_ok-kind.ensures.value) c.in-Text.text c.in-Text.is in
    let few : length (map text_of l.texts.items) ≤ 512 = simp length-map (omega (arith, c.len.ensures, c.if-len-le-MOST_VALUES.true)) in
    record {
      read = subst (λ (texts : List (Bor (List ℕ))). KeptWalked text_item depth start (map text_of texts) r) (sym c.in_ok-push.ensures.items)
          (subst (λ kept. KeptWalked text_item depth start kept r) (sym (map-append text_of l.texts.items (c.in-Text.text ∷ [])))
          (KeptWalked-next text_item depth start l.tokens r (map text_of l.texts.items) c.in-Text.text.now l.invariant.read going.0 read few));
      shorter = omega (arith, l.invariant.shorter, c.in_ok-kind.ensures.shorter, ap (λ (ts : List Token). length ts) going.1);
    }

pub items-preserved : goal.items-preserved
items-preserved c =
    let depth = c.args.depth in
    let start = c.args.tokens.now in
    let l = c.items in
    let r = c.kind.new.self in
    let going : (after_end_array l.tokens ≡ None) × (c.next_item.new.self ≡ l.tokens) = grind arith in
    let read = text-is (value_at depth l.tokens) c.in_ok-kind.kind r (rw (← going.1) c.in_ok-kind.ensures.value) c.in-Text.text c.in-Text.is in
    record {
      read = KeptWalked-full text_item depth start l.tokens r (map text_of l.texts.items) c.in-Text.text.now l.invariant.read going.0 read (simp length-map (omega (arith, c.len.ensures, c.if-len-le-MOST_VALUES.false)));
      shorter = omega (arith, l.invariant.shorter, c.in_ok-kind.ensures.shorter, ap (λ (ts : List Token). length ts) going.1);
    }

pub returns-clause-value : goal.returns-clause-value
returns-clause-value c =
    let l = c.items in
    let r = c.next_item.new.self in
    let so = l.invariant.read in
    let over : after_end_array l.tokens ≡ Some r = grind arith in
    texts-read (items_at c.args.depth c.args.tokens.now) (Ok so.so_far) r (EachWalked-end text_item c.args.depth c.args.tokens.now l.tokens r so.so_far so.walked over)
    ∙ ap (λ kept. Some (Ok (TextsOf kept), r)) (sym so.first)
