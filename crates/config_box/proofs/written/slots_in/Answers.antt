use Rattle.std.proofs.Common.{◌≡◌, ◌-◌, List, map, length, false, Some, None, refl, sym, ap, ◌∙◌, arith}
use Rattle.std.proofs.lemmas.List.{length-map}
use Rattle.std.proofs.lemmas.Result.{err_from_is_err_and}
use Rattle.json.specs.Json.{parse_map, read_key}
use Rattle.json.proofs.Grammar.{left_some}
use Rattle.serde_json.specs.Data.{object, no_members, put}
use Rattle.serde_json.specs.Find.{as_object}
use Rattle.json_input.specs.Shape.{is_among}
use Rattle.json_tokens.specs.Standing.{value_at, members_at}
use Rattle.json_tokens.proofs.Standing.{read_some, object-read, object-malformed}
use Rattle.json_tokens.proofs.Walked.{WalkedMembers-none, WalkedMembers-next, WalkedMembers-end, WalkedMembers-malformed, WalkedMembers-no_name}
use Rattle.json_tokens.proofs.Members.{not_object, among-none}
use Rattle.box_answers.specs.config_record.declared.coord.Coord.{Coord}
use Rattle.box_answers.specs.config_record.Coord.{all_coords, name_of}
use Rattle.box_answers.proofs.Coords.{all_coords-count}
use Rattle.config_box.specs.declared.written.Slot.{Slot}
use Rattle.config_box.specs.Kept.{kept_at, kept_in}
use Rattle.config_box.specs.BoxSeen.{read_seen, slot_seen}
use Rattle.config_box.proofs.SlotSteps.{slots-put, slots-other, coords-put, slots-kept, others-kept, not_object-kept, only-known, only-other}
use Rattle.config_box.proofs.written.slots_in.Goals as goal

pub returns-then-not-branch-clause-value : goal.returns-then-not-branch-clause-value
returns-then-not-branch-clause-value c =
    let r = c.enter_object.new.self in
    let other : parse_map as_object (value_at c.args.depth c.args.tokens.now) ≡ Some (None, r) = grind arith in
    let d = read_some as_object (value_at c.args.depth c.args.tokens.now) None r other in
    ap (parse_map kept_in) d.1 ∙ ap (λ y. Some (y, r)) (not_object-kept d.0 (not_object (map name_of all_coords) d.0 d.2))

pub members-init : goal.members-init
unfolding all_coords
members-init c = record {
  found = no_members;
  walked = WalkedMembers-none (c.args.depth - 1) c.enter_object.new.self;
  seen = c.in_ok-slots.ensures.seen;
  coords = c.in_ok-slots.ensures.coords;
  only = among-none (map name_of all_coords);
}

pub returns-in_err-name-clause-value : goal.returns-in_err-name-clause-value
returns-in_err-name-clause-value c =
    let inner = c.args.depth - 1 in
    let start = c.enter_object.new.self in
    let l = c.members in
    let entered : value_at c.args.depth c.args.tokens.now ≡ parse_map object (members_at inner no_members start) = grind arith in
    let none = object-malformed c.args.depth inner c.args.tokens.now start entered (WalkedMembers-no_name inner start l.tokens l.invariant.found l.invariant.walked c.in_err-name.ensures) in
    let p = err_from_is_err_and c.from_residual-in_err-name.result c.from_residual-in_err-name.ensures.1 in
    rw (p.1, p.2) (λ other. (refl, none))

pub returns-in_err-written-in-Some-coord_named-clause-value : goal.returns-in_err-written-in-Some-coord_named-clause-value
returns-in_err-written-in-Some-coord_named-clause-value c =
    let inner = c.args.depth - 1 in
    let start = c.enter_object.new.self in
    let l = c.members in
    let name = c.in-Some.name.now in
    let s = c.next_member.new.self in
    let named : read_key l.tokens ≡ Some (Some name, s) = grind arith in
    let entered : value_at c.args.depth c.args.tokens.now ≡ parse_map object (members_at inner no_members start) = grind arith in
    let p = err_from_is_err_and c.from_residual-in_err-written-in-Some-coord_named.result c.from_residual-in_err-written-in-Some-coord_named.ensures.1 in
    rw (p.1, p.2) (λ other.
    let q = c.in_err-written-in-Some-coord_named.ensures.value other in
    (q.0, object-malformed c.args.depth inner c.args.tokens.now start entered (WalkedMembers-malformed inner start l.tokens s l.invariant.found name l.invariant.walked named q.1)))

pub put-requires : goal.put-requires
put-requires c =
    let count = ap (λ (cs : List Coord). length cs) c.members.invariant.coords ∙ all_coords-count in
    simp length-map at count

pub members-preserved-in-Some-coord_named : goal.members-preserved-in-Some-coord_named
members-preserved-in-Some-coord_named c =
    let inner = c.args.depth - 1 in
    let start = c.enter_object.new.self in
    let l = c.members in
    let name = c.in-Some.name.now in
    let s = c.next_member.new.self in
    let r = c.value_at.new.tokens in
    let found = l.invariant.found in
    let coord = c.in-Some-coord_named.coord in
    let written = c.in_ok-written-in-Some-coord_named.written in
    let named : read_key l.tokens ≡ Some (Some name, s) = grind arith in
    let is : name_of coord ≡ name = c.in-Some-coord_named.ensures in
    let d = read_some (kept_at coord) (value_at inner s) (read_seen written) r c.in_ok-written-in-Some-coord_named.ensures.value in
    record {
      found = put name d.0 found;
      walked = WalkedMembers-next inner start l.tokens s r found name d.0 l.invariant.walked named d.1;
      seen = ap (map slot_seen) c.put.ensures ∙ slots-put coord name d.0 found l.slots.items written is d.2 l.invariant.seen;
      coords = ap (map (λ (slot : Slot). slot.coord)) c.put.ensures ∙ coords-put coord l.slots.items written l.invariant.coords;
      only = only-known coord name d.0 found l.only is l.invariant.only;
    }

pub returns-in_err-pass-in-None-clause-value : goal.returns-in_err-pass-in-None-clause-value
returns-in_err-pass-in-None-clause-value c =
    let inner = c.args.depth - 1 in
    let start = c.enter_object.new.self in
    let l = c.members in
    let name = c.in-Some.name.now in
    let s = c.next_member.new.self in
    let named : read_key l.tokens ≡ Some (Some name, s) = grind arith in
    let entered : value_at c.args.depth c.args.tokens.now ≡ parse_map object (members_at inner no_members start) = grind arith in
    let none = object-malformed c.args.depth inner c.args.tokens.now start entered (WalkedMembers-malformed inner start l.tokens s l.invariant.found name l.invariant.walked named c.in_err-pass-in-None.ensures.value) in
    let p = err_from_is_err_and c.from_residual-in_err-pass-in-None.result c.from_residual-in_err-pass-in-None.ensures.1 in
    rw (p.1, p.2) (λ other. (refl, none))

pub members-preserved : goal.members-preserved
members-preserved c =
    let inner = c.args.depth - 1 in
    let start = c.enter_object.new.self in
    let l = c.members in
    let name = c.in-Some.name.now in
    let s = c.next_member.new.self in
    let r = c.pass.new.self in
    let found = l.invariant.found in
    let named : read_key l.tokens ≡ Some (Some name, s) = grind arith in
    let none : is_among (map name_of all_coords) name ≡ false = c.in-None.ensures in
    let d = left_some (value_at inner s) r c.in_ok-pass-in-None.ensures.value in
    record {
      found = put name d.0 found;
      walked = WalkedMembers-next inner start l.tokens s r found name d.0 l.invariant.walked named d.1;
      seen = l.invariant.seen ∙ slots-other all_coords name d.0 found none;
      coords = l.invariant.coords;
      only = only-other name d.0 found l.only none l.invariant.only;
    }

pub returns-then-not-only-clause-value : goal.returns-then-not-only-clause-value
returns-then-not-only-clause-value c =
    let inner = c.args.depth - 1 in
    let start = c.enter_object.new.self in
    let l = c.members in
    let r = c.next_member.new.self in
    let over : read_key l.tokens ≡ Some (None, r) = grind arith in
    let entered : value_at c.args.depth c.args.tokens.now ≡ parse_map object (members_at inner no_members start) = grind arith in
    object-read kept_in c.args.depth inner c.args.tokens.now start r l.invariant.found entered (WalkedMembers-end inner start l.tokens r l.invariant.found l.invariant.walked over)
    ∙ ap (λ y. Some (y, r)) (others-kept l.invariant.found (sym l.invariant.only ∙ c.if-not-only.true))

pub returns-clause-value : goal.returns-clause-value
returns-clause-value c =
    let inner = c.args.depth - 1 in
    let start = c.enter_object.new.self in
    let l = c.members in
    let r = c.next_member.new.self in
    let over : read_key l.tokens ≡ Some (None, r) = grind arith in
    let entered : value_at c.args.depth c.args.tokens.now ≡ parse_map object (members_at inner no_members start) = grind arith in
    object-read kept_in c.args.depth inner c.args.tokens.now start r l.invariant.found entered (WalkedMembers-end inner start l.tokens r l.invariant.found l.invariant.walked over)
    ∙ ap (λ y. Some (y, r)) (slots-kept l.invariant.found l.slots.items (sym l.invariant.only ∙ c.if-not-only.false) l.invariant.seen)
