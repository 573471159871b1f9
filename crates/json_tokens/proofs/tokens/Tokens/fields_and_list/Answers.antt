use Rattle.std.proofs.Common.{◌≡◌, ◌-◌, ◌∷◌, map, length, replicate, false, true, bytes_eq, Some, None, option_map, refl, sym, ap, subst, ◌∙◌, arith}
use Rattle.std.proofs.lemmas.List.{length-map}
use Rattle.std.proofs.lemmas.Slice.Eq.{bytes_eq-Decides}
use Rattle.json.specs.Json.{parse_map, read_key}
use Rattle.json.proofs.Grammar.{read_key-shorter}
use Rattle.serde_json.specs.Data.{object, no_members, put}
use Rattle.serde_json.specs.Find.{get_member, as_object}
use Rattle.serde_json.proofs.Views.{get_member-put}
use Rattle.json_tokens.specs.json_input.Shape.{is_among}
use Rattle.json_tokens.specs.Standing.{value_at, members_at}
use Rattle.json_tokens.specs.Kind.{kind_of}
use Rattle.json_tokens.specs.ShortList.{HasRoom, HasRoomIf, short_list, short_list_seen}
use Rattle.json_tokens.specs.Fields.{fields_and_list, with_field, slots_seen}
use Rattle.json_tokens.proofs.Standing.{read_some, object-read, object-malformed}
use Rattle.json_tokens.proofs.Walked.{WalkedMembers-none, WalkedMembers-next, WalkedMembers-end, WalkedMembers-malformed, WalkedMembers-no_name}
use Rattle.json_tokens.proofs.Members.{fields-put, fields-other, only-list, only-other, list-other, no_fields, among-none, object-fields_and_list, other-fields_and_list}
use Rattle.json_tokens.proofs.Slots.{seen-none}
use Rattle.json_tokens.proofs.tokens.Tokens.fields_and_list.Goals as goal

pub returns-then-not-branch-clause-value : goal.returns-then-not-branch-clause-value
returns-then-not-branch-clause-value c =
    let names = map (λ name. name.now) c.args.names.now in
    let most = length c.args.kinds.now in
    let r = c.enter_object.new.self in
    let other : parse_map as_object (value_at c.args.depth c.args.self.now) ≡ Some (None, r) = grind arith in
    let d = read_some as_object (value_at c.args.depth c.args.self.now) None r other in
    ap (parse_map (fields_and_list names c.args.list_name.now most)) d.1 ∙ ap (λ o. Some (o, r)) (other-fields_and_list names c.args.list_name.now most d.0 d.2)

pub members-init : goal.members-init
members-init c =
    let names = map (λ name. name.now) c.args.names.now in
    let same : length c.args.slots.now ≡ length names = simp length-map c.requires.slots in (
      no_members,
      WalkedMembers-none (c.args.depth - 1) c.enter_object.new.self,
      ap slots_seen c.clear.ensures ∙ seen-none (length c.args.slots.now) ∙ ap (λ n. replicate n None) same ∙ no_fields names,
      among-none (c.args.list_name.now ∷ names),
      refl,
      omega (arith, c.clear.auto.slots, c.requires.slots),
      omega arith,
      tt,
    )

pub returns-in_err-name-clause-value : goal.returns-in_err-name-clause-value
returns-in_err-name-clause-value c =
    let inner = c.args.depth - 1 in
    let start = c.enter_object.new.self in
    let l = c.members in
    let entered : value_at c.args.depth c.args.self.now ≡ parse_map object (members_at inner no_members start) = grind arith in
    let none = object-malformed c.args.depth inner c.args.self.now start entered (WalkedMembers-no_name inner start l.self l.invariant.0 l.invariant.1 c.in_err-name.ensures) in
    grind (arith, none)

pub returns-in_err-short_list-clause-value : goal.returns-in_err-short_list-clause-value
returns-in_err-short_list-clause-value c =
    let inner = c.args.depth - 1 in
    let start = c.enter_object.new.self in
    let l = c.members in
    let name = c.in-Some.name.now in
    let s = c.next_member.new.self in
    let named : read_key l.self ≡ Some (Some name, s) = grind arith in
    let entered : value_at c.args.depth c.args.self.now ≡ parse_map object (members_at inner no_members start) = grind arith in
    let none = object-malformed c.args.depth inner c.args.self.now start entered (WalkedMembers-malformed inner start l.self s l.invariant.0 name l.invariant.1 named c.in_err-short_list.ensures.value) in
    grind (arith, none)

pub members-preserved-then-eq : goal.members-preserved-then-eq
members-preserved-then-eq c =
    let names = map (λ name. name.now) c.args.names.now in
    let list_name = c.args.list_name.now in
    let inner = c.args.depth - 1 in
    let start = c.enter_object.new.self in
    let l = c.members in
    let name = c.in-Some.name.now in
    let s = c.next_member.new.self in
    let r = c.short_list.new.self in
    let found = l.invariant.0 in
    let most = length l.kinds in
    let same : name ≡ list_name = (bytes_eq-Decides name list_name).0 (sym c.if-eq.ensures) in
    let first : read_key l.self ≡ Some (Some name, s) = grind arith in
    let named : read_key l.self ≡ Some (Some list_name, s) = first ∙ ap (λ n. Some (Some n, s)) same in
    let list = short_list_seen c.short_list.new.kinds c.in_ok-short_list.field-0 in
    let d = read_some (short_list most) (value_at inner s) list r c.in_ok-short_list.ensures.value in (
      put list_name d.0 found,
      WalkedMembers-next inner start l.self s r found list_name d.0 l.invariant.1 named d.1,
      l.invariant.2 ∙ fields-other names list_name d.0 found c.requires.other_name,
      only-list names list_name d.0 found l.only l.invariant.3,
      ap (λ found. Some found) (sym d.2)
          ∙ ap (λ n. Some (short_list n d.0)) (sym c.short_list.auto.kinds)
          ∙ ap (option_map (short_list (length c.short_list.new.kinds))) (sym (get_member-put list_name d.0 found)),
      l.invariant.5,
      omega (arith, l.invariant.6, read_key-shorter l.self (Some list_name) s named, c.in_ok-short_list.ensures.shorter),
      subst (λ n. HasRoom n c.in_ok-short_list.field-0) (sym c.short_list.auto.kinds) c.in_ok-short_list.ensures.room,
    )

pub returns-in_err-only-clause-value : goal.returns-in_err-only-clause-value
returns-in_err-only-clause-value c =
    let inner = c.args.depth - 1 in
    let start = c.enter_object.new.self in
    let l = c.members in
    let name = c.in-Some.name.now in
    let s = c.next_member.new.self in
    let named : read_key l.self ≡ Some (Some name, s) = grind arith in
    let entered : value_at c.args.depth c.args.self.now ≡ parse_map object (members_at inner no_members start) = grind arith in
    let none = object-malformed c.args.depth inner c.args.self.now start entered (WalkedMembers-malformed inner start l.self s l.invariant.0 name l.invariant.1 named c.in_err-only.ensures.filled) in
    grind (arith, none)

pub members-preserved : goal.members-preserved
members-preserved c =
    let names = map (λ name. name.now) c.args.names.now in
    let list_name = c.args.list_name.now in
    let inner = c.args.depth - 1 in
    let start = c.enter_object.new.self in
    let l = c.members in
    let name = c.in-Some.name.now in
    let s = c.next_member.new.self in
    let r = c.field.new.self in
    let found = l.invariant.0 in
    let other : bytes_eq name list_name ≡ false = sym c.if-eq.ensures in
    let named : read_key l.self ≡ Some (Some name, s) = grind arith in
    let d = read_some (λ value. with_field names name (kind_of value) (slots_seen l.slots)) (value_at inner s) (slots_seen c.field.new.slots) r c.in_ok-only.ensures.filled in
    let is_known : c.in_ok-only.field-0 ≡ is_among names name = grind arith in (
      put name d.0 found,
      WalkedMembers-next inner start l.self s r found name d.0 l.invariant.1 named d.1,
      sym d.2 ∙ ap (with_field names name (kind_of d.0)) l.invariant.2 ∙ fields-put names name d.0 found,
      only-other names list_name name d.0 found l.only c.in_ok-only.field-0 other l.invariant.3 is_known,
      l.invariant.4 ∙ ap (option_map (short_list (length l.kinds))) (sym (list-other list_name name d.0 found other)),
      omega (arith, c.field.auto.slots, l.invariant.5),
      omega (arith, l.invariant.6, read_key-shorter l.self (Some name) s named, c.in_ok-only.ensures.shorter),
      l.invariant.7,
    )

pub returns-then-not-only-clause-value : goal.returns-then-not-only-clause-value
returns-then-not-only-clause-value c =
    let names = map (λ name. name.now) c.args.names.now in
    let list_name = c.args.list_name.now in
    let inner = c.args.depth - 1 in
    let start = c.enter_object.new.self in
    let l = c.members in
    let r = c.next_member.new.self in
    let found = l.invariant.0 in
    let most = length c.args.kinds.now in
    let over : read_key l.self ≡ Some (None, r) = grind arith in
    let entered : value_at c.args.depth c.args.self.now ≡ parse_map object (members_at inner no_members start) = grind arith in
    let list = l.invariant.4 ∙ ap (λ n. option_map (short_list n) (get_member list_name found)) c.members.auto.kinds in
    object-read (fields_and_list names list_name most) c.args.depth inner c.args.self.now start r found entered (WalkedMembers-end inner start l.self r found l.invariant.1 over)
    ∙ ap (λ o. Some (o, r)) (object-fields_and_list names list_name most found false (slots_seen l.slots) (option_map (short_list_seen l.kinds) l.list) (sym c.if-not-only.true ∙ l.invariant.3) l.invariant.2 list)

pub returns-clause-value : goal.returns-clause-value
returns-clause-value c =
    let names = map (λ name. name.now) c.args.names.now in
    let list_name = c.args.list_name.now in
    let inner = c.args.depth - 1 in
    let start = c.enter_object.new.self in
    let l = c.members in
    let r = c.next_member.new.self in
    let found = l.invariant.0 in
    let most = length c.args.kinds.now in
    let over : read_key l.self ≡ Some (None, r) = grind arith in
    let entered : value_at c.args.depth c.args.self.now ≡ parse_map object (members_at inner no_members start) = grind arith in
    let list = l.invariant.4 ∙ ap (λ n. option_map (short_list n) (get_member list_name found)) c.members.auto.kinds in
    object-read (fields_and_list names list_name most) c.args.depth inner c.args.self.now start r found entered (WalkedMembers-end inner start l.self r found l.invariant.1 over)
    ∙ ap (λ o. Some (o, r)) (object-fields_and_list names list_name most found true (slots_seen l.slots) (option_map (short_list_seen l.kinds) l.list) (sym c.if-not-only.false ∙ l.invariant.3) l.invariant.2 list)

pub returns-clause-room : goal.returns-clause-room
returns-clause-room c = subst (λ n. HasRoomIf n c.members.list) c.members.auto.kinds c.members.invariant.7
