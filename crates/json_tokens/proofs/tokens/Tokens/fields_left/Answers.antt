use Rattle.std.proofs.Common.{◌≡◌, map, length, replicate, Some, None, sym, ap, ◌∙◌, arith}
use Rattle.std.proofs.lemmas.List.{length-map}
use Rattle.json.specs.Json.{parse_map, read_key}
use Rattle.json.proofs.Grammar.{read_key-shorter}
use Rattle.serde_json.specs.Data.{object, no_members, put}
use Rattle.json_tokens.specs.json_input.Shape.{is_among}
use Rattle.json_tokens.specs.Standing.{value_at}
use Rattle.json_tokens.specs.Kind.{kind_of}
use Rattle.json_tokens.specs.Fields.{fields, with_field, slots_seen}
use Rattle.json_tokens.proofs.Standing.{read_some}
use Rattle.json_tokens.proofs.Walked.{WalkedMembers-none, WalkedMembers-next, WalkedMembers-end, WalkedMembers-malformed, WalkedMembers-no_name}
use Rattle.json_tokens.proofs.Members.{only-put, fields-put, no_fields, object-fields, among-none}
use Rattle.json_tokens.proofs.Slots.{seen-none}
use Rattle.json_tokens.proofs.tokens.Tokens.fields_left.Goals as goal

pub members-init : goal.members-init
members-init c =
    let names = map (λ name. name.now) c.args.names.now in
    let same : length c.args.slots.now ≡ length names = simp length-map c.requires in (
      no_members,
      WalkedMembers-none c.args.depth c.args.self.now,
      ap slots_seen c.clear.ensures ∙ seen-none (length c.args.slots.now) ∙ ap (λ n. replicate n None) same ∙ no_fields names,
      among-none names,
      omega (arith, c.clear.auto.slots, c.requires),
      omega arith,
    )

pub returns-in_err-name-clause-value : goal.returns-in_err-name-clause-value
returns-in_err-name-clause-value c =
    let none = WalkedMembers-no_name c.args.depth c.args.self.now c.members.self c.members.invariant.0 c.members.invariant.1 c.in_err-name.ensures in
    grind (arith, none)

pub returns-in_err-only-clause-value : goal.returns-in_err-only-clause-value
returns-in_err-only-clause-value c =
    let l = c.members in
    let name = c.in-Some.name.now in
    let s = c.next_member.new.self in
    let named : read_key l.self ≡ Some (Some name, s) = grind arith in
    let none = WalkedMembers-malformed c.args.depth c.args.self.now l.self s l.invariant.0 name l.invariant.1 named c.in_err-only.ensures.filled in
    grind (arith, none)

pub members-preserved : goal.members-preserved
members-preserved c =
    let names = map (λ name. name.now) c.args.names.now in
    let depth = c.args.depth in
    let start = c.args.self.now in
    let l = c.members in
    let name = c.in-Some.name.now in
    let s = c.next_member.new.self in
    let r = c.field.new.self in
    let found = l.invariant.0 in
    let named : read_key l.self ≡ Some (Some name, s) = grind arith in
    let d = read_some (λ value. with_field names name (kind_of value) (slots_seen l.slots)) (value_at depth s) (slots_seen c.field.new.slots) r c.in_ok-only.ensures.filled in
    let is_known : c.in_ok-only.field-0 ≡ is_among names name = grind arith in (
      put name d.0 found,
      WalkedMembers-next depth start l.self s r found name d.0 l.invariant.1 named d.1,
      sym d.2 ∙ ap (with_field names name (kind_of d.0)) l.invariant.2 ∙ fields-put names name d.0 found,
      only-put names name d.0 found l.only c.in_ok-only.field-0 l.invariant.3 is_known,
      omega (arith, c.field.auto.slots, l.invariant.4),
      omega (arith, l.invariant.5, read_key-shorter l.self (Some name) s named, c.in_ok-only.ensures.shorter),
    )

pub returns-clause-value : goal.returns-clause-value
returns-clause-value c =
    let names = map (λ name. name.now) c.args.names.now in
    let l = c.members in
    let r = c.next_member.new.self in
    let found = l.invariant.0 in
    let over : read_key l.self ≡ Some (None, r) = grind arith in
    ap (parse_map (λ found. fields names (object found))) (WalkedMembers-end c.args.depth c.args.self.now l.self r found l.invariant.1 over)
    ∙ ap (λ o. Some (o, r)) (object-fields names found l.only (slots_seen l.slots) l.invariant.3 l.invariant.2)

pub returns-clause-shorter : goal.returns-clause-shorter
returns-clause-shorter c =
    let l = c.members in
    let over : read_key l.self ≡ Some (None, c.next_member.new.self) = grind arith in
    omega (arith, l.invariant.5, read_key-shorter l.self None c.next_member.new.self over)
