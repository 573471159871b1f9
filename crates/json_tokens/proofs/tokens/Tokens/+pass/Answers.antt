use Rattle.std.proofs.Common.{◌≡◌, ◌<◌, [], ◌∷◌, ◌++◌, length, Some, None, ap, arith}
use Rattle.json.specs.Json.{after_end_array, read_key}
use Rattle.json.proofs.Grammar.{left, left_some, read_key-shorter}
use Rattle.serde_json.specs.Data.{no_members, put}
use Rattle.json_tokens.specs.Standing.{value_at}
use Rattle.json_tokens.proofs.Walked.{Walked-none, Walked-next, Walked-end, Walked-malformed, WalkedMembers-none, WalkedMembers-next, WalkedMembers-end, WalkedMembers-malformed, WalkedMembers-no_name}
use Rattle.json_tokens.proofs.tokens.Tokens.+pass.Goals as goal

pub pass_items-items-init : goal.pass_items-items-init
pass_items-items-init t c = ([], Walked-none c.args.depth c.args.self.now, omega arith)

pub pass_items-items-preserved : goal.pass_items-items-preserved
pass_items-items-preserved t c =
    let l = c.items in
    let r = c.pass.new.self in
    let going : (after_end_array l.self ≡ None) × (c.next_item.new.self ≡ l.self) = grind arith in
    let less : length r < length l.self = rw (← going.1) c.in_ok-pass.ensures.shorter in
    let d = left_some (value_at c.args.depth l.self) r (rw (← going.1) c.in_ok-pass.ensures.value) in
    (l.invariant.0 ++ d.0 ∷ [], Walked-next c.args.depth c.args.self.now l.self r l.invariant.0 d.0 l.invariant.1 going.0 d.1, omega (arith, l.invariant.2, less))

pub pass_items-returns-in_err-pass-clause-value : goal.pass_items-returns-in_err-pass-clause-value
pass_items-returns-in_err-pass-clause-value t c =
    let l = c.items in
    let going : (after_end_array l.self ≡ None) × (c.next_item.new.self ≡ l.self) = grind arith in
    let none = Walked-malformed c.args.depth c.args.self.now l.self l.invariant.0 l.invariant.1 going.0 (rw (← going.1) c.in_err-pass.ensures.value) in
    grind (arith, none)

pub pass_items-returns-clause-value : goal.pass_items-returns-clause-value
pass_items-returns-clause-value t c =
    let l = c.items in
    ap left (Walked-end c.args.depth c.args.self.now l.self c.next_item.new.self l.invariant.0 l.invariant.1 (grind arith))

pub pass_members-members-init : goal.pass_members-members-init
pass_members-members-init t c = (no_members, WalkedMembers-none c.args.depth c.args.self.now, omega arith)

pub pass_members-returns-in_err-next_member-clause-value : goal.pass_members-returns-in_err-next_member-clause-value
pass_members-returns-in_err-next_member-clause-value t c =
    let l = c.members in
    let none = WalkedMembers-no_name c.args.depth c.args.self.now l.self l.invariant.0 l.invariant.1 c.in_err-next_member.ensures in
    grind (arith, none)

pub pass_members-members-preserved : goal.pass_members-members-preserved
pass_members-members-preserved t c =
    let l = c.members in
    let name = c.in-Some.field-0.now in
    let s = c.next_member.new.self in
    let r = c.pass.new.self in
    let named : read_key l.self ≡ Some (Some name, s) = grind arith in
    let d = left_some (value_at c.args.depth s) r c.in_ok-pass.ensures.value in
    let shorter = read_key-shorter l.self (Some name) s named in
    let less = c.in_ok-pass.ensures.shorter in (
      put name d.0 l.invariant.0,
      WalkedMembers-next c.args.depth c.args.self.now l.self s r l.invariant.0 name d.0 l.invariant.1 named d.1,
      omega (arith, l.invariant.2, shorter, less),
    )

pub pass_members-returns-in_err-pass-clause-value : goal.pass_members-returns-in_err-pass-clause-value
pass_members-returns-in_err-pass-clause-value t c =
    let l = c.members in
    let name = c.in-Some.field-0.now in
    let s = c.next_member.new.self in
    let named : read_key l.self ≡ Some (Some name, s) = grind arith in
    let none = WalkedMembers-malformed c.args.depth c.args.self.now l.self s l.invariant.0 name l.invariant.1 named c.in_err-pass.ensures.value in
    grind (arith, none)

pub pass_members-returns-clause-value : goal.pass_members-returns-clause-value
pass_members-returns-clause-value t c =
    let l = c.members in
    ap left (WalkedMembers-end c.args.depth c.args.self.now l.self c.next_member.new.self l.invariant.0 l.invariant.1 (grind arith))
