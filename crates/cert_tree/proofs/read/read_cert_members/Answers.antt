use Rattle.std.proofs.Common.{◌≡◌, ◌-◌, true, false, Some, None, ap, sym, ◌∙◌, arith}
use Rattle.std.proofs.lemmas.Result.{err_from_is_err_and}
use Rattle.json.specs.Json.{parse_map, read_key}
use Rattle.json.proofs.Grammar.{read_key-shorter}
use Rattle.serde_json.specs.Data.{object, no_members, put}
use Rattle.serde_json.specs.Find.{as_object}
use Rattle.json_tokens.specs.Standing.{value_at, members_at}
use Rattle.json_tokens.proofs.Standing.{read_some, object-read, object-malformed}
use Rattle.json_tokens.proofs.Walked.{WalkedMembers-none, WalkedMembers-next, WalkedMembers-end, WalkedMembers-malformed, WalkedMembers-no_name}
use Rattle.cert_tree.specs.KeptCert.{no_cert_members, cert_members, cert_members_seen, with_cert_member}
use Rattle.cert_tree.proofs.KeptSteps.{cert_members-put, cert_members-none, cert_members-other}
use Rattle.cert_tree.proofs.read.read_cert_members.Goals as goal

pub returns-then-not-is_object : goal.returns-then-not-is_object
returns-then-not-is_object c =
    let r = c.enter_object.new.self in
    let other : parse_map as_object (value_at c.args.depth c.args.tokens.now) ≡ Some (None, r) = grind arith in
    let not_object : false ≡ c.in_ok-is_object.is_object = grind arith in
    let d = read_some as_object (value_at c.args.depth c.args.tokens.now) None r other in
    ap (parse_map (cert_members c.args.rule)) d.1 ∙ ap (λ o. Some (o, r)) (cert_members-other c.args.rule d.0 d.2 ∙ ap (λ b. no_cert_members b) not_object ∙ sym c.none-members.ensures)

pub members-init : goal.members-init
members-init c =
    let an_object : c.in_ok-is_object.is_object ≡ true = grind arith in (
      no_members,
      WalkedMembers-none (c.args.depth - 1) c.enter_object.new.self,
      c.none-members.ensures ∙ ap (λ b. no_cert_members b) an_object ∙ cert_members-none c.args.rule,
      omega arith,
    )

pub returns-in_err-name : goal.returns-in_err-name
returns-in_err-name c =
    let inner = c.args.depth - 1 in
    let start = c.enter_object.new.self in
    let l = c.members in
    let entered : value_at c.args.depth c.args.tokens.now ≡ parse_map object (members_at inner no_members start) = grind arith in
    let none = object-malformed c.args.depth inner c.args.tokens.now start entered (WalkedMembers-no_name inner start l.tokens l.invariant.0 l.invariant.1 c.in_err-name.ensures) in
    grind (arith, none)

pub members-preserved : goal.members-preserved
members-preserved c =
    let inner = c.args.depth - 1 in
    let start = c.enter_object.new.self in
    let l = c.members in
    let name = c.in-Some.name.now in
    let s = c.next_member.new.self in
    let r = c.take.new.tokens in
    let found = l.invariant.0 in
    let old = cert_members_seen l.members in
    let named : read_key l.tokens ≡ Some (Some name, s) = grind arith in
    let d = read_some (λ value. with_cert_member c.args.rule name value old) (value_at inner s) (cert_members_seen c.take.new.self) r c.in_ok-take.ensures.value in (
      put name d.0 found,
      WalkedMembers-next inner start l.tokens s r found name d.0 l.invariant.1 named d.1,
      sym d.2 ∙ ap (with_cert_member c.args.rule name d.0) l.invariant.2 ∙ cert_members-put c.args.rule name d.0 found,
      omega (arith, l.invariant.3, read_key-shorter l.tokens (Some name) s named, c.in_ok-take.ensures.shorter),
    )

pub returns-in_err-take : goal.returns-in_err-take
returns-in_err-take c =
    let p = err_from_is_err_and c.from_residual-in_err-take.result c.from_residual-in_err-take.ensures.1 in
    let inner = c.args.depth - 1 in
    let start = c.enter_object.new.self in
    let l = c.members in
    let name = c.in-Some.name.now in
    let s = c.next_member.new.self in
    let named : read_key l.tokens ≡ Some (Some name, s) = grind arith in
    let entered : value_at c.args.depth c.args.tokens.now ≡ parse_map object (members_at inner no_members start) = grind arith in
    rw (p.1, p.2)
    (λ other.
    let taken = c.in_err-take.ensures.value other in
    (taken.0, object-malformed c.args.depth inner c.args.tokens.now start entered (WalkedMembers-malformed inner start l.tokens s l.invariant.0 name l.invariant.1 named taken.1)))

pub returns : goal.returns
returns c =
    let inner = c.args.depth - 1 in
    let start = c.enter_object.new.self in
    let l = c.members in
    let r = c.next_member.new.self in
    let found = l.invariant.0 in
    let over : read_key l.tokens ≡ Some (None, r) = grind arith in
    let entered : value_at c.args.depth c.args.tokens.now ≡ parse_map object (members_at inner no_members start) = grind arith in
    object-read (cert_members c.args.rule) c.args.depth inner c.args.tokens.now start r found entered (WalkedMembers-end inner start l.tokens r found l.invariant.1 over)
    ∙ ap (λ o. Some (o, r)) (sym l.invariant.2)
