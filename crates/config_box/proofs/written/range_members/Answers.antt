use Rattle.std.proofs.Common.{◌≡◌, length, Some, None, ok_or, Ok, ap, ◌∙◌, arith}
use Rattle.contract_words.specs.Faults.{◌>>=◌}
use Rattle.serde_json.specs.Data.{no_members}
use Rattle.json_tokens.specs.Standing.{members_at}
use Rattle.json_tokens.specs.Fields.{slots_seen}
use Rattle.config_box.specs.declared.box_fault.BoxFault.TheVariants.{Shape}
use Rattle.config_box.proofs.TokenSteps.{range-read, kept_range, ends-no_first, ends-both}
use Rattle.config_box.proofs.written.range_members.Goals as goal

pub returns-then-not-branch-clause-value : goal.returns-then-not-branch-clause-value
returns-then-not-branch-clause-value c =
    range-read (members_at c.args.depth no_members c.args.tokens.now) None c.fields_left.new.self (rw c.if-not-branch.true at c.in_ok-fields_left.ensures.value)

pub returns-in_default-clause-value : goal.returns-in_default-clause-value
returns-in_default-clause-value c =
    let slots = c.fields_left.new.slots in
    let r = c.fields_left.new.self in
    let two : length slots ≡ 2 = omega (arith, c.fields_left.auto.slots) in
    range-read (members_at c.args.depth no_members c.args.tokens.now) (Some (slots_seen slots)) r (rw c.if-not-branch.false at c.in_ok-fields_left.ensures.value)
    ∙ ap (λ z. Some (z, r)) (ends-no_first slots _ c.number_of.result two c.number_of.ensures c.in_default.is)

pub returns-in_default-number_of-clause-value : goal.returns-in_default-number_of-clause-value
returns-in_default-number_of-clause-value c =
    let slots = c.fields_left.new.slots in
    let r = c.fields_left.new.self in
    let two : length slots ≡ 2 = omega (arith, c.fields_left.auto.slots) in
    range-read (members_at c.args.depth no_members c.args.tokens.now) (Some (slots_seen slots)) r (rw c.if-not-branch.false at c.in_ok-fields_left.ensures.value)
    ∙ ap (λ z. Some (z, r)) (ends-both slots _ c.number_of.result two c.number_of.ensures _ c.number_of-2.result c.number_of-2.ensures c.in-Some.from c.in-Some.is)
    ∙ ap (λ b. Some (kept_range (ok_or b Shape >>= λ to. Ok (c.in-Some.from, to)), r)) c.in_default-number_of.is

pub returns-clause-value : goal.returns-clause-value
returns-clause-value c =
    let slots = c.fields_left.new.slots in
    let r = c.fields_left.new.self in
    let two : length slots ≡ 2 = omega (arith, c.fields_left.auto.slots) in
    range-read (members_at c.args.depth no_members c.args.tokens.now) (Some (slots_seen slots)) r (rw c.if-not-branch.false at c.in_ok-fields_left.ensures.value)
    ∙ ap (λ z. Some (z, r)) (ends-both slots _ c.number_of.result two c.number_of.ensures _ c.number_of-2.result c.number_of-2.ensures c.in-Some.from c.in-Some.is)
    ∙ ap (λ b. Some (kept_range (ok_or b Shape >>= λ to. Ok (c.in-Some.from, to)), r)) c.in-Some-number_of.is
