use Rattle.std.proofs.Common.{◌≡◌, ℕ, Option, Some, sym, ap, subst, ◌∙◌}
use Rattle.std.specs.BTreeMap.{get}
use Rattle.std.specs.Option.{option_copied}
use Rattle.stack_diff.specs.names.declared.pair.Sides.{Sides}
use Rattle.stack_diff.specs.names.declared.pair.Sides.TheVariants.{Both}
use Rattle.stack_diff.specs.Stacks.{stacks_of}
use Rattle.resource_tool.specs.declared.judged.Judged.{Judged}
use Rattle.resource_tool.specs.Judged.{ids_cmp, IsJudged, IsKept}
use Rattle.resource_tool.proofs.Kept.{if-ok, kept-more, right-shared}
use Rattle.resource_tool.proofs.judged.judge.Goals as goal

pub returns-in-Some : goal.returns-in-Some
returns-in-Some c =
    let stacks = stacks_of c.args.stacks in
    let sets = c.args.members.now in
    let ids : ℕ × ℕ = (c.in-Both.old.0, c.in-Both.new.0) in
    let found : get ids_cmp c.args.kept.now ids ≡ Some c.in-Some.judged.now = sym c.get.ensures.value ∙ ap option_copied c.in-Some.is in
    let right = c.requires ids c.in-Some.judged.now found in
    if-ok c.within.result _ (λ judged. IsJudged c.args.form stacks sets c.args.sides c.args.most judged × IsKept c.args.form stacks sets c.args.kept.now)
    (λ judged all. (
      subst (λ (sides : Sides). IsJudged c.args.form stacks sets sides c.args.most judged) (sym c.in-Both.is) (all c.args.form stacks sets (Both c.in-Both.old c.in-Both.new) right),
      c.requires,
    )) c.within.ensures

pub returns-in_ok-insert-in-Both : goal.returns-in_ok-insert-in-Both
returns-in_ok-insert-in-Both c =
    let stacks = stacks_of c.args.stacks in
    let sets = c.args.members.now in
    let sides : Sides = Both c.in-Both.old c.in-Both.new in
    let judged = subst (λ (judged : Option Judged). IsJudged c.args.form stacks sets sides c.args.most judged) c.in-Some-2.is c.in_ok-judged-in-Both.ensures in
    let shared = c.in_ok-shared-in-Both.ensures in (
      subst (λ (sides : Sides). IsJudged c.args.form stacks sets sides c.args.most (Some c.in-Some-2.judged)) (sym c.in-Both.is) judged,
      kept-more c.args.form stacks sets c.args.kept.now c.insert.new.self c.in-Both.old c.in-Both.new c.in_ok-shared-in-Both.field-0 c.requires c.in_ok-insert-in-Both.ensures.updates.0
          (right-shared c.args.form stacks sets sides c.in-Some-2.judged c.in_ok-shared-in-Both.field-0 shared.0 shared.1 judged.0),
    )
