use Rattle.std.proofs.Common.{◌≡◌, ◌∷◌, ◌++◌, length, map, Result, Ok, Err, string_bytes, arith, ap, ◌∙◌}
use Rattle.std.specs.Prelude.{IfOk}
use Rattle.std.specs.List.{flat_map}
use Rattle.std.proofs.lemmas.List.{length-map}
use Rattle.resource_text.specs.VerdictForms.{rejections_in, set_aside_in}
use Rattle.resource_text.specs.cert_maker.res_value.Goal.{goal_seen}
use Rattle.resource_text.specs.declared.rejection.Rejection.{Rejection}
use Rattle.resource_text.specs.cert_maker.cert_tree.Certificate.{goal_of}
use Rattle.resource_tool.specs.Check.{telling_of}
use Rattle.resource_tool.specs.CheckOutput.{TellsAll, goal_told_of, naming_of}
use Rattle.resource_tool.specs.OpenedSeen.{opened_cert}
use Rattle.resource_tool.specs.declared.verdict_told.Told.{Told}
use Rattle.resource_tool.proofs.EachGoalSteps.{all-rejections, goal-within}
use Rattle.resource_tool.proofs.check.OpenedCert.all_told.Goals as goal

if-both : {T E : Type 0} (result : Result T E) (P Q R : T → Type 0) → ((told : T) → P told → Q told → R told) → IfOk result P → IfOk result Q → IfOk result R
if-both (Ok told) P Q R both p q = both told p q
if-both (Err fault) P Q R both p q = tt

pub all_rejections-requires : goal.all_rejections-requires
all_rejections-requires c =
    let inputs = opened_cert c.args.self in
    let within = goal-within inputs.stack inputs.sets (map goal_seen c.args.goals.now) inputs.trees c.args.verdict c.args.goal c.requires.right c.requires.at in
    let count = length-map c.args.self.certificate.goals.items goal_of in
    omega (arith, within, count)

pub returns : goal.returns
returns c =
    let inputs = opened_cert c.args.self in
    let asked = map goal_seen c.args.goals.now in
    let telling = telling_of c.args.asked.now (map string_bytes c.args.paths.now) in
    let trees = c.args.self.certificate.goals in
    let count : c.len-of.result ≡ length inputs.trees = (let len = trees.ok.0 in let seen = length-map trees.items goal_of in let of = c.len-of.ensures in omega (arith, len, seen, of)) in
    let found = c.in_ok-all_rejections.ensures in
    let rejections = c.in_ok-all_rejections.field-0.items in
    if-both c.told.result
    (λ (told : Told). told.text.items ≡ rejections_in (naming_of telling inputs.stack) telling.form asked rejections c.len-of.result ++ set_aside_in telling.form c.rows_set_aside.result)
    (λ (told : Told). told.lines.items ≡ flat_map (λ (rejection : Rejection). goal_told_of inputs.stack asked telling.names rejection.verdict) rejections)
    (λ (told : Told). TellsAll asked telling inputs c.args.verdict told.text.items told.lines.items)
    (λ told printed said. record {
      rejections = rejections;
      are = all-rejections inputs.stack inputs.sets asked inputs.trees c.args.verdict c.args.goal found.0 rejections c.requires.right c.requires.at
          (found.1 ∙ ap (λ (first : Rejection). first ∷ found.0) c.of-first.ensures) found.2;
      printed = rw (count, c.rows_set_aside.ensures) at printed;
      said = said;
    })
    c.told.ensures.printed c.told.ensures.said
