-- What was made is printed where goals are left out, and a certificate reads back.
use Rattle.std.proofs.Common.{◌≡◌, ℕ, ◌≤◌, inl, inr, List, [], ◌∷◌, Option, Result, Ok, Err, ap, subst, refl}
use Rattle.std.specs.List.{All}
use Rattle.resource_text.specs.cert_maker.config_box.ByRule.{IsByRule}
use Rattle.resource_text.specs.cert_maker.cert_tree.Certificate.{GoalOf, GoalFits, NodeFits, goals_of, most_nodes, node_count}
use Rattle.resource_text.specs.cert_maker.res_value.Goal.{GoalSeen}
use Rattle.resource_text.specs.cert_maker.cert_checker.FirstFault.{IsAccepted}
use Rattle.resource_text.specs.cert_maker.declared.omitted.Omitting.{Omitting}
use Rattle.resource_text.specs.cert_maker.declared.omitted.Omitting.TheVariants.{Cert, NodeLimit}
use Rattle.resource_text.specs.cert_maker.Omitting.{IsOmitting}
use Rattle.command_base.specs.declared.fault.ToolFault.{ToolFault}
use Rattle.command_base.specs.declared.fault.ToolFault.TheVariants as faults
use Rattle.command_base.specs.declared.status.Status.{Status}
use Rattle.command_base.specs.declared.status.Status.TheVariants.{Done}
use Rattle.resource_tool.specs.MapOutput.{MapOutput, PrintsBoth}
use Rattle.resource_tool.specs.MakeOutput.{MakeInputs, IsReadAccepted}
use Rattle.resource_tool.specs.OmitOutput.{IsOmitOutput, LinesFirst, ToldFirst, kept_goals, kept_output, omit_output}
use Rattle.resource_tool.specs.LineReadsBack.{OmittingReadsBack, TreesReadBack, UnlessMemory}
use Rattle.resource_tool.specs.Answered.{PrintsBothOneOf}
use Rattle.resource_tool.proofs.MakeSteps.{trees-fit, line-read, not_done}

kept-read : (asked : List GoalSeen) (most : ℕ) (inputs : MakeInputs) (trees : List GoalOf) → TreesReadBack trees → IsAccepted inputs.stack inputs.sets asked trees → node_count trees ≤ most
    → All (λ (tree : GoalOf). All (NodeFits inputs.rule) tree.nodes) trees → (kept_output trees).status ≡ Done → most ≤ most_nodes → All GoalFits asked → IsReadAccepted asked inputs (kept_output trees).text
kept-read asked most inputs [] again accepted within fits done few styles = absurd (not_done done)
kept-read asked most inputs (tree ∷ trees) again accepted within fits done few styles = line-read asked most inputs (tree ∷ trees) again accepted within fits few styles

reads-back : (asked : List GoalSeen) (most : ℕ) (inputs : MakeInputs) (omitting : Omitting) → IsByRule inputs.rule inputs.sets → OmittingReadsBack omitting → IsOmitting inputs.stack inputs.sets asked most omitting
    → (omit_output inputs.stack asked omitting).output.status ≡ Done → most ≤ most_nodes → All GoalFits (kept_goals asked omitting)
    → IsReadAccepted (kept_goals asked omitting) inputs (omit_output inputs.stack asked omitting).output.text
reads-back asked most inputs (Cert certificate omitted) by again right done few styles =
    kept-read (kept_goals asked (Cert certificate omitted)) most inputs (goals_of certificate) again right.right.0 right.right.2 (trees-fit inputs.rule inputs.sets (goals_of certificate) by right.fits) done few styles
reads-back asked most inputs NodeLimit by again right done few styles = absurd (not_done done)

allowed : (asked : List GoalSeen) (most : ℕ) (inputs : MakeInputs) (omitting : Omitting) → IsByRule inputs.rule inputs.sets → OmittingReadsBack omitting → IsOmitting inputs.stack inputs.sets asked most omitting
    → IsOmitOutput asked most inputs (omit_output inputs.stack asked omitting).output (omit_output inputs.stack asked omitting).lines
allowed asked most inputs omitting by again right = record { omitting = omitting; right = right; printed = refl; reads_back = reads-back asked most inputs omitting by again right }

abbrev output_or : MapOutput → Result MapOutput ToolFault → MapOutput
output_or other (Ok output) = output
output_or other (Err fault) = other

pub omitting-printed : {W V : Type 0} (contents : W → Option (List ℕ)) (says : V → Option (List ℕ)) (old new : W) (before after : V) (asked : List GoalSeen) (most : ℕ) (inputs : MakeInputs) (result : Result Status ToolFault)
    (omitting : Omitting) → IsByRule inputs.rule inputs.sets → PrintsBoth contents says old new before after result (Ok (omit_output inputs.stack asked omitting)) → UnlessMemory result (OmittingReadsBack omitting)
    → IsOmitting inputs.stack inputs.sets asked most omitting → PrintsBothOneOf (IsOmitOutput asked most) contents says old new before after result (Ok inputs)
omitting-printed contents says old new before after asked most inputs (Ok status) omitting by (text, lines, is, put, told) again right =
    let meant = omit_output inputs.stack asked omitting in
    let same : meant ≡ record { output = record { status = status; text = text }; lines = lines } = ap (output_or meant) is in (
      inputs,
      text,
      lines,
      refl,
      subst (λ (m : MapOutput). IsOmitOutput asked most inputs m.output m.lines) same (allowed asked most inputs omitting by again right),
      put,
      told,
    )
omitting-printed contents says old new before after asked most inputs (Err faults.OutOfMemory) omitting by printed again right = printed
omitting-printed contents says old new before after asked most inputs (Err faults.Write) omitting by printed again right = printed
omitting-printed contents says old new before after asked most inputs (Err (faults.Apk fault)) omitting by printed again right = absurd (let e = printed.0 in cc)
omitting-printed contents says old new before after asked most inputs (Err (faults.Table fault)) omitting by printed again right = absurd (let e = printed.0 in cc)
omitting-printed contents says old new before after asked most inputs (Err (faults.Layers fault)) omitting by printed again right = absurd (let e = printed.0 in cc)
omitting-printed contents says old new before after asked most inputs (Err (faults.LayerApk layer fault)) omitting by printed again right = absurd (let e = printed.0 in cc)
omitting-printed contents says old new before after asked most inputs (Err (faults.LayerTable layer fault)) omitting by printed again right = absurd (let e = printed.0 in cc)
omitting-printed contents says old new before after asked most inputs (Err (faults.LayerMap layer fault)) omitting by printed again right = absurd (let e = printed.0 in cc)
omitting-printed contents says old new before after asked most inputs (Err (faults.SideLayers side fault)) omitting by printed again right = absurd (let e = printed.0 in cc)
omitting-printed contents says old new before after asked most inputs (Err (faults.SideApk side layer fault)) omitting by printed again right = absurd (let e = printed.0 in cc)
omitting-printed contents says old new before after asked most inputs (Err (faults.SideTable side layer fault)) omitting by printed again right = absurd (let e = printed.0 in cc)
omitting-printed contents says old new before after asked most inputs (Err (faults.SideMap side layer fault)) omitting by printed again right = absurd (let e = printed.0 in cc)
omitting-printed contents says old new before after asked most inputs (Err (faults.Device fault)) omitting by printed again right = absurd (let e = printed.0 in cc)
omitting-printed contents says old new before after asked most inputs (Err (faults.Box fault)) omitting by printed again right = absurd (let e = printed.0 in cc)
omitting-printed contents says old new before after asked most inputs (Err (faults.Certificate fault)) omitting by printed again right = absurd (let e = printed.0 in cc)

told-first : {W V : Type 0} (says : V → Option (List ℕ)) (old new : W) (before after : V) (asked : List GoalSeen) (most : ℕ) (inputs : MakeInputs) (omitting : Omitting) → IsByRule inputs.rule inputs.sets
    → ToldFirst says old new before after (omit_output inputs.stack asked omitting).lines → OmittingReadsBack omitting → IsOmitting inputs.stack inputs.sets asked most omitting
    → LinesFirst (IsOmitOutput asked most) says old new before after (Ok inputs)
told-first says old new before after asked most inputs omitting by (inl same) again right = inl same
told-first says old new before after asked most inputs omitting by (inr told) again right =
    let meant = omit_output inputs.stack asked omitting in
    inr (inputs, meant.output, meant.lines, refl, allowed asked most inputs omitting by again right, told)

pub lines-first : {W V : Type 0} (contents : W → Option (List ℕ)) (says : V → Option (List ℕ)) (old new : W) (before after : V) (asked : List GoalSeen) (most : ℕ) (inputs : MakeInputs) (result : Result Status ToolFault)
    (omitting : Omitting) → IsByRule inputs.rule inputs.sets → PrintsBoth contents says old new before after result (Ok (omit_output inputs.stack asked omitting))
    → ToldFirst says old new before after (omit_output inputs.stack asked omitting).lines → UnlessMemory result (OmittingReadsBack omitting) → IsOmitting inputs.stack inputs.sets asked most omitting
    → LinesFirst (IsOmitOutput asked most) says old new before after (Ok inputs)
lines-first contents says old new before after asked most inputs (Ok status) omitting by printed first again right = told-first says old new before after asked most inputs omitting by first again right
lines-first contents says old new before after asked most inputs (Err faults.OutOfMemory) omitting by printed first again right = inl printed.0
lines-first contents says old new before after asked most inputs (Err faults.Write) omitting by printed first again right = told-first says old new before after asked most inputs omitting by first again right
lines-first contents says old new before after asked most inputs (Err (faults.Apk fault)) omitting by printed first again right = inl printed.1
lines-first contents says old new before after asked most inputs (Err (faults.Table fault)) omitting by printed first again right = inl printed.1
lines-first contents says old new before after asked most inputs (Err (faults.Layers fault)) omitting by printed first again right = inl printed.1
lines-first contents says old new before after asked most inputs (Err (faults.LayerApk layer fault)) omitting by printed first again right = inl printed.1
lines-first contents says old new before after asked most inputs (Err (faults.LayerTable layer fault)) omitting by printed first again right = inl printed.1
lines-first contents says old new before after asked most inputs (Err (faults.LayerMap layer fault)) omitting by printed first again right = inl printed.1
lines-first contents says old new before after asked most inputs (Err (faults.SideLayers side fault)) omitting by printed first again right = inl printed.1
lines-first contents says old new before after asked most inputs (Err (faults.SideApk side layer fault)) omitting by printed first again right = inl printed.1
lines-first contents says old new before after asked most inputs (Err (faults.SideTable side layer fault)) omitting by printed first again right = inl printed.1
lines-first contents says old new before after asked most inputs (Err (faults.SideMap side layer fault)) omitting by printed first again right = inl printed.1
lines-first contents says old new before after asked most inputs (Err (faults.Device fault)) omitting by printed first again right = inl printed.1
lines-first contents says old new before after asked most inputs (Err (faults.Box fault)) omitting by printed first again right = inl printed.1
lines-first contents says old new before after asked most inputs (Err (faults.Certificate fault)) omitting by printed first again right = inl printed.1
