-- What is printed of rows tells what becomes of them.
use Rattle.std.proofs.Common.{◌≡◌, ℕ, List, Option, Some, None, Result, Ok, Err, IfSome, ◌++◌, nat_lt, map, option_map, refl, sym}
use Rattle.std.proofs.KnownBytes.{Appends-trans}
use Rattle.std.specs.Io.KnownBytes.{Appends}
use Rattle.std.specs.List.{enumerate_from, flat_map, zip}
use Rattle.command_base.specs.FileWords.{set_asked}
use Rattle.command_base.specs.json_input.Each.{each}
use Rattle.stack_diff.specs.config_box.config_record.locales.declared.locale_rule.LocaleRule.{LocaleRule}
use Rattle.stack_diff.specs.names.NamedSet.{NamedSetOf}
use Rattle.command_base.specs.Output.{Prints, PrintsOneOf, negative_if}
use Rattle.command_base.specs.overlay_map.Layer.{LayerOf}
use Rattle.command_base.specs.declared.fault.ToolFault.{ToolFault}
use Rattle.command_base.specs.declared.fault.ToolFault.TheVariants.{OutOfMemory, Write}
use Rattle.command_base.specs.declared.status.Status.{Status}
use Rattle.stack_diff.specs.Parting.{IsWithin}
use Rattle.stack_diff.specs.RowUses.{AreUses}
use Rattle.stack_diff.specs.cert_maker.res_value.declared.res_id.ResId.{ResId}
use Rattle.resource_text.specs.declared.line_form.LineForm.{LineForm}
use Rattle.resource_tool.specs.BoxFiles.{AskedBoxBytes}
use Rattle.resource_tool.specs.DiffInputs.{DiffInputs}
use Rattle.resource_tool.specs.Unused.{IsUnusedOutput, ids_asked, numbers_of, unused_opened}
use Rattle.resource_tool.specs.UnusedOutput.{Uses, layer_lines, totals_line, totals_of, unused_output}
use Rattle.resource_tool.specs.declared.unused_rows.Totals.{Totals}
use Rattle.resource_tool.specs.Values.{values_inputs_by}

pub printed-unused : {W : Type 0} (contents : W → Option (List ℕ)) (old new : W) (form : LineForm) (paths : List (List ℕ)) (asked : Option (List ResId)) (most : ℕ) (inputs : DiffInputs)
    (uses : Option (List Uses)) (result : Result Status ToolFault) → IfSome uses (AreUses inputs.stacks.new inputs.sets (numbers_of asked)) → IsWithin inputs.stacks.new inputs.sets (numbers_of asked) most uses
    → Prints contents old new result (Ok (unused_output form paths inputs.stacks.new uses)) → PrintsOneOf (IsUnusedOutput form paths asked most) contents old new result (Ok inputs)
printed-unused contents old new form paths asked most inputs uses (Ok status) right within printed =
    let same : unused_output form paths inputs.stacks.new uses ≡ record { status = status; text = printed.0 } = cc in
    (inputs, printed.0, refl, record { uses = uses; right = right; within = within; printed = sym same }, printed.2)
printed-unused contents old new form paths asked most inputs uses (Err OutOfMemory) right within printed = printed
printed-unused contents old new form paths asked most inputs uses (Err Write) right within printed = refl
printed-unused contents old new form paths asked most inputs uses (Err fault) right within printed = absurd cc

-- what was opened, and the ids that are asked for
pub unused-with : (rule : LocaleRule) (files : AskedBoxBytes) (sets : List NamedSetOf) (opened : DiffInputs) (asked : Option (List ResId))
    → each set_asked files.words ≡ Ok sets → values_inputs_by rule files.layers files.box_json ≡ Ok opened → ids_asked opened.stacks.new sets ≡ Ok asked
    → unused_opened rule files ≡ Ok (record { opened = opened; paths = files.paths; asked = asked })
unfolding unused_opened
unused-with rule files sets opened asked held read found = rw (held, read, found) refl

-- the lines, and then the totals
pub lines-then-totals : (before between after : Option (List ℕ)) (form : LineForm) (paths : List (List ℕ)) (stack : List LayerOf) (uses : List Uses) (totals : Totals) (lines : List ℕ) (status : Status)
    → lines ≡ flat_map (layer_lines form paths) (enumerate_from 0 (zip stack uses)) → totals ≡ totals_of stack uses → status ≡ negative_if (nat_lt 0 totals.unused)
    → Appends before between lines → Appends between after (totals_line form totals)
    → (text : List ℕ) × (unused_output form paths stack (Some uses) ≡ record { status = status; text = text }) × Appends before after text
lines-then-totals before between after form paths stack uses totals lines status told counted ends put last =
    let same : unused_output form paths stack (Some uses) ≡ record { status = status; text = lines ++ totals_line form totals } = rw (told, ends, counted) refl in
    (lines ++ totals_line form totals, same, Appends-trans before between after lines (totals_line form totals) put last)

-- ids in slices, by their numbers
pub numbers-of-slices : {A : Type 0} (now : A → List ResId) (slice : Option A) → option_map (λ ids. map (λ id. id.0) (now ids)) slice ≡ numbers_of (option_map now slice)
numbers-of-slices now None = refl
numbers-of-slices now (Some ids) = refl

pub if-some-seen : {A B : Type 0} (view : A → B) (P : B → Type 0) (one : Option A) → IfSome one (λ it. P (view it)) → IfSome (option_map view one) P
if-some-seen view P None holds = holds
if-some-seen view P (Some it) holds = holds
