-- What is told of a stack beside nothing is all that its resources say.
use Rattle.std.proofs.Common.{◌≡◌, ℕ, List, [], ◌∷◌, filter, Option, Some, None, Result, Ok, Err, refl, sym, ap, subst, ◌∙◌}
use Rattle.std.specs.List.{All, AllZip}
use Rattle.std.proofs.lemmas.List.Elements.{All-head, All-tail, All-filter}
use Rattle.command_base.specs.overlay_map.Layer.{LayerOf}
use Rattle.command_base.specs.Output.{Prints, PrintsOneOf}
use Rattle.command_base.specs.declared.fault.ToolFault.{ToolFault}
use Rattle.command_base.specs.declared.fault.ToolFault.TheVariants.{OutOfMemory, Write}
use Rattle.command_base.specs.declared.status.Status.{Status}
use Rattle.answer_text.specs.ContentAt.{content_at}
use Rattle.resource_text.specs.declared.line_form.LineForm.{LineForm}
use Rattle.stack_diff.specs.cert_maker.res_value.declared.res_id.ResId.{ResId}
use Rattle.stack_diff.specs.config_box.box_answers.NumberSet.{SetOf}
use Rattle.stack_diff.specs.config_box.config_record.locales.declared.locale_rule.LocaleRule.{LocaleRule}
use Rattle.stack_diff.specs.names.Laws.{id_of}
use Rattle.stack_diff.specs.names.NameFault.{NameFaultOf}
use Rattle.stack_diff.specs.names.NamedPairs.{first_fault, is_asked, unless_fault, pairs_in}
use Rattle.stack_diff.specs.names.NamedSet.{NamedSetOf}
use Rattle.stack_diff.specs.names.Packages.{PackageNameOf}
use Rattle.stack_diff.specs.names.Pairs.{PairOf, sides_of}
use Rattle.stack_diff.specs.names.declared.pair.Sides.{Sides}
use Rattle.stack_diff.specs.names.declared.pair.Sides.TheVariants.{Both}
use Rattle.stack_diff.specs.Stacks.{StacksOf, beside_nothing}
use Rattle.stack_diff.proofs.AllSaid.{are-values}
use Rattle.resource_tool.specs.AskedPairs.{AreOfStacks}
use Rattle.resource_tool.specs.Telling.{ToldOf, changes_told, IsTold, AreTold}
use Rattle.resource_tool.specs.ValuesOutput.{IsValued, AreValued, values_output, IsValuesOutput}

module _ (form : LineForm) (layers : List LayerOf) (packages : List PackageNameOf) (sets : List SetOf) where
  abbrev Beside : StacksOf
  Beside = beside_nothing layers packages

  valued-found : (pair : PairOf) (told : ToldOf) (found : Option ResId) → id_of layers pair.label ≡ found → sides_of found found ≡ Some pair.sides → IsTold form Beside sets pair.sides told → IsValued form Beside sets pair told
  valued-found pair told None at right is = absurd cc
  valued-found pair told (Some id) at right is =
      let both : Both id id ≡ pair.sides = cc in
      let all = subst (λ (sides : Sides). IsTold form Beside sets sides told) (sym both) is in
      let values = are-values (content_at layers id.0) sets all.0 all.1 in
      record { id = id; called = at; values = values.0; right = values.2; in_blocks = all.2 ∙ ap (changes_told form packages sets) (sym values.1) }

  abbrev Right : PairOf → Type 0
  Right pair = sides_of (id_of layers pair.label) (id_of layers pair.label) ≡ Some pair.sides

  all-valued : (pairs : List PairOf) (told : List ToldOf) → AreOfStacks Beside pairs → AllZip (λ pair one. IsTold form Beside sets pair.sides one) pairs told → AllZip (IsValued form Beside sets) pairs told
  all-valued [] [] right are = tt
  all-valued [] (one ∷ told) right are = absurd are
  all-valued (pair ∷ pairs) [] right are = absurd are
  all-valued (pair ∷ pairs) (one ∷ told) right are = (
    valued-found pair one (id_of layers pair.label) refl (All-head Right pair pairs right) are.0,
    all-valued pairs told (All-tail Right pair pairs right) are.1,
  )

  pub are-valued : (pairs : List PairOf) (most : ℕ) (told : Option (List ToldOf)) → AreOfStacks Beside pairs → AreTold form Beside sets pairs most told → AreValued form Beside sets pairs most told
  are-valued pairs most (Some told) right are = (all-valued pairs told right are.0, are.1)
  are-valued pairs most None right are = are

-- ---- what holds of all pairs holds of those that are asked for

unless-keeps : (P : PairOf → Type 0) (fault : Option NameFaultOf) (pairs asked : List PairOf) → All P pairs → unless_fault fault pairs ≡ Ok asked → All P asked
unless-keeps P (Some fault) pairs asked all found = absurd cc
unless-keeps P None pairs asked all found = let same : pairs ≡ asked = cc in subst (All P) same all

pub asked-keep : (P : PairOf → Type 0) (packages : List PackageNameOf) (sets : List NamedSetOf) (pairs asked : List PairOf) → All P pairs → pairs_in packages sets pairs ≡ Ok asked → All P asked
unfolding pairs_in
asked-keep P packages [] pairs asked all found = let same : pairs ≡ asked = cc in subst (All P) same all
asked-keep P packages (set ∷ sets) pairs asked all found =
    unless-keeps P (first_fault packages pairs (set ∷ sets)) (filter (is_asked packages (set ∷ sets)) pairs) asked (All-filter (is_asked packages (set ∷ sets)) P pairs all) found

-- ---- what is printed

module _ {W : Type 0} (contents : W → Option (List ℕ)) (old new : W) (form : LineForm) (rule : LocaleRule) (sets : List SetOf) (pairs : List PairOf) (most : ℕ) (told : Option (List ToldOf)) where
  abbrev pub Printed : StacksOf → Result Status ToolFault → Type 0
  Printed stacks result = Prints contents old new result (Ok (values_output form rule stacks pairs told))

  abbrev OneOf : StacksOf → Result Status ToolFault → Type 0
  OneOf stacks result = PrintsOneOf (IsValuesOutput form pairs most) contents old new result (Ok (record { stacks = stacks; sets = sets; rule = rule }))

  pub printed-values : (stacks : StacksOf) (result : Result Status ToolFault) → AreValued form stacks sets pairs most told → Printed stacks result → OneOf stacks result
  printed-values stacks (Ok status) right printed =
      let same : values_output form rule stacks pairs told ≡ record { status = status; text = printed.0 } = cc in
      (record { stacks = stacks; sets = sets; rule = rule }, printed.0, refl, record { told = told; right = right; printed = sym same }, printed.2)
  printed-values stacks (Err OutOfMemory) right printed = printed
  printed-values stacks (Err Write) right printed = refl
  printed-values stacks (Err fault) right printed = absurd cc
