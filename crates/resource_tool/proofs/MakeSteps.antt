-- What was made is printed, and a certificate reads back.
use Rattle.std.proofs.Common.{◌≡◌, ℕ, ◌≤◌, Bool, List, Option, Result, Ok, Err, arith, ap, subst, sym, refl, ◌∙◌}
use Rattle.std.specs.List.{All}
use Rattle.std.specs.Io.KnownBytes.{Appends}
use Rattle.std.proofs.lemmas.List.{get_or-map, length-map}
use Rattle.std.proofs.lemmas.List.Elements.{All-weaker}
use Rattle.command_base.specs.answer_text.config_record.locales.declared.locale_rule.LocaleRule.{LocaleRule}
use Rattle.resource_text.specs.cert_maker.box_answers.NumberSet.{SetOf}
use Rattle.resource_text.specs.cert_maker.config_box.ByRule.{IsByRule}
use Rattle.resource_text.specs.cert_maker.FitsBox.{FitsBox}
use Rattle.resource_text.specs.cert_maker.cert_tree.Certificate.{GoalOf, GoalFits, NodeFits, goals_of, most_nodes, node_count}
use Rattle.resource_text.specs.cert_maker.res_value.Goal.{GoalSeen}
use Rattle.resource_text.specs.cert_maker.declared.made.Made.{Made}
use Rattle.resource_text.specs.cert_maker.declared.made.Made.TheVariants.{Cert, Counter, NodeLimit}
use Rattle.resource_text.specs.cert_maker.Made.{IsMade, CanBeWritten}
use Rattle.resource_text.specs.cert_maker.cert_checker.FirstFault.{goals_in, IsAccepted}
use Rattle.resource_text.specs.cert_maker.Least.{IsLeast}
use Rattle.command_base.specs.declared.fault.ToolFault.{ToolFault}
use Rattle.command_base.specs.declared.status.Status.{Status}
use Rattle.command_base.specs.declared.status.Status.TheVariants.{Done, Negative}
use Rattle.command_base.specs.Output.{Output, Prints, PrintsOneOf}
use Rattle.resource_tool.specs.Answered.{PrintsBothOneOf}
use Rattle.resource_tool.specs.GoalTold.{goal_told}
use Rattle.resource_tool.specs.MakeOutput.{MakeInputs, IsReadAccepted, IsMakeOutput, IsMakeOutputAbout, IsMakeAnswer, certificate_line, goal_of_made, made_output, made_text}
use Rattle.resource_tool.specs.LineReadsBack.{LineReadsBack, TreesReadBack}

abbrev output_or : Output → Result Output ToolFault → Output
output_or other (Ok output) = output
output_or other (Err fault) = other

same-output : (a b : Output) (meant : Result Output ToolFault) → meant ≡ Ok a → meant ≡ Ok b → a ≡ b
same-output a b meant e f = sym (ap (output_or a) e) ∙ ap (output_or a) f

-- the goals of trees that are for these goals fit where these do
All-goals : (trees : List GoalOf) (asked : List GoalSeen) → goals_in trees ≡ asked → All GoalFits asked → All (λ (g : GoalOf). GoalFits g.goal) trees
All-goals trees asked for fit = λ k d on.
    subst GoalFits (get_or-map (λ (g : GoalOf). g.goal) trees k d d.goal on) (subst (All GoalFits) (sym for) fit k d.goal (simp length-map on))

pub not_done : Negative ≡ Done → ⊥
not_done e = absurd cc

-- the line of trees that are accepted, and have few enough nodes
pub line-read : (asked : List GoalSeen) (most : ℕ) (inputs : MakeInputs) (trees : List GoalOf) → TreesReadBack trees → IsAccepted inputs.stack inputs.sets asked trees → node_count trees ≤ most
    → All (λ (tree : GoalOf). All (NodeFits inputs.rule) tree.nodes) trees → most ≤ most_nodes → All GoalFits asked → IsReadAccepted asked inputs (certificate_line trees)
unfolding TreesReadBack
line-read asked most inputs trees again accepted within fits few styles =
    record {
      trees = trees;
      means = again inputs.rule (record { few = omega (arith, few, within); styles = All-goals trees asked accepted.goals styles; nodes = fits });
      accepted = accepted;
    }

-- the trees of a box fit by the rule of its locales
pub trees-fit : (rule : LocaleRule) (sets : List SetOf) (trees : List GoalOf) → IsByRule rule sets → All (λ (tree : GoalOf). All (FitsBox sets) tree.nodes) trees → All (λ (tree : GoalOf). All (NodeFits rule) tree.nodes) trees
trees-fit rule sets trees by fit =
    All-weaker (λ (tree : GoalOf). All (FitsBox sets) tree.nodes) (λ (tree : GoalOf). All (NodeFits rule) tree.nodes)
    (λ tree each. All-weaker (FitsBox sets) (NodeFits rule) (λ node fits. fits rule by) tree.nodes each) trees fit

reads-back : (asked : List GoalSeen) (most : ℕ) (inputs : MakeInputs) (made : Made) → IsByRule inputs.rule inputs.sets → LineReadsBack made → IsMade inputs.stack inputs.sets asked most made → CanBeWritten inputs.sets made
    → (made_output made).status ≡ Done → most ≤ most_nodes → All GoalFits asked → IsReadAccepted asked inputs (made_output made).text
unfolding made_text
reads-back asked most inputs (Cert certificate) by again right fits done few styles = line-read asked most inputs (goals_of certificate) again right.0 right.2 (trees-fit inputs.rule inputs.sets (goals_of certificate) by fits) few styles
reads-back asked most inputs (Counter g device end) by again right fits done few styles = absurd (not_done done)
reads-back asked most inputs NodeLimit by again right fits done few styles = absurd (not_done done)

-- the answer that was printed is allowed, and about this goal
pub printed-about : {W : Type 0} (contents : W → Option (List ℕ)) (old new : W) (asked : List GoalSeen) (most : ℕ) (inputs : MakeInputs) (status : Status) (made : Made) (about : Option ℕ) → IsByRule inputs.rule inputs.sets
    → Prints contents old new (Ok status) (Ok (made_output made)) → LineReadsBack made → IsMade inputs.stack inputs.sets asked most made
    → IsLeast inputs.stack inputs.sets asked most made → CanBeWritten inputs.sets made → about ≡ goal_of_made made
    → PrintsOneOf (IsMakeOutputAbout asked most about) contents old new (Ok status) (Ok inputs)
printed-about contents old new asked most inputs status made about by (text, is, put) again right least fits of =
    let same : record { status = status; text = text } ≡ made_output made = same-output (record { status = status; text = text }) (made_output made) _ is refl in (
      inputs,
      text,
      refl,
      record {
        printed = record {
          made = made;
          right = right;
          least = least;
          printed = same;
          reads_back = subst (λ (o : Output). o.status ≡ Done → most ≤ most_nodes → All GoalFits asked → IsReadAccepted asked inputs o.text) (sym same) (reads-back asked most inputs made by again right fits);
        };
        goal = of;
      },
      put,
    )

-- the same without the goal
pub without-goal : {W : Type 0} (contents : W → Option (List ℕ)) (old new : W) (asked : List GoalSeen) (most : ℕ) (inputs : MakeInputs) (status : Status) (about : Option ℕ)
    → PrintsOneOf (IsMakeOutputAbout asked most about) contents old new (Ok status) (Ok inputs) → PrintsOneOf (IsMakeOutput asked most) contents old new (Ok status) (Ok inputs)
without-goal contents old new asked most inputs status about (input, text, is, allowed, put) = (input, text, is, allowed.printed, put)

-- what is said beside an answer
pub told-beside : {W V : Type 0} (contents : W → Option (List ℕ)) (says : V → Option (List ℕ)) (old new : W) (before after : V) (asked : List GoalSeen) (most : ℕ) (names : Bool) (inputs : MakeInputs) (status : Status) (about : Option ℕ)
    → PrintsOneOf (IsMakeOutputAbout asked most about) contents old new (Ok status) (Ok inputs) → Appends (says before) (says after) (goal_told inputs.stack asked names about)
    → PrintsBothOneOf (IsMakeAnswer asked most names) contents says old new before after (Ok status) (Ok inputs)
told-beside contents says old new before after asked most names inputs status about (input, text, is, allowed, put) told =
    let same : inputs ≡ input = cc in (
      input,
      text,
      goal_told inputs.stack asked names about,
      is,
      record {
        printed = allowed.printed;
        told =
            ap (λ (i : MakeInputs). goal_told i.stack asked names about) same
            ∙ ap (λ (g : Option ℕ). goal_told input.stack asked names g) allowed.goal;
      },
      put,
      told,
    )
