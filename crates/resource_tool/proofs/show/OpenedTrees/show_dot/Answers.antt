use Rattle.std.proofs.Common.{◌≡◌, ℕ, List, Option, Some, Result, Ok, option_map, slice_get, refl, ap, subst, sym, ◌∙◌}
use Rattle.std.proofs.lemmas.Option.{slice_get-map, slice_get_read, slice_get_past}
use Rattle.std.specs.Io.KnownBytes.{Appends}
use Rattle.command_base.specs.declared.fault.ToolFault.{ToolFault}
use Rattle.command_base.specs.overlay_map.Layer.{LayerOf}
use Rattle.command_base.specs.cert_tree.declared.cert.CertGoal.{CertGoal}
use Rattle.command_base.specs.cert_tree.Certificate.{GoalOf, goal_of, goals_of}
use Rattle.command_base.specs.Output.{Output}
use Rattle.resource_tool.specs.DotText.{dot_text}
use Rattle.resource_tool.specs.ShowOutput.{picture}
use Rattle.resource_tool.proofs.show.OpenedTrees.show_dot.Goals as goal

pub returns-in_ok-write_all-in-Some : goal.returns-in_ok-write_all-in-Some
returns-in_ok-write_all-in-Some g c =
    let old = g.W.Write.contents c.args.out.now in
    let new = g.W.Write.contents c.write_all.new.self in
    let opened = c.args.self.now in
    let tree = c.in-Some.tree.now in
    let picture_by : List LayerOf → List ℕ = λ stack. dot_text c.args.form stack c.args.goal (goal_of tree) in
    let answer : Option GoalOf → Result Output ToolFault = λ it. Ok (picture c.args.form opened.stack c.args.goal it) in
    let lookup = c.in-Some.ensures.lookup in
    let there : slice_get opened.certificate.goals.items c.args.goal ≡ Some tree =
    ap (λ (trees : List CertGoal). slice_get trees c.args.goal) (sym c.as_slice.ensures.value)
    ∙ slice_get_read c.as_slice.result.now _ c.args.goal tree refl lookup.3.0 lookup.1 in
    let meant : slice_get (goals_of opened.certificate) c.args.goal ≡ Some (goal_of tree) =
    slice_get-map goal_of opened.certificate.goals.items c.args.goal ∙ ap (λ (it : Option CertGoal). option_map goal_of it) there in
    let text : c.deref.result.now ≡ picture_by opened.stack =
    c.deref.ensures.value ∙ c.in_ok-text-in-Some.ensures ∙ ap picture_by c.in_ok-names-in-Some.ensures in (
      picture_by opened.stack,
      ap answer meant,
      subst (λ (t : List ℕ). Appends old new t) text c.in_ok-write_all-in-Some.ensures.bytes,
    )

pub returns-in-None : goal.returns-in-None
returns-in-None g c =
    let goals = c.args.self.now.certificate.goals.items in
    let there = slice_get_past goals c.args.goal (rw c.as_slice.ensures.value at c.in-None.ensures.lookup.3) in
    rw (slice_get-map goal_of goals c.args.goal, there) c.print_no_goal.ensures
