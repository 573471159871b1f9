use Rattle.std.proofs.Common.{ℕ, List, Bor, map}
use Rattle.std.proofs.lemmas.Result.{err_from_is_err_and}
use Rattle.contract_words.specs.Sequences.{joined_each}
use Rattle.command_base.specs.FilesSeen.{layers_held}
use Rattle.command_base.specs.FileWords.{strings_held, words_at}
use Rattle.command_base.specs.Inputs.{file_of, layers_on_side}
use Rattle.command_base.specs.declared.side.Side.TheVariants.{Old, New}
use Rattle.command_base.proofs.ReadInTurn.{first_stops, behind_stops, behind_read, last_read}
use Rattle.resource_tool.specs.Diff.{diff_files}
use Rattle.resource_tool.proofs.diff.DiffFiles.read.Goals as goal

pub returns-in_err-old : goal.returns-in_err-old
unfolding diff_files
returns-in_err-old g c =
    let p = err_from_is_err_and c.from_residual.result c.from_residual.ensures.1 in
    let known = g.I.Inputs.places c.args.inputs.now in
    rw (p.1, p.2)
    (first_stops known (λ places. layers_on_side Old places c.args.old_path.now) _ _ c.in_err-old.ensures)

pub returns-in_err-new : goal.returns-in_err-new
unfolding diff_files
returns-in_err-new g c =
    let p = err_from_is_err_and c.from_residual-in_err-new.result c.from_residual-in_err-new.ensures.1 in
    let known = g.I.Inputs.places c.args.inputs.now in
    rw (p.1, p.2)
    (behind_stops known (λ places. layers_on_side Old places c.args.old_path.now) _ _ _ c.in_ok-old.ensures
    (first_stops known (λ places. layers_on_side New places c.args.new_path.now) _ _ c.in_err-new.ensures))

pub returns-in_err-box_json : goal.returns-in_err-box_json
unfolding diff_files
returns-in_err-box_json g c =
    let p = err_from_is_err_and c.from_residual-in_err-box_json.result c.from_residual-in_err-box_json.ensures.1 in
    let known = g.I.Inputs.places c.args.inputs.now in
    rw (p.1, p.2)
    (behind_stops known (λ places. layers_on_side Old places c.args.old_path.now) _ _ _ c.in_ok-old.ensures
    (behind_stops known (λ places. layers_on_side New places c.args.new_path.now) _ _ _ c.in_ok-new.ensures
    (first_stops known (λ places. file_of places c.args.box_path.now) _ _ c.in_err-box_json.ensures)))

pub returns-in_err-words : goal.returns-in_err-words
unfolding diff_files
returns-in_err-words g c =
    let words = map (λ (word : Bor (List ℕ)). word.now) c.args.words.now in
    let p = err_from_is_err_and c.from_residual-in_err-words.result c.from_residual-in_err-words.ensures.1 in
    let known = g.I.Inputs.places c.args.inputs.now in
    rw (p.1, p.2)
    (behind_stops known (λ places. layers_on_side Old places c.args.old_path.now) _ _ _ c.in_ok-old.ensures
    (behind_stops known (λ places. layers_on_side New places c.args.new_path.now) _ _ _ c.in_ok-new.ensures
    (behind_stops known (λ places. file_of places c.args.box_path.now) _ _ _ c.in_ok-box_json.ensures
    (first_stops known (λ places. joined_each (words_at places) words) _ _ c.in_err-words.ensures))))

pub returns : goal.returns
unfolding diff_files
returns g c =
    let words = map (λ (word : Bor (List ℕ)). word.now) c.args.words.now in
    let known = g.I.Inputs.places c.args.inputs.now in
    behind_read known (λ places. layers_on_side Old places c.args.old_path.now) _ (layers_held c.in_ok-old.old) _ c.in_ok-old.ensures
    (behind_read known (λ places. layers_on_side New places c.args.new_path.now) _ (layers_held c.in_ok-new.new) _ c.in_ok-new.ensures
    (behind_read known (λ places. file_of places c.args.box_path.now) _ c.in_ok-box_json.box_json.items _ c.in_ok-box_json.ensures
    (last_read known (λ places. joined_each (words_at places) words) _ (strings_held c.in_ok-words.words) c.in_ok-words.ensures)))
