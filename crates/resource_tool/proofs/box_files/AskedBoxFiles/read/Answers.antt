use Rattle.std.proofs.Common.{ℕ, List, Bor, map}
use Rattle.std.proofs.lemmas.Result.{err_from_is_err_and}
use Rattle.contract_words.specs.Sequences.{joined_each}
use Rattle.command_base.specs.FileWords.{strings_held, words_at}
use Rattle.command_base.proofs.ReadInTurn.{first_stops, behind_stops, behind_read, last_read}
use Rattle.resource_tool.specs.BoxFiles.{box_files, asked_box_files}
use Rattle.resource_tool.proofs.box_files.AskedBoxFiles.read.Goals as goal

pub returns-in_err-layers : goal.returns-in_err-layers
unfolding asked_box_files
returns-in_err-layers g c =
    let p = err_from_is_err_and c.from_residual.result c.from_residual.ensures.1 in
    let known = g.I.Inputs.places c.args.inputs.now in
    rw (p.1, p.2)
    (first_stops known (λ places. box_files places c.args.layers_path.now c.args.box_path.now) _ _ c.in_err-layers.ensures)

pub returns-in_err-words : goal.returns-in_err-words
unfolding asked_box_files
returns-in_err-words g c =
    let words = map (λ (word : Bor (List ℕ)). word.now) c.args.words.now in
    let p = err_from_is_err_and c.from_residual-in_err-words.result c.from_residual-in_err-words.ensures.1 in
    let known = g.I.Inputs.places c.args.inputs.now in
    rw (p.1, p.2)
    (behind_stops known (λ places. box_files places c.args.layers_path.now c.args.box_path.now) _ _ _ c.in_ok-layers.ensures
    (first_stops known (λ places. joined_each (words_at places) words) _ _ c.in_err-words.ensures))

pub returns : goal.returns
unfolding asked_box_files
returns g c =
    let words = map (λ (word : Bor (List ℕ)). word.now) c.args.words.now in
    let known = g.I.Inputs.places c.args.inputs.now in
    behind_read known (λ places. box_files places c.args.layers_path.now c.args.box_path.now) _ _ _ c.in_ok-layers.ensures
    (last_read known (λ places. joined_each (words_at places) words) _ (strings_held c.in_ok-words.words) c.in_ok-words.ensures)
