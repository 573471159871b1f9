use Rattle.std.proofs.Common.{◌≡◌, ℕ, List, Bor, Result, Ok, map, ap, ◌∙◌}
use Rattle.std.proofs.lemmas.Option.{IfSome_then}
use Rattle.std.proofs.lemmas.Result.{err_from_is_err_and}
use Rattle.contract_words.specs.Faults.{◌>>=◌}
use Rattle.contract_words.specs.Sequences.{joined_each}
use Rattle.command_base.specs.DeviceFiles.{AskedBytes, DeviceBytes, asked_files, device_files}
use Rattle.command_base.specs.FileWords.{words_at}
use Rattle.command_base.specs.Inputs.{Places}
use Rattle.command_base.specs.Stop.{StopOf}
use Rattle.command_base.proofs.StopSteps.{IfSome-both}
use Rattle.command_base.proofs.device_files.AskedFiles.read.Goals as goal

abbrev with_words : DeviceBytes → Result (List (List ℕ)) StopOf → Result AskedBytes StopOf
with_words files words = words >>= λ words. Ok (record { layers = files.layers; paths = files.paths; device = files.device; words = words })

abbrev with_files : Places → List (List ℕ) → Result DeviceBytes StopOf → Result AskedBytes StopOf
with_files places words files = files >>= λ files. with_words files (joined_each (words_at places) words)

of-files : (places : Places) (path word : List ℕ) (words : List (List ℕ)) (files : Result DeviceBytes StopOf) → device_files places path word ≡ files → asked_files places path word words ≡ with_files places words files
unfolding asked_files
of-files places path word words files are = ap (with_files places words) are

pub returns-in_err-layers : goal.returns-in_err-layers
returns-in_err-layers g c =
    let words = map (λ (word : Bor (List ℕ)). word.now) c.args.words.now in
    let p = err_from_is_err_and c.from_residual.result c.from_residual.ensures.1 in
    rw (p.1, p.2)
    (IfSome_then (g.I.Inputs.places c.args.inputs.now) c.in_err-layers.ensures (λ places is other. of-files places c.args.layers_path.now c.args.device.now words _ (is other)))

pub returns-in_err-words : goal.returns-in_err-words
returns-in_err-words g c =
    let words = map (λ (word : Bor (List ℕ)). word.now) c.args.words.now in
    let p = err_from_is_err_and c.from_residual-in_err-words.result c.from_residual-in_err-words.ensures.1 in
    rw (p.1, p.2)
    (IfSome-both (g.I.Inputs.places c.args.inputs.now) c.in_ok-layers.ensures c.in_err-words.ensures
    (λ places files is other. of-files places c.args.layers_path.now c.args.device.now words _ files ∙ ap (with_words _) (is other)))

pub returns : goal.returns
returns g c =
    let words = map (λ (word : Bor (List ℕ)). word.now) c.args.words.now in
    IfSome-both (g.I.Inputs.places c.args.inputs.now) c.in_ok-layers.ensures c.in_ok-words.ensures
    (λ places files is. of-files places c.args.layers_path.now c.args.device.now words _ files ∙ ap (with_words _) is)
