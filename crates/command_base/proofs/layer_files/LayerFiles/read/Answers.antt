use Rattle.std.proofs.Common.{◌≡◌, Bool, IfOk, if◌then◌else◌, subst}
use Rattle.std.proofs.lemmas.Option.{IfSome_then}
use Rattle.command_base.specs.FilesSeen.{layers_held, paths_held}
use Rattle.command_base.specs.Inputs.{file_of, layers_in_file, layers_named, layers_of, paths_in_json, paths_in_word, paths_of_layers}
use Rattle.command_base.specs.Stop.{GivesOrStops}
use Rattle.command_base.proofs.layer_files.LayerFiles.read.Goals as goal

pub returns-then-is_list_word-clause-layers : goal.returns-then-is_list_word-clause-layers
unfolding layers_of
returns-then-is_list_word-clause-layers g c =
    let word = c.args.word.now in
    IfSome_then (g.I.Inputs.places c.args.inputs.now) c.read_named.ensures
    (λ places is. subst (λ (named : Bool). GivesOrStops layers_held c.read_named.result (if named then layers_named places word else layers_in_file places word)) c.if-is_list_word.ensures is.0)

pub returns-then-is_list_word-clause-paths : goal.returns-then-is_list_word-clause-paths
unfolding paths_of_layers
returns-then-is_list_word-clause-paths g c =
    let word = c.args.word.now in
    IfSome_then (g.I.Inputs.places c.args.inputs.now) c.read_named.ensures
    (λ places is. subst (λ (named : Bool). IfOk c.read_named.result (λ files. paths_held files ≡ (if named then paths_in_word word else paths_in_json (file_of places word)))) c.if-is_list_word.ensures is.1)

pub returns-else-is_list_word-clause-layers : goal.returns-else-is_list_word-clause-layers
unfolding layers_of
returns-else-is_list_word-clause-layers g c =
    let word = c.args.word.now in
    IfSome_then (g.I.Inputs.places c.args.inputs.now) c.read_listed.ensures
    (λ places is. subst (λ (named : Bool). GivesOrStops layers_held c.read_listed.result (if named then layers_named places word else layers_in_file places word)) c.if-is_list_word.ensures is.0)

pub returns-else-is_list_word-clause-paths : goal.returns-else-is_list_word-clause-paths
unfolding paths_of_layers
returns-else-is_list_word-clause-paths g c =
    let word = c.args.word.now in
    IfSome_then (g.I.Inputs.places c.args.inputs.now) c.read_listed.ensures
    (λ places is. subst (λ (named : Bool). IfOk c.read_listed.result (λ files. paths_held files ≡ (if named then paths_in_word word else paths_in_json (file_of places word)))) c.if-is_list_word.ensures is.1)
