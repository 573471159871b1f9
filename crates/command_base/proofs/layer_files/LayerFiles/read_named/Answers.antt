use Rattle.std.proofs.Common.{map, refl, ap, ◌∙◌, length, ◌≡◌, arith, List}
use Rattle.std.proofs.lemmas.Option.{IfSome_then}
use Rattle.std.proofs.lemmas.List.{length-map}
use Rattle.std.proofs.lemmas.Result.{err_from_is_err_and}
use Rattle.command_base.specs.declared.list_word.ListedLayer.{ListedLayer}
use Rattle.command_base.specs.ListWord as words
use Rattle.command_base.specs.ListWordSeen.{listed_of}
use Rattle.command_base.proofs.StopSteps.{IfSome-all}
use Rattle.command_base.proofs.NamedLeft.{named-within, named-refused}
use Rattle.command_base.proofs.layer_files.LayerFiles.read_named.Goals as goal

pub returns-in_err-layers : goal.returns-in_err-layers
returns-in_err-layers g c =
    let p = err_from_is_err_and c.from_residual.result c.from_residual.ensures.1 in
    rw (p.1, p.2) (IfSome-all (g.I.Inputs.places c.args.inputs.now) (λ places. (λ other. absurd (other refl), tt)))

pub returns-in_err-check_count : goal.returns-in_err-check_count
returns-in_err-check_count g c =
    let layers = map listed_of c.in_ok-layers.layers.items in
    let p = err_from_is_err_and c.from_residual-in_err-check_count.result c.from_residual-in_err-check_count.ensures.1 in
    let counted : c.len.result ≡ length layers = omega (arith, length-map c.in_ok-layers.layers.items listed_of, c.in_ok-layers.layers.ok, c.len.ensures) in
    rw (p.1, p.2)
    (IfSome-all (g.I.Inputs.places c.args.inputs.now)
    (λ places. (λ other. named-refused places c.args.word.now layers c.len.result c.in_err-check_count.field-0.0 c.in_ok-layers.ensures counted c.in_err-check_count.ensures, tt)))

pub returns-in_err-paths : goal.returns-in_err-paths
returns-in_err-paths g c =
    let p = err_from_is_err_and c.from_residual-in_err-paths.result c.from_residual-in_err-paths.ensures.1 in
    rw (p.1, p.2) (IfSome-all (g.I.Inputs.places c.args.inputs.now) (λ places. (λ other. absurd (other refl), tt)))

pub returns-in_err-files : goal.returns-in_err-files
returns-in_err-files g c =
    let layers = map listed_of c.deref-2.result.now in
    let p = err_from_is_err_and c.from_residual-in_err-files.result c.from_residual-in_err-files.ensures.1 in
    let lists = ap (λ (layers : List ListedLayer). map listed_of layers) c.deref-2.ensures.value ∙ c.in_ok-layers.ensures in
    let counted : c.len.result ≡ length layers = omega (arith, length-map c.deref-2.result.now listed_of, c.deref-2.ensures.len, c.len.ensures) in
    rw (p.1, p.2)
    (IfSome_then (g.I.Inputs.places c.args.inputs.now) c.in_err-files.ensures
    (λ places is. (λ other. named-within places c.args.word.now layers c.len.result _ lists counted c.in_ok-check_count.ensures (is other), tt)))

pub returns : goal.returns
returns g c =
    let layers = map listed_of c.deref-2.result.now in
    let lists = ap (λ (layers : List ListedLayer). map listed_of layers) c.deref-2.ensures.value ∙ c.in_ok-layers.ensures in
    let counted : c.len.result ≡ length layers = omega (arith, length-map c.deref-2.result.now listed_of, c.deref-2.ensures.len, c.len.ensures) in
    let paths = c.in_ok-paths.ensures
    ∙ ap (λ (layers : List ListedLayer). map (λ (layer : words.ListedLayer). layer.path) (map listed_of layers)) c.deref.ensures.value
    ∙ ap (λ (layers : List words.ListedLayer). map (λ (layer : words.ListedLayer). layer.path) layers) c.in_ok-layers.ensures in
    IfSome_then (g.I.Inputs.places c.args.inputs.now) c.in_ok-files.ensures
    (λ places is. (named-within places c.args.word.now layers c.len.result _ lists counted c.in_ok-check_count.ensures is, paths))
