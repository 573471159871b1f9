use Rattle.std.proofs.Common.{List, ◌++◌, ◌∷◌, [], map, subst, ap, ◌∙◌}
use Rattle.std.proofs.KnownBytes.{Appends-trans}
use Rattle.std.proofs.lemmas.Result.{on_ok_weaker}
use Rattle.std.specs.Io.KnownBytes.{Appends}
use Rattle.answer_text.specs.overlay_map.Layer.{LayerOf}
use Rattle.reference_resolver.specs.config_precedence.config_record.DeviceSeen.{device_numbers}
use Rattle.reference_resolver.specs.Trace.{TracedCandidateOf, scan_look_up, traced}
use Rattle.resource_text.specs.ExplainNotation.{candidates_notation, look_up_notation}
use Rattle.resource_text.specs.Naming.{id_notation}
use Rattle.resource_text.specs.TracedSeen.{traced_of}
use Rattle.resource_text.proofs.explanation.write_look_up.Goals as goal

pub returns : goal.returns
unfolding look_up_notation
returns g c =
    let contents = g.W.Write.contents in
    let naming = c.args.naming.now in
    let id = c.args.id.0 in
    let candidates =
    ap (map traced_of) c.deref.ensures.value ∙ c.in_ok-candidates.ensures
    ∙ ap (λ (layers : List LayerOf). scan_look_up traced layers (device_numbers c.args.device.now) id) c.stack.ensures in
    let to_line = Appends-trans _ _ _ _ _ c.in_ok-write_id.ensures c.in_ok-write_all.ensures.bytes in
    on_ok_weaker c.write_candidates.result (λ last.
    subst (λ (all : List TracedCandidateOf). Appends (contents c.args.out.now) (contents c.write_candidates.new.out) ((id_notation naming id ++ 10 ∷ []) ++ candidates_notation naming c.args.all all)) candidates
    (Appends-trans _ _ _ _ _ to_line last)) c.write_candidates.ensures
