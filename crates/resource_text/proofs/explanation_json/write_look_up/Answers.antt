use Rattle.std.proofs.Common.{List, ◌++◌, map, subst, ap, ◌∙◌}
use Rattle.std.proofs.KnownBytes.{Appends-trans}
use Rattle.std.proofs.lemmas.Result.{on_ok_weaker}
use Rattle.std.specs.Io.KnownBytes.{Appends}
use Rattle.std.specs.List.{flat_map}
use Rattle.std.specs.Prelude.{codes}
use Rattle.serde_json.specs.Written.{members_have_float}
use Rattle.answer_text.specs.overlay_map.Layer.{LayerOf}
use Rattle.reference_resolver.specs.config_precedence.config_record.DeviceSeen.{device_numbers}
use Rattle.reference_resolver.specs.Trace.{TracedCandidateOf, scan_look_up, traced}
use Rattle.resource_text.specs.EndJson.{with_id}
use Rattle.resource_text.specs.ExplainJson.{candidate_json, look_up_json}
use Rattle.resource_text.specs.LineJson.{line_members, line_json}
use Rattle.resource_text.specs.TracedSeen.{traced_of}
use Rattle.resource_text.proofs.NoFloatLines.{id-no_float, line-no_float}
use Rattle.resource_text.proofs.explanation_json.write_look_up.Goals as goal

pub write_line-requires : goal.write_line-requires
write_line-requires g c =
    let naming = c.args.naming.now in
    ap members_have_float (c.in_ok-put_id.ensures ∙ ap (with_id naming c.args.id.0) c.in_ok-members.ensures)
    ∙ id-no_float naming c.args.id.0 (line_members (codes "look-up")) (line-no_float (codes "look-up"))

pub returns : goal.returns
unfolding look_up_json
returns g c =
    let contents = g.W.Write.contents in
    let naming = c.args.naming.now in
    let id = c.args.id.0 in
    let members = c.in_ok-put_id.ensures ∙ ap (with_id naming id) c.in_ok-members.ensures in
    let line = rw members at c.in_ok-write_line.ensures in
    let candidates =
    ap (map traced_of) c.deref.ensures.value ∙ c.in_ok-candidates.ensures
    ∙ ap (λ (layers : List LayerOf). scan_look_up traced layers (device_numbers c.args.device.now) id) c.stack.ensures in
    on_ok_weaker c.write_candidates.result (λ last.
    subst (λ (all : List TracedCandidateOf). Appends (contents c.args.out.now) (contents c.write_candidates.new.out)
    (line_json (with_id naming id (line_members (codes "look-up"))) ++ flat_map (candidate_json naming c.args.id) all)) candidates
    (Appends-trans _ _ _ _ _ line last)) c.write_candidates.ensures
