use Rattle.std.proofs.Common.{OnOk, None, subst, ap, ◌∙◌}
use Rattle.std.specs.Io.KnownBytes.{Appends}
use Rattle.std.specs.Prelude.{codes}
use Rattle.serde_json.specs.Data.{Data, Members, put}
use Rattle.serde_json.specs.View.{view, members_view}
use Rattle.serde_json.specs.Written.{has_float, members_have_float}
use Rattle.resource_text.specs.EndJson.{place_data, end_data}
use Rattle.resource_text.specs.ExplainJson.{decision_data, held, candidate_json}
use Rattle.resource_text.specs.LineJson.{line_json}
use Rattle.resource_text.specs.TracedSeen.{traced_of}
use Rattle.resource_text.proofs.NoFloat.{put-no_float}
use Rattle.resource_text.proofs.NoFloatLines.{place-no_float, end-no_float, decision-no_float, line-no_float}
use Rattle.resource_text.proofs.explanation_json.write_candidate.Goals as goal

pub write_line-requires : goal.write_line-requires
write_line-requires g c =
    let lined = ap members_have_float c.in_ok-members.ensures ∙ line-no_float (codes "candidate") in
    let decision = ap has_float c.in_ok-decision.ensures ∙ decision-no_float c.args.traced.now.decision in
    let decided = ap members_have_float c.in_ok-put.ensures.ok ∙ put-no_float (codes "decision") (view c.in_ok-decision.decision) (members_view c.in_ok-members.members.entries) decision lined in
    let place = ap has_float c.in_ok-place.ensures ∙ place-no_float c.args.naming.now _ _ in
    let placed = ap members_have_float c.in_ok-put-2.ensures.ok ∙ put-no_float (codes "from") (view c.in_ok-place.place) (members_view c.put.new.map.entries) place decided in
    let held = ap has_float c.in_ok-held.ensures ∙ end-no_float c.args.naming.now _ c.held.result in
    ap members_have_float c.in_ok-put-3.ensures.ok ∙ put-no_float (codes "holds") (view c.in_ok-held.held) (members_view c.put-2.new.map.entries) held placed

pub returns : goal.returns
unfolding candidate_json
returns g c =
    let contents = g.W.Write.contents in
    let naming = c.args.naming.now in
    let traced = traced_of c.args.traced.now in
    let holds = end_data naming None (held c.args.id traced.candidate.layer traced.candidate.row.cell) in
    let place = place_data naming traced.candidate.layer traced.candidate.row.config in
    let decided =
    c.in_ok-put.ensures.ok
    ∙ ap (λ (d : Data). put (codes "decision") d (members_view c.in_ok-members.members.entries)) c.in_ok-decision.ensures
    ∙ ap (put (codes "decision") (decision_data traced.decision)) c.in_ok-members.ensures in
    let placed =
    c.in_ok-put-2.ensures.ok
    ∙ ap (λ (p : Data). put (codes "from") p (members_view c.put.new.map.entries)) c.in_ok-place.ensures
    ∙ ap (put (codes "from") place) decided in
    let members =
    c.in_ok-put-3.ensures.ok
    ∙ ap (λ (h : Data). put (codes "holds") h (members_view c.put-2.new.map.entries)) (c.in_ok-held.ensures ∙ ap (end_data naming None) c.held.ensures)
    ∙ ap (put (codes "holds") holds) placed in
    subst (λ (ms : Members). OnOk c.write_line.result (Appends (contents c.args.out.now) (contents c.write_line.new.out) (line_json ms))) members c.write_line.ensures
