use Rattle.std.proofs.Common.{◌≡◌, List, map, sym, ap, subst, ◌∙◌}
use Rattle.serde_json.specs.View.{view}
use Rattle.serde_json.specs.Data.{Data}
use Rattle.serde_json.specs.declared.value.Value.TheVariants.{Array}
use Rattle.std.proofs.lemmas.Result.{IfOk-weaker}
use Rattle.cert_tree.specs.WrittenJson.{id_data, node_data, list_data}
use Rattle.cert_tree.proofs.DataSteps.{array-data, id_goal-data, attr_goal-data}
use Rattle.std.specs.List.{All}
use Rattle.res_value.specs.declared.goal.Goal.{Goal}
use Rattle.res_value.specs.declared.res_id.ResId.{ResId}
use Rattle.res_value.specs.Goal.{goal_seen}
use Rattle.cert_tree.specs.declared.node.Node.{Node}
use Rattle.cert_tree.specs.Certificate.{NodeOf, GoalOf, node_of}
use Rattle.cert_tree.specs.ReadsBack.{IdReadsBack, NodeReadsBack, GoalReadsBack}
use Rattle.cert_tree.proofs.ReadsBackLemmas.{in_any_case, id_goal-back, attr_goal-back}
use Rattle.cert_tree.proofs.write.goal_value.Goals as goal

-- this goal with these nodes
unfoldable with_nodes : List NodeOf → Goal → GoalOf
with_nodes nodes asked = record { goal = goal_seen asked; nodes = nodes }

pub returns-in_ok-id-in-Id-clause-reads_back : goal.returns-in_ok-id-in-Id-clause-reads_back
unfolding with_nodes
returns-in_ok-id-in-Id-clause-reads_back c =
    let nodes = map node_of c.args.goal.now.nodes.items in
    let back = subst (λ (ns : List Node). All NodeReadsBack (map node_of ns)) c.as_slice.ensures.value c.in_ok-node_values.ensures.reads_back in
    in_any_case _ (subst (λ (asked : Goal). GoalReadsBack (with_nodes nodes asked)) (sym c.in-Id.is) (id_goal-back c.in-Id.id nodes c.in_ok-id-in-Id.ensures.reads_back back))

pub returns-in_ok-id_values-in-Attr-clause-reads_back : goal.returns-in_ok-id_values-in-Attr-clause-reads_back
unfolding with_nodes
returns-in_ok-id_values-in-Attr-clause-reads_back c =
    let nodes = map node_of c.args.goal.now.nodes.items in
    let back = subst (λ (ns : List Node). All NodeReadsBack (map node_of ns)) c.as_slice.ensures.value c.in_ok-node_values.ensures.reads_back in
    let styles = subst (λ (ids : List ResId). All IdReadsBack ids) c.as_slice-in-Attr.ensures.value c.in_ok-id_values-in-Attr.ensures.reads_back in
    in_any_case _ (subst (λ (asked : Goal). GoalReadsBack (with_nodes nodes asked)) (sym c.in-Attr.is)
    (attr_goal-back c.in-Attr.attr c.in-Attr.styles.items nodes c.in_ok-attr-in-Attr.ensures.reads_back styles back))

pub returns-in_ok-id-in-Id-clause-data : goal.returns-in_ok-id-in-Id-clause-data
returns-in_ok-id-in-Id-clause-data c =
    let listed : Data = list_data (map node_data (map node_of c.args.goal.now.nodes.items)) in
    let nodes : view (Array c.in_ok-node_values.field-0) ≡ listed =
    array-data c.in_ok-node_values.field-0 _ (c.in_ok-node_values.ensures.«data» ∙ ap (λ (ns : List Node). map node_data (map node_of ns)) c.as_slice.ensures.value) in
    IfOk-weaker c.object_of_two.result _ _ (λ value is. is ∙ id_goal-data (view c.in_ok-id-in-Id.id) (view (Array c.in_ok-node_values.field-0)) c.args.goal.now.goal c.in-Id.id listed c.in_ok-id-in-Id.ensures.«data» nodes (ap goal_seen c.in-Id.is)) c.object_of_two.ensures

pub returns-in_ok-id_values-in-Attr-clause-data : goal.returns-in_ok-id_values-in-Attr-clause-data
returns-in_ok-id_values-in-Attr-clause-data c =
    let listed : Data = list_data (map node_data (map node_of c.args.goal.now.nodes.items)) in
    let nodes : view (Array c.in_ok-node_values.field-0) ≡ listed =
    array-data c.in_ok-node_values.field-0 _ (c.in_ok-node_values.ensures.«data» ∙ ap (λ (ns : List Node). map node_data (map node_of ns)) c.as_slice.ensures.value) in
    let styles : view (Array c.in_ok-id_values-in-Attr.field-0) ≡ list_data (map id_data c.in-Attr.styles.items) =
    array-data c.in_ok-id_values-in-Attr.field-0 _ (c.in_ok-id_values-in-Attr.ensures.«data» ∙ ap (map id_data) c.as_slice-in-Attr.ensures.value) in
    IfOk-weaker c.object_of_three.result _ _ (λ value is. is
    ∙ attr_goal-data (view c.in_ok-attr-in-Attr.attr) (view (Array c.in_ok-id_values-in-Attr.field-0)) (view (Array c.in_ok-node_values.field-0)) c.args.goal.now.goal c.in-Attr.attr c.in-Attr.styles.items listed
    c.in_ok-attr-in-Attr.ensures.«data» styles nodes (ap goal_seen c.in-Attr.is)) c.object_of_three.ensures
