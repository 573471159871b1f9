use Rattle.std.proofs.Common.{List, inl, inr, refl, subst, ◌∙◌}
use Rattle.std.proofs.lemmas.Result.{IfOk-weaker}
use Rattle.cert_maker.specs.box_answers.NumberSet.{SetOf}
use Rattle.cert_maker.specs.box_answers.Members.{IsMember}
use Rattle.cert_maker.specs.cert_checker.box_trace.Parting.{answer_of}
use Rattle.cert_maker.specs.Growth.{CanBeAsked}
use Rattle.cert_maker.specs.Needed.{IsNeededTest}
use Rattle.cert_maker.specs.config_box.Tests.{test_of}
use Rattle.stack_diff.specs.declared.pair_box.PairTrace.{PairTrace}
use Rattle.stack_diff.specs.PairBox.{members_of, IsPairTrace}
use Rattle.stack_diff.specs.Tree.{TellsLeaf}
use Rattle.stack_diff.proofs.Both.{adds-test}
use Rattle.stack_diff.proofs.tree.add_node.Goals as goal

pub returns : goal.returns
returns c =
    let part = members_of c.args.part.now in
    let traced = c.in_ok-parting.ensures in
    let parts = subst (IsPairTrace c.args.pair part) c.in-Parted.is traced.trace in
    let needed = subst (λ (sets : List SetOf). IsNeededTest (answer_of c.in-Parted.parting) sets (IsMember sets) (test_of c.in_ok-test.test)) c.members-2.ensures c.in_ok-test.ensures.needed in
    IfOk-weaker c.push_halves.result _ _ (λ _ pushes. record {
      node = inl (adds-test c.args.pair part (members_of c.trace.new.self) c.in-Parted.parting (test_of c.in_ok-test.test) _ _ traced.members parts needed pushes.halves, refl);
      goes_on = pushes.goes_on c.args.pair traced.is_open;
    })
    c.push_halves.ensures

pub push_halves-requires-clause-same : goal.push_halves-requires-clause-same
push_halves-requires-clause-same c = c.in_ok-parting.ensures.is_open.same

pub push_halves-requires-clause-asked : goal.push_halves-requires-clause-asked
push_halves-requires-clause-asked c = subst (λ (sets : List SetOf). CanBeAsked sets (test_of c.in_ok-test.test)) c.members-2.ensures c.in_ok-test.ensures.needed.passes

pub returns-in-One : goal.returns-in-One
returns-in-One c =
    let traced = c.in_ok-parting.ensures in
    let part = members_of c.args.part.now in
    let one = subst (λ (trace : PairTrace). IsPairTrace c.args.pair part trace) c.in-One.is traced.trace in
    IfOk-weaker c.tell_leaf.result _ _ (λ _ tells. record {
      node = inr (record {
        same = refl;
        one = one.0;
        tells = subst (λ (sets : List SetOf). TellsLeaf c.args.pair sets c.args.told.now.items c.tell_leaf.new.told.items) (c.members.ensures ∙ traced.members) tells;
      });
      goes_on = λ are. are;
    })
    c.tell_leaf.ensures
