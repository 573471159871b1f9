use Rattle.std.proofs.Common.{◌≡◌, ◌+◌, List, [], ◌∷◌, ◌++◌, Option, map, take, drop, sym, ◌∙◌, ap, subst}
use Rattle.std.specs.List.{AllZip}
use Rattle.std.proofs.lemmas.List.{map-append}
use Rattle.stack_diff.specs.names.Pairs.{PairOf, pair_of}
use Rattle.stack_diff.specs.Stacks.{stacks_of}
use Rattle.resource_tool.specs.declared.judged.Judged.{Judged}
use Rattle.resource_tool.specs.Judged.{told_of, IsJudged}
use Rattle.resource_tool.specs.Telling.{ToldOf, IsTold}
use Rattle.resource_tool.proofs.Counts.{zip-push, above, one-more, pairs-up-to, pairs-around}
use Rattle.resource_tool.proofs.judged.tell_all.Goals as goal

pub returns-in_default : goal.returns-in_default
returns-in_default g c =
    let pair = c.pair-item.result in
    let around = pairs-around c.args.pairs.now c.loop-pair.pair-index pair c.loop-pair-test.true c.pair-item.is in
    let more = subst (λ (judged : Option Judged). IsJudged c.args.form (stacks_of c.args.stacks) c.args.members.now pair.sides c.loop-pair.spare judged) c.in_default.is c.in_ok-judged.ensures.0 in
    above (stacks_of c.args.stacks) c.args.members.now (map pair_of c.args.pairs.now) (map pair_of (take c.loop-pair.pair-index c.args.pairs.now)) (map pair_of (drop (c.loop-pair.pair-index + 1) c.args.pairs.now)) (pair_of pair) c.loop-pair.spare
    c.args.max_nodes around c.loop-pair.invariant.trees more

pub loop-pair-preserved : goal.loop-pair-preserved
loop-pair-preserved g c =
    let pair = c.pair-item.result in
    let stacks = stacks_of c.args.stacks in
    let sets = c.args.members.now in
    let done = map pair_of (take c.loop-pair.pair-index c.args.pairs.now) in
    let more = pairs-up-to c.args.pairs.now c.loop-pair.pair-index pair c.loop-pair-test.true c.pair-item.is in
    let judged = subst (λ (judged : Option Judged). IsJudged c.args.form stacks sets pair.sides c.loop-pair.spare judged) c.in-Some.is c.in_ok-judged.ensures.0 in
    let told : map told_of c.push.new.self.items ≡ map told_of c.loop-pair.told.items ++ told_of c.in-Some.judged.told ∷ [] =
    ap (map told_of) c.in_ok-push.ensures.items ∙ map-append told_of c.loop-pair.told.items (c.in-Some.judged.told ∷ []) in
    record {
      told = subst (λ (all : List ToldOf). AllZip (λ (p : PairOf) (t : ToldOf). IsTold c.args.form stacks sets p.sides t) (map pair_of (take (c.loop-pair.pair-index + 1) c.args.pairs.now)) all) (sym told)
          (subst (λ (pairs : List PairOf). AllZip (λ (p : PairOf) (t : ToldOf). IsTold c.args.form stacks sets p.sides t) pairs (map told_of c.loop-pair.told.items ++ told_of c.in-Some.judged.told ∷ [])) (sym more)
          (zip-push (λ (p : PairOf) (t : ToldOf). IsTold c.args.form stacks sets p.sides t) done (map told_of c.loop-pair.told.items) (pair_of pair) (told_of c.in-Some.judged.told) c.loop-pair.invariant.told judged.0.told));
      trees = one-more stacks sets (map pair_of (take (c.loop-pair.pair-index + 1) c.args.pairs.now)) done (pair_of pair) c.loop-pair.spare c.in-Some.judged.nodes c.args.max_nodes more c.loop-pair.invariant.trees judged.0.tree judged.1;
      kept = c.in_ok-judged.ensures.1;
    }
