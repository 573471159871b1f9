use Rattle.std.proofs.Common.{◌+◌, ◌++◌, [], ◌∷◌, List, map, drop, ap, sym, ◌∙◌, append_assoc}
use Rattle.std.proofs.lemmas.List.{append-nil, drop_all}
use Rattle.names.specs.declared.named_stack.Labelled as code
use Rattle.names.specs.Merged.{labelled_of, merged, removed}
use Rattle.names.specs.Pairs.{PairOf, pair_of}
use Rattle.names.proofs.AskedSteps.{split_at}
use Rattle.names.proofs.pair.merge.Goals as goal

pub loop-one-preserved : goal.loop-one-preserved
loop-one-preserved c =
    let l = c.loop-one in
    let news = c.args.new.now in
    l.invariant
    ∙ ap (λ (ones : List code.Labelled). map pair_of l.pairs.items ++ merged (map labelled_of (drop l.place c.args.old.now)) (map labelled_of ones)) (split_at news l.one-index c.one-item.result c.loop-one-test.true c.one-item.is)
    ∙ c.in_ok-place.ensures (map labelled_of (drop (l.one-index + 1) news))

pub loop-left-init : goal.loop-left-init
loop-left-init c =
    let l = c.loop-one in
    l.invariant ∙ ap (λ (ones : List code.Labelled). map pair_of l.pairs.items ++ merged (map labelled_of (drop l.place c.args.old.now)) (map labelled_of ones)) (drop_all l.one-index c.args.new.now c.loop-one-test.false)

pub loop-left-preserved : goal.loop-left-preserved
loop-left-preserved c =
    let l = c.loop-left in
    let olds = c.args.old.now in
    let others = merged (map labelled_of (drop (l.left + 1) olds)) [] in
    let first = c.index-old-left in
    l.invariant
    ∙ ap (λ (ones : List code.Labelled). map pair_of l.pairs.items ++ merged (map labelled_of ones) []) (split_at olds l.left first.result c.loop-left-test.true first.is)
    ∙ sym (append_assoc (map pair_of l.pairs.items) (removed (labelled_of first.result) ∷ []) others)
    ∙ ap (λ (pairs : List PairOf). pairs ++ others) (sym c.in_ok-push_pair.ensures)

pub returns : goal.returns
returns c =
    let l = c.loop-left in
    sym (l.invariant ∙ ap (λ (olds : List code.Labelled). map pair_of l.pairs.items ++ merged (map labelled_of olds) []) (drop_all l.left c.args.old.now c.loop-left-test.false) ∙ append-nil (map pair_of l.pairs.items))
