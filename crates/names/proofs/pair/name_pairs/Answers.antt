use Rattle.std.proofs.Common.{List, map, sym, subst, ap, ◌∙◌}
use Rattle.std.proofs.lemmas.Result.{IfOk-weaker}
use Rattle.names.specs.Merged.{labelled_of, merged}
use Rattle.names.specs.Pairs.{PairOf}
use Rattle.names.specs.Laws.{AreSideBySide}
use Rattle.names.proofs.MergedSteps.{pairs-merged}
use Rattle.names.proofs.SideBySide.{side_by_side}
use Rattle.names.proofs.pair.name_pairs.Goals as goal

pub returns : goal.returns
returns c =
    let old = c.args.old.now in
    let new = c.args.new.now in
    let whole = ap (λ olds. merged (map labelled_of olds) (map labelled_of c.deref-2.result.now)) c.deref.ensures.value
    ∙ ap (λ news. merged (map labelled_of c.in_ok-olds.olds.items) (map labelled_of news)) c.deref-2.ensures.value
    ∙ pairs-merged old new _ _ c.in_ok-olds.ensures c.in_ok-news.ensures in
    record {
      pairs = IfOk-weaker c.merge.result _ _ (λ pairs is. is ∙ whole) c.merge.ensures;
      side_by_side = IfOk-weaker c.merge.result _ _ (λ pairs is. subst (λ (ps : List PairOf). AreSideBySide old new ps) (sym (is ∙ whole)) (side_by_side old new)) c.merge.ensures;
    }
