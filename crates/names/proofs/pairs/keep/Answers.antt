use Rattle.std.proofs.Common.{Bool, cond, ◌++◌, ◌∷◌, [], List, Result, Ok, map, sym, ap, ◌∙◌}
use Rattle.std.proofs.lemmas.List.{append-nil}
use Rattle.std.specs.Vec.Iter.{into_iter_items}
use Rattle.names.specs.NameFault.{NameFaultOf}
use Rattle.names.specs.declared.pair.NamePair.{NamePair}
use Rattle.names.specs.Pairs.{PairOf, pair_of}
use Rattle.names.proofs.PairSteps.{kept-end, kept-next}
use Rattle.names.proofs.pairs.keep.Goals as goal

pub returns : goal.returns
returns c =
    let wrapped : List NamePair → Result (List PairOf) NameFaultOf = λ pairs. Ok (map pair_of pairs) in
    ap wrapped (sym (kept-end c.loop-pair.pair-iterator (into_iter_items c.loop-pair.flags) c.loop-pair.kept.items _ c.loop-pair.invariant c.in-None.ensures.steps.0))

pub loop-pair-preserved-in-Continue-1 : goal.loop-pair-preserved-in-Continue-1
loop-pair-preserved-in-Continue-1 c =
    let pair = c.in-Some.pair in
    let kept = c.loop-pair.kept.items in
    kept-next c.loop-pair.pair-iterator c.next.new.self c.loop-pair.flags c.next-in-loop-pair.new.self c.next-in-loop-pair.result pair kept _ _ c.loop-pair.invariant c.in-Some.ensures.steps.0 c.next-in-loop-pair.ensures.cases
    (c.in_ok-push.ensures.items ∙ ap (λ (b : Bool). kept ++ cond b (pair ∷ []) []) c.if-unwrap_or.ensures)

pub loop-pair-preserved : goal.loop-pair-preserved
loop-pair-preserved c =
    let pair = c.in-Some.pair in
    let kept = c.loop-pair.kept.items in
    kept-next c.loop-pair.pair-iterator c.next.new.self c.loop-pair.flags c.next-in-loop-pair.new.self c.next-in-loop-pair.result pair kept _ _ c.loop-pair.invariant c.in-Some.ensures.steps.0 c.next-in-loop-pair.ensures.cases
    (sym (append-nil kept) ∙ ap (λ (b : Bool). kept ++ cond b (pair ∷ []) []) c.if-unwrap_or.ensures)
