use Rattle.std.proofs.Common.{◌≡◌, List, Bool, ◌++◌, ◌∷◌, [], map, take, sym, ap, subst, ◌∙◌}
use Rattle.std.proofs.lemmas.List.{map_more, take_all}
use Rattle.res_value.specs.declared.res_id.ResId.{ResId}
use Rattle.names.specs.AskedWords.{words_for, AreAsked, PutsFor}
use Rattle.names.specs.NamedPairs.{id_of_pair, is_asked}
use Rattle.names.specs.NamedSet.{NamedSetOf, named_set_of}
use Rattle.names.specs.declared.named_set.NamedSet.{NamedSet}
use Rattle.names.specs.Packages.{package_name_of}
use Rattle.names.specs.declared.pair.NamePair.{NamePair}
use Rattle.names.specs.Pairs.{PairOf, pair_of}
use Rattle.names.proofs.AskedWordsSteps.{asked-more, has-asked}
use Rattle.names.proofs.PairSteps.{asked-words, each-asked}
use Rattle.names.proofs.Pushed.{map-pushed_item}
use Rattle.names.proofs.pairs.note_pairs.Goals as goal

pub loop-pair-preserved : goal.loop-pair-preserved
loop-pair-preserved c = λ sets start.
    let packages = map package_name_of c.args.packages.now in
    let pairs = c.args.pairs.now in
    let place = c.loop-pair.pair-index in
    let pair = c.pair-item.result in
    let old = c.loop-pair.words in
    let new = c.put_each.new.self in
    let own = c.in_ok-is_asked.is_asked in
    let so_far = c.loop-pair.invariant sets start in
    let words : map named_set_of c.deref.result.now ≡ words_for packages (pair_of pair) = ap (λ (words : List NamedSet). map named_set_of words) c.deref.ensures.value ∙ c.in_ok-for_pair.ensures in
    let put : PutsFor (words_for packages (pair_of pair)) (id_of_pair (pair_of pair)) old new own =
    subst (λ (id : ResId). PutsFor (words_for packages (pair_of pair)) id old new own) c.id_of_sides.ensures
    (subst (λ (words : List NamedSetOf). PutsFor words c.id_of_sides.result old new own) words c.in_ok-is_asked.ensures) in
    let is : own ≡ is_asked packages sets (pair_of pair) = put.asks ∙ asked-words packages old sets (pair_of pair) (has-asked packages sets _ old so_far.0) in (
      subst (λ (pairs : List PairOf). AreAsked packages sets pairs new) (sym (map_more pair_of pairs place pair c.loop-pair-test.true))
          (subst (λ (one : NamePair). AreAsked packages sets (map pair_of (take place pairs) ++ pair_of one ∷ []) new) c.pair-item.is
          (asked-more packages sets (map pair_of (take place pairs)) (pair_of pair) old new own so_far.0 put)),
      map-pushed_item (λ (pair : NamePair). is_asked packages sets (pair_of pair)) pairs place pair c.loop-pair.asked.items _ c.loop-pair-test.true so_far.1 c.pair-item.is
          (c.in_ok-push.ensures.items ∙ ap (λ (own : Bool). c.loop-pair.asked.items ++ own ∷ []) is),
    )

pub returns : goal.returns
returns c = λ sets start.
    let packages = map package_name_of c.args.packages.now in
    let all = take_all c.loop-pair.pair-index c.args.pairs.now c.loop-pair-test.false in
    let so_far = c.loop-pair.invariant sets start in (
      subst (λ (pairs : List NamePair). AreAsked packages sets (map pair_of pairs) c.loop-pair.words) all so_far.0,
      so_far.1 ∙ ap (λ (pairs : List NamePair). map (λ pair. is_asked packages sets (pair_of pair)) pairs) all ∙ each-asked packages sets c.args.pairs.now,
    )
