use Rattle.std.proofs.Common.{List, Option, map, sym, ap, ◌∙◌}
use Rattle.std.proofs.lemmas.List.{drop_all, drop_more}
use Rattle.std.proofs.lemmas.Result.{err_from_is_err_and}
use Rattle.names.specs.declared.named_set.NamedSet.{NamedSet}
use Rattle.names.specs.NameFault.{NameFaultOf}
use Rattle.names.specs.NamedPairs.{first_fault}
use Rattle.names.specs.NamedSet.{named_set_of}
use Rattle.names.specs.Packages.{package_name_of}
use Rattle.names.specs.AskedWords.{unless}
use Rattle.names.proofs.PairSteps.{fault-here, fault-none, fault-past}
use Rattle.names.proofs.AskedWordsSteps.{found-asked}
use Rattle.names.proofs.pairs.check_each.Goals as goal

pub loop-set-preserved : goal.loop-set-preserved
loop-set-preserved c = λ pairs are.
    let packages = map package_name_of c.args.packages.now in
    let split = ap (λ (sets : List NamedSet). first_fault packages pairs (map named_set_of sets)) (drop_more c.args.sets.now c.loop-set.set-index _ c.loop-set-test.true) in
    sym (split ∙ fault-past packages pairs _ _ _ (c.found.ensures ∙ found-asked packages c.args.sets.now pairs c.args.words.now c.loop-set.set-index _ are c.loop-set-test.true) c.in_ok-check_word.ensures) ∙ c.loop-set.invariant pairs are

pub returns-in_err-check_word : goal.returns-in_err-check_word
returns-in_err-check_word c = λ pairs are.
    let packages = map package_name_of c.args.packages.now in
    let split = ap (λ (sets : List NamedSet). first_fault packages pairs (map named_set_of sets)) (drop_more c.args.sets.now c.loop-set.set-index _ c.loop-set-test.true) in
    let p = err_from_is_err_and c.from_residual.result c.from_residual.ensures.1 in
    rw (p.1, p.2) (λ other.
    ap (λ (fault : Option NameFaultOf). unless fault)
    (sym (c.loop-set.invariant pairs are) ∙ split ∙ fault-here packages pairs _ _ _ _ (c.found.ensures ∙ found-asked packages c.args.sets.now pairs c.args.words.now c.loop-set.set-index _ are c.loop-set-test.true) (c.in_err-check_word.ensures other)))

pub returns : goal.returns
returns c = λ pairs are.
    let packages = map package_name_of c.args.packages.now in
    ap (λ (fault : Option NameFaultOf). unless fault)
    (sym (c.loop-set.invariant pairs are)
    ∙ ap (λ (sets : List NamedSet). first_fault packages pairs (map named_set_of sets)) (drop_all c.loop-set.set-index c.args.sets.now c.loop-set-test.false)
    ∙ fault-none packages pairs)
