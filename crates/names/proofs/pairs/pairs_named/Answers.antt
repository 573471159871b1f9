use Rattle.std.proofs.Common.{◌++◌, List, map, sym, ap, ◌∙◌}
use Rattle.std.proofs.lemmas.Result.{err_from_is_err_and}
use Rattle.names.specs.NamedIds.{packages_of}
use Rattle.names.specs.NamedSet.{named_set_of}
use Rattle.names.specs.declared.pair.NamePair.{NamePair}
use Rattle.names.specs.Pairs.{pair_of}
use Rattle.names.specs.AskedWords.{asked_in}
use Rattle.names.proofs.PairSteps.{asked-fault, asked-kept, named-none}
use Rattle.names.proofs.WordSteps.{GivesNamed-same}
use Rattle.names.proofs.pairs.pairs_named.Goals as goal

pub returns-then-is_empty : goal.returns-then-is_empty
returns-then-is_empty c = named-none (packages_of c.args.old.now ++ packages_of c.args.new.now) c.args.sets.now (map pair_of c.args.pairs.items) (sym c.if-is_empty.ensures)

pub returns-in_err-asked : goal.returns-in_err-asked
returns-in_err-asked c =
    let packages = packages_of c.args.old.now ++ packages_of c.args.new.now in
    let sets = map named_set_of c.args.sets.now in
    let p = err_from_is_err_and c.from_residual.result c.from_residual.ensures.1 in
    rw (p.1, p.2) (λ other. asked-fault packages sets (map pair_of c.args.pairs.items) _ (ap (λ (pairs : List NamePair). asked_in packages sets (map pair_of pairs)) (sym c.deref.ensures.value) ∙ c.in_err-asked.ensures other))

pub returns : goal.returns
returns c =
    let packages = packages_of c.args.old.now ++ packages_of c.args.new.now in
    let sets = map named_set_of c.args.sets.now in
    GivesNamed-same _ _ _ _
    (asked-kept packages c.args.sets.now c.args.pairs.items _ (sym c.if-is_empty.ensures)
    (ap (λ (pairs : List NamePair). asked_in packages sets (map pair_of pairs)) (sym c.deref.ensures.value) ∙ c.in_ok-asked.ensures))
    c.keep.ensures
