use Rattle.std.proofs.Common.{map}
use Rattle.std.proofs.lemmas.Result.{err_from_is_err_and}
use Rattle.names.specs.NamedSet.{named_set_of}
use Rattle.names.specs.Packages.{package_name_of}
use Rattle.names.specs.Pairs.{pair_of}
use Rattle.names.proofs.PairSteps.{asked-all, asked-stops}
use Rattle.names.proofs.pairs.asked_in.Goals as goal

pub returns-in_err-check_each : goal.returns-in_err-check_each
returns-in_err-check_each c =
    let packages = map package_name_of c.args.packages.now in
    let p = err_from_is_err_and c.from_residual-in_err-check_each.result c.from_residual-in_err-check_each.ensures.1 in
    let are = c.in_ok-asked.ensures (map named_set_of c.args.sets.now) (c.in_ok-words.ensures packages) in
    rw (p.1, p.2) (λ other. asked-stops packages (map named_set_of c.args.sets.now) (map pair_of c.args.pairs.now) _ (c.in_err-check_each.ensures (map pair_of c.args.pairs.now) are.0 other))

pub returns : goal.returns
returns c =
    let packages = map package_name_of c.args.packages.now in
    let are = c.in_ok-asked.ensures (map named_set_of c.args.sets.now) (c.in_ok-words.ensures packages) in
    asked-all packages (map named_set_of c.args.sets.now) (map pair_of c.args.pairs.now) _ (c.in_ok-check_each.ensures (map pair_of c.args.pairs.now) are.0) are.1
