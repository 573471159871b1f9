use Rattle.std.proofs.Common.{List, ◌++◌, map, ap, ◌∙◌}
use Rattle.std.proofs.lemmas.List.{take_all}
use Rattle.std.specs.List.{flat_map}
use Rattle.names.specs.NamedSet.{named_set_of}
use Rattle.names.specs.Packages.{package_name_of}
use Rattle.names.specs.AskedWords.{word_of_package, words_with}
use Rattle.names.specs.declared.packages.PackageName.{PackageName}
use Rattle.names.proofs.AskedWordsSteps.{called-more}
use Rattle.names.proofs.words_for.push_called.Goals as goal

pub loop-package-preserved : goal.loop-package-preserved
loop-package-preserved c =
    called-more _ _ _ (words_with c.args.type_name.now c.args.entry_name.now) c.args.number c.args.packages.now c.loop-package.package-index c.package-item.result c.loop-package-test.true c.package-item.is c.loop-package.invariant
    c.in_ok-push_by_name.ensures

pub returns : goal.returns
returns c =
    let words = λ (packages : List PackageName). flat_map (words_with c.args.type_name.now c.args.entry_name.now) (flat_map (word_of_package c.args.number) (map package_name_of packages)) in
    c.loop-package.invariant ∙ ap (λ (packages : List PackageName). map named_set_of c.args.words.now.items ++ words packages) (take_all c.loop-package.package-index c.args.packages.now c.loop-package-test.false)
