use Rattle.std.proofs.Common.{drop}
use Rattle.contract_words.proofs.TextSteps.{PutsAllBut}
use Rattle.answer_text.specs.overlay_map.Package.{packages_of}
use Rattle.resource_text.specs.TableNotation.{package_notation}
use Rattle.resource_text.proofs.dump.write_packages.Given as goal

-- the lines of all packages were written but of those that are left
abbrev pub invariant-loop-package : goal.invariant-loop-package
invariant-loop-package g l =
    PutsAllBut (package_notation l.naming) (g.W.Write.contents l.fn.out) (g.W.Write.contents l.out) (packages_of l.packages) (packages_of (drop l.package-index l.packages))
