use Rattle.std.proofs.Common.{drop}
use Rattle.contract_words.proofs.TextSteps.{PutsAllBut}
use Rattle.bags_themes.specs.overlay_map.Package.{packages_of}
use Rattle.answer_text.specs.DumpText.{package_text}
use Rattle.answer_text.proofs.dump.dump_text.Given as goal

-- the lines of all packages were written but of those that are left
abbrev pub invariant-loop-package : goal.invariant-loop-package
invariant-loop-package g l =
    PutsAllBut (package_text l.table) (g.W.Write.contents l.fn.out) (g.W.Write.contents l.out) (packages_of l.packages) (packages_of (drop l.package-index l.packages))
