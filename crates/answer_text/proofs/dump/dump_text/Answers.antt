use Rattle.contract_words.proofs.TextSteps.{PutsAllBut-next_at}
use Rattle.bags_themes.specs.overlay_map.Package.{package_of}
use Rattle.answer_text.specs.DumpText.{package_text}
use Rattle.answer_text.proofs.dump.dump_text.Goals as goal

pub loop-package-preserved : goal.loop-package-preserved
loop-package-preserved g c =
    PutsAllBut-next_at package_of (package_text c.args.table.now) _ _ _ _ c.packages-packages.result.now c.loop-package.package-index c.package-item.result c.loop-package.invariant c.loop-package-test.true
    c.package-item.is c.in_ok-write_package.ensures
