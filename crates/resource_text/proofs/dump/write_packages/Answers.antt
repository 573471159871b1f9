use Rattle.contract_words.proofs.TextSteps.{PutsAllBut-next_at}
use Rattle.answer_text.specs.overlay_map.Package.{package_of}
use Rattle.resource_text.specs.TableNotation.{package_notation}
use Rattle.resource_text.proofs.dump.write_packages.Goals as goal

pub loop-package-preserved : goal.loop-package-preserved
loop-package-preserved g c =
    PutsAllBut-next_at package_of (package_notation c.args.naming.now) _ _ _ _ c.packages-packages.result.now c.loop-package.package-index c.package-item.result c.loop-package.invariant c.loop-package-test.true
    c.package-item.is c.in_ok-write_package.ensures
