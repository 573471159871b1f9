use Rattle.resource_tool.proofs.CheckSteps.{headline-holds}
use Rattle.resource_tool.proofs.check.check_bytes.Goals as goal

pub returns-clause-headline : goal.returns-clause-headline
returns-clause-headline g c =
    headline-holds g.W.Write.contents c.args.out.now c.check.new.out _ _ _ _ _ _ c.in_ok-opened.ensures.value c.in_ok-check.ensures

pub returns-clause-verdict : goal.returns-clause-verdict
returns-clause-verdict g c = rw c.in_ok-opened.ensures.value c.in_ok-check.ensures
