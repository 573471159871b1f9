use Rattle.std.proofs.Common.{refl}
use Rattle.std.proofs.lemmas.List.{drop_all}
use Rattle.resource_tool.proofs.survey.types.has_newer.Goals as goal

pub returns-then-config-le-KNOWN : goal.returns-then-config-le-KNOWN
returns-then-config-le-KNOWN c = rw (drop_all 50 c.args.config.now c.if-config-le-KNOWN.true) refl
