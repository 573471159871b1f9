use Rattle.std.proofs.Common.{◌∙◌}
use Rattle.locales.proofs.ListsAgree.{IsRising-LIKELY_SCRIPTS, script_in-LIKELY_SCRIPTS, named-LIKELY_SCRIPTS}
use Rattle.locales.proofs.facts.listed_script.Goals as goal

pub script_in-requires : goal.script_in-requires
script_in-requires c = IsRising-LIKELY_SCRIPTS

pub returns-clause-value : goal.returns-clause-value
returns-clause-value c = c.script_in.ensures ∙ script_in-LIKELY_SCRIPTS _

pub returns-clause-letters : goal.returns-clause-letters
returns-clause-letters c = rw c.script_in.ensures (named-LIKELY_SCRIPTS c.args.locale)
