-- The line of a certificate, read again. (Cited by contracts of this crate alone.)
use Rattle.std.specs.Prelude.{◌≡◌, List, Result, Ok, Err}
use Rattle.command_base.specs.answer_text.config_record.locales.declared.locale_rule.LocaleRule.{LocaleRule}
use Rattle.resource_text.specs.cert_maker.cert_tree.Certificate.{GoalOf, CertFits, goals_of}
use Rattle.resource_text.specs.cert_maker.cert_tree.CertJson.{cert_in_by}
use Rattle.resource_text.specs.cert_maker.declared.made.Made.{Made}
use Rattle.resource_text.specs.cert_maker.declared.made.Made.TheVariants.{Cert, Counter, NodeLimit}
use Rattle.resource_text.specs.cert_maker.declared.omitted.Omitting.{Omitting}
use Rattle.resource_text.specs.cert_maker.declared.omitted.Omitting.TheVariants as omitting
use Rattle.command_base.specs.declared.status.Status.{Status}
use Rattle.command_base.specs.declared.fault.ToolFault.{ToolFault}
use Rattle.command_base.specs.declared.fault.ToolFault.TheVariants.{OutOfMemory}
use Rattle.resource_tool.specs.MakeOutput.{certificate_line}

-- what is printed of trees within the limits is read as the same, by the rule by which they fit
unfoldable pub TreesReadBack : List GoalOf → Type 0
TreesReadBack trees = (rule : LocaleRule) → CertFits rule trees → cert_in_by rule (certificate_line trees) ≡ Ok trees

abbrev pub LineReadsBack : Made → Type 0
LineReadsBack (Cert certificate) = TreesReadBack (goals_of certificate)
LineReadsBack (Counter goal device end) = Unit {0}
LineReadsBack NodeLimit = Unit {0}

abbrev pub OmittingReadsBack : Omitting → Type 0
OmittingReadsBack (omitting.Cert certificate omitted) = TreesReadBack (goals_of certificate)
OmittingReadsBack omitting.NodeLimit = Unit {0}

-- nothing is said where memory ran out
abbrev pub UnlessMemory : Result Status ToolFault → Type 0 → Type 0
UnlessMemory (Err OutOfMemory) fact = Unit {0}
UnlessMemory result fact = fact
