-- What do the traces of all members of a box have in common? They are one, or the members part at a question.
use Rattle.std.specs.Prelude.{ℕ, List}
use Rattle.config_box.specs.box_answers.NumberSet.{SetOf}
use Rattle.config_box.specs.box_answers.Members.{IsMember}
use Rattle.config_box.specs.box_answers.MemberAnswers.{AllAnswer}
use Rattle.bags_themes.specs.reference_resolver.declared.step.Step.{Step}
use Rattle.bags_themes.specs.reference_resolver.Trace.{Trace}
use Rattle.box_trace.specs.declared.common.CommonTrace.{CommonTrace}
use Rattle.box_trace.specs.declared.common.CommonTrace.TheVariants.{One, Mixed}
use Rattle.box_trace.specs.Parting.{IsParting}

-- one: all members have one trace, with this end; mixed: here they part
abbrev pub IsCommonTrace : CommonTrace → List SetOf → (List ℕ → Trace) → Type 0
IsCommonTrace (One end) sets trace = (steps : List Step) × AllAnswer (IsMember sets) trace (record { steps = steps; end = end })
IsCommonTrace (Mixed parting) sets trace = IsParting parting sets trace
