-- How contracts see inputs that were opened, and a resource: by their content, not their address.
use Rattle.command_base.specs.answer_text.config_record.DeviceSeen.{device_numbers}
use Rattle.resource_text.specs.cert_maker.cert_tree.Certificate.{goals_of}
use Rattle.resource_tool.specs.declared.opened.Opened.{Opened}
use Rattle.resource_tool.specs.declared.opened.OpenId.{OpenId}
use Rattle.resource_tool.specs.declared.check.OpenedCert.{OpenedCert}
use Rattle.resource_tool.specs.declared.opened_box.OpenedBox.{OpenedBox}
use Rattle.resource_tool.specs.declared.survey.opened.OpenedSurvey.{OpenedSurvey}
use Rattle.resource_tool.specs.declared.show.OpenedTrees.{OpenedTrees}
use Rattle.resource_tool.specs.Opened.{OpenedOf, OpenIdOf}
use Rattle.resource_tool.specs.CheckOutput.{CheckInputs}
use Rattle.resource_tool.specs.MakeOutput.{MakeInputs}
use Rattle.resource_tool.specs.ShowOutput.{ShowInputs}
use Rattle.resource_tool.specs.SurveyOutput.{SurveyInputs}

-- what commands for one device are asked of
abbrev pub opened_of : Opened → OpenedOf
opened_of opened = record { stack = opened.stack; device = device_numbers opened.device }

abbrev pub id_seen : OpenId → OpenIdOf
id_seen open_id = record { opened = opened_of open_id.opened; id = open_id.id }

-- what `make` is asked of
abbrev pub opened_box : OpenedBox → MakeInputs
opened_box opened = record { stack = opened.stack; sets = opened.members; rule = opened.rule }

-- what `check` is asked of
abbrev pub opened_cert : OpenedCert → CheckInputs
opened_cert opened = record { stack = opened.stack; sets = opened.members; trees = goals_of opened.certificate; rule = opened.rule }

-- what `survey` is asked of
abbrev pub opened_survey : OpenedSurvey → SurveyInputs
opened_survey opened = record { stack = opened.stack; sets = opened.members; rule = opened.rule }

-- what `show` is asked of
abbrev pub opened_trees : OpenedTrees → ShowInputs
opened_trees opened = record { stack = opened.stack; trees = goals_of opened.certificate }
