use Rattle.std.proofs.Common.{drop}
use Rattle.contract_words.proofs.TextSteps.{PutsAllBut}
use Rattle.command_base.specs.answer_text.config_record.DeviceSeen.{device_numbers}
use Rattle.resource_tool.specs.QueryOutput.{line_of}
use Rattle.resource_tool.proofs.QuerySteps.{StatusAllBut}
use Rattle.resource_tool.proofs.query.write_ends.Given as goal

-- the lines of all ids were written but of those that are left, and the status is that of those so far
abbrev pub invariant-loop-id : goal.invariant-loop-id
invariant-loop-id g l = record {
  texts : PutsAllBut (line_of l.names.stack (device_numbers l.device) l.names.asked) (g.W.Write.contents l.fn.out) (g.W.Write.contents l.out) l.ids (drop l.id-index l.ids);
  status : StatusAllBut l.names.stack (device_numbers l.device) l.status l.id-index l.ids;
}
