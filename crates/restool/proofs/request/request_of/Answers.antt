use Rattle.std.proofs.Common.{sym, subst}
use Rattle.clap.specs.Words.{found_of, rows_of}
use Rattle.restool.specs.declared.request.Command.{Command}
use Rattle.restool.specs.Request.{ReadsCommand}
use Rattle.restool.proofs.request.request_of.Goals as goal

-- ---- the words of a command are read at once

pub returns-in-Rows : goal.returns-in-Rows
returns-in-Rows c = rw c.in-Rows.is (c.given_word.ensures, c.given_flag.ensures)

pub returns-in-Dump : goal.returns-in-Dump
returns-in-Dump c = rw c.in-Dump.is (c.given_word-in-Dump.ensures, c.given_flag-in-Dump.ensures)

pub returns-in-Map : goal.returns-in-Map
returns-in-Map c = rw c.in-Map.is (c.given_word-in-Map.ensures, c.given_word-in-Map-2.ensures, c.given_answer_form.ensures)

pub returns-in-Ids : goal.returns-in-Ids
returns-in-Ids c = rw c.in-Ids.is c.given_word-in-Ids.ensures

pub returns-in-Show : goal.returns-in-Show
returns-in-Show c = rw c.in-Show.is c.show_of.ensures

-- ---- a function reads them

pub returns-in-Survey : goal.returns-in-Survey
returns-in-Survey c = subst (λ (command : Command). ReadsCommand command (rows_of (found_of c.args.given.now)) c.survey_of.result) (sym c.in-Survey.is) c.survey_of.ensures

pub returns-in-Query : goal.returns-in-Query
returns-in-Query c = subst (λ (command : Command). ReadsCommand command (rows_of (found_of c.args.given.now)) c.query_of.result) (sym c.in-Query.is) c.query_of.ensures

pub returns-in-Explain : goal.returns-in-Explain
returns-in-Explain c = subst (λ (command : Command). ReadsCommand command (rows_of (found_of c.args.given.now)) c.explain_of.result) (sym c.in-Explain.is) c.explain_of.ensures

pub returns-in-Bag : goal.returns-in-Bag
returns-in-Bag c = subst (λ (command : Command). ReadsCommand command (rows_of (found_of c.args.given.now)) c.bag_of.result) (sym c.in-Bag.is) c.bag_of.ensures

pub returns-in-Attr : goal.returns-in-Attr
returns-in-Attr c = subst (λ (command : Command). ReadsCommand command (rows_of (found_of c.args.given.now)) c.attr_of.result) (sym c.in-Attr.is) c.attr_of.ensures

pub returns-in-Make : goal.returns-in-Make
returns-in-Make c = subst (λ (command : Command). ReadsCommand command (rows_of (found_of c.args.given.now)) c.make_of.result) (sym c.in-Make.is) c.make_of.ensures

pub returns-in-Check : goal.returns-in-Check
returns-in-Check c = subst (λ (command : Command). ReadsCommand command (rows_of (found_of c.args.given.now)) c.check_of.result) (sym c.in-Check.is) c.check_of.ensures

pub returns-in-Diff : goal.returns-in-Diff
returns-in-Diff c = subst (λ (command : Command). ReadsCommand command (rows_of (found_of c.args.given.now)) c.diff_of.result) (sym c.in-Diff.is) c.diff_of.ensures

pub returns-in-Values : goal.returns-in-Values
returns-in-Values c = subst (λ (command : Command). ReadsCommand command (rows_of (found_of c.args.given.now)) c.values_of.result) (sym c.in-Values.is) c.values_of.ensures

pub returns-in-Unused : goal.returns-in-Unused
returns-in-Unused c = subst (λ (command : Command). ReadsCommand command (rows_of (found_of c.args.given.now)) c.unused_of.result) (sym c.in-Unused.is) c.unused_of.ensures

pub returns-in-Device : goal.returns-in-Device
returns-in-Device c = subst (λ (command : Command). ReadsCommand command (rows_of (found_of c.args.given.now)) c.device_of.result) (sym c.in-Device.is) c.device_of.ensures
