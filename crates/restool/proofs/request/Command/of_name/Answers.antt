use Rattle.std.proofs.Common.{refl}
use Rattle.restool.proofs.request.Command.of_name.Goals as goal

pub returns-in-rows : goal.returns-in-rows
returns-in-rows c = rw c.in-rows.is refl

pub returns-in-dump : goal.returns-in-dump
returns-in-dump c = rw c.in-dump.is refl

pub returns-in-map : goal.returns-in-map
returns-in-map c = rw c.in-map.is refl

pub returns-in-ids : goal.returns-in-ids
returns-in-ids c = rw c.in-ids.is refl

pub returns-in-survey : goal.returns-in-survey
returns-in-survey c = rw c.in-survey.is refl

pub returns-in-show : goal.returns-in-show
returns-in-show c = rw c.in-show.is refl

pub returns-in-query : goal.returns-in-query
returns-in-query c = rw c.in-query.is refl

pub returns-in-explain : goal.returns-in-explain
returns-in-explain c = rw c.in-explain.is refl

pub returns-in-bag : goal.returns-in-bag
returns-in-bag c = rw c.in-bag.is refl

pub returns-in-attr : goal.returns-in-attr
returns-in-attr c = rw c.in-attr.is refl

pub returns-in-make : goal.returns-in-make
returns-in-make c = rw c.in-make.is refl

pub returns-in-check : goal.returns-in-check
returns-in-check c = rw c.in-check.is refl

pub returns-in-diff : goal.returns-in-diff
returns-in-diff c = rw c.in-diff.is refl

pub returns-in-values : goal.returns-in-values
returns-in-values c = rw c.in-values.is refl

pub returns-in-unused : goal.returns-in-unused
returns-in-unused c = rw c.in-unused.is refl

pub returns-in-device : goal.returns-in-device
returns-in-device c = rw c.in-device.is refl
