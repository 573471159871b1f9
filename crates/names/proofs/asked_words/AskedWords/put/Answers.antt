use Rattle.std.proofs.Common.{sym, ◌∙◌}
use Rattle.names.proofs.AskedWordsSteps.{put-not, put-one}
use Rattle.names.proofs.asked_words.AskedWords.put.Goals as goal

pub returns-in_default : goal.returns-in_default
returns-in_default c = put-not c.args.word c.args.id c.args.self.now (sym (c.copied.ensures ∙ c.get.ensures.value) ∙ c.in_default.is)

pub returns : goal.returns
returns c =
    put-one c.args.word c.args.id c.in-Some.found _ c.args.self.now (record { words = c.insert.new.self }) (sym (c.copied.ensures ∙ c.get.ensures.value) ∙ c.in-Some.is) c.also.ensures
    c.in_ok-insert.ensures.updates.0
