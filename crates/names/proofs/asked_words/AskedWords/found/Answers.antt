use Rattle.std.proofs.Common.{Option, Bor, sym, ap, ◌∙◌}
use Rattle.std.specs.Option.{option_copied}
use Rattle.names.specs.declared.found.Found.{Found}
use Rattle.names.specs.AskedWords.{or_nothing}
use Rattle.names.proofs.AskedWordsSteps.{found_as}
use Rattle.names.proofs.asked_words.AskedWords.found.Goals as goal

pub returns-in-Some : goal.returns-in-Some
returns-in-Some c =
    ap or_nothing (sym (ap (λ (found : Option (Bor Found)). option_copied found) c.in-Some.is) ∙ c.get.ensures.value ∙ found_as c.args.self.now c.args.set.now)

pub returns-in-None : goal.returns-in-None
returns-in-None c =
    ap or_nothing (sym (ap (λ (found : Option (Bor Found)). option_copied found) c.in-None.is) ∙ c.get.ensures.value ∙ found_as c.args.self.now c.args.set.now)
