use Rattle.std.proofs.Common.{drop}
use Rattle.contract_words.proofs.TextSteps.{PutsAllBut}
use Rattle.answer_text.specs.NameText.{its_name}
use Rattle.answer_text.proofs.goal.write_style_names.Given as goal

abbrev pub invariant-loop-style : goal.invariant-loop-style
invariant-loop-style g l =
    PutsAllBut (λ style. its_name l.stack style.0) (g.W.Write.contents l.fn.out) (g.W.Write.contents l.out) l.styles (drop l.style-index l.styles)
