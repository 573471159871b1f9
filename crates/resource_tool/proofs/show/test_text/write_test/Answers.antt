use Rattle.std.proofs.lemmas.Result.{on_ok_weaker}
use Rattle.std.proofs.KnownBytes.{Appends-trans}
use Rattle.resource_tool.specs.TreeText.{test_text}
use Rattle.resource_tool.proofs.show.test_text.write_test.Goals as goal

pub returns-in_ok-write-in-Among : goal.returns-in_ok-write-in-Among
unfolding test_text
returns-in_ok-write-in-Among g c =
    rw c.in-Among.is (on_ok_weaker c.write_choice.result (λ last. Appends-trans _ _ _ _ _ c.in_ok-write-in-Among.ensures.bytes last) c.write_choice.ensures)
