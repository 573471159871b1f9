use Rattle.std.proofs.lemmas.Result.{on_ok_weaker}
use Rattle.std.proofs.KnownBytes.{Appends-trans}
use Rattle.resource_tool.specs.TreeText.{locale_item}
use Rattle.resource_tool.proofs.show.test_text.write_listed.Goals as goal

pub returns-then-says_nothing : goal.returns-then-says_nothing
unfolding locale_item
returns-then-says_nothing g c =
    rw (← c.number.ensures.value, ← c.says_nothing.ensures, c.if-says_nothing.true) (on_ok_weaker c.write_all-then-says_nothing.result (λ last. Appends-trans _ _ _ _ _ c.in_ok-write_all.ensures.bytes last) c.write_all-then-says_nothing.ensures.bytes)

pub returns-else-says_nothing : goal.returns-else-says_nothing
unfolding locale_item
returns-else-says_nothing g c =
    rw (← c.number.ensures.value, ← c.says_nothing.ensures, c.if-says_nothing.false) (on_ok_weaker c.write_locale.result (λ last. Appends-trans _ _ _ _ _ c.in_ok-write_all.ensures.bytes last) c.write_locale.ensures)
