use Rattle.std.proofs.lemmas.Result.{on_ok_weaker}
use Rattle.std.proofs.KnownBytes.{Appends-trans}
use Rattle.resource_tool.specs.TreeText.{style_text}
use Rattle.resource_tool.proofs.show.goal_text.write_style.Goals as goal

pub returns : goal.returns
unfolding style_text
returns g c =
    let to_2 = Appends-trans _ _ _ _ _ c.in_ok-write_all.ensures.bytes c.in_ok-write_id.ensures.text in
    on_ok_weaker c.write_its_name.result (λ last. Appends-trans _ _ _ _ _ to_2 last) c.write_its_name.ensures
