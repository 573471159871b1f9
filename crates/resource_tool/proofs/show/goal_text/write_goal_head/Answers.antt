use Rattle.std.proofs.lemmas.Result.{on_ok_weaker}
use Rattle.std.proofs.KnownBytes.{Appends-trans}
use Rattle.resource_tool.specs.TreeText.{asked_text, goal_head}
use Rattle.resource_tool.proofs.show.goal_text.write_goal_head.Goals as goal

pub returns-in_ok-write_all-in-Attr : goal.returns-in_ok-write_all-in-Attr
unfolding goal_head asked_text
returns-in_ok-write_all-in-Attr g c =
    let to_2 = Appends-trans _ _ _ _ _ c.in_ok-write_id-in-Attr.ensures.text c.in_ok-write_its_name-in-Attr.ensures in
    let to_3 = Appends-trans _ _ _ _ _ to_2 c.in_ok-write_all-in-Attr.ensures.bytes in
    rw c.in-Attr.is
    (on_ok_weaker c.write_styles.result (λ last. Appends-trans _ _ _ _ _ c.in_ok-write.ensures.bytes (Appends-trans _ _ _ _ _ to_3 last)) (rw c.as_slice.ensures.value at c.write_styles.ensures))

pub returns-in_ok-write_id-in-Id : goal.returns-in_ok-write_id-in-Id
unfolding goal_head asked_text
returns-in_ok-write_id-in-Id g c =
    rw c.in-Id.is
    (on_ok_weaker c.write_its_name.result (λ last. Appends-trans _ _ _ _ _ c.in_ok-write.ensures.bytes (Appends-trans _ _ _ _ _ c.in_ok-write_id-in-Id.ensures.text last))
    c.write_its_name.ensures)
