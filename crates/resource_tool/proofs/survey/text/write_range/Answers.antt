use Rattle.std.proofs.lemmas.Result.{on_ok_weaker}
use Rattle.std.proofs.KnownBytes.{Appends-trans}
use Rattle.resource_tool.specs.SurveyText.{range_text}
use Rattle.resource_tool.proofs.survey.text.write_range.Goals as goal

pub returns : goal.returns
unfolding range_text
returns g c =
    let to_2 = Appends-trans _ _ _ _ _ c.in_ok-write_all.ensures.bytes c.in_ok-write_number.ensures in
    let to_3 = Appends-trans _ _ _ _ _ to_2 c.in_ok-write_all-2.ensures.bytes in
    on_ok_weaker c.write_number-2.result (λ last. Appends-trans _ _ _ _ _ to_3 last) c.write_number-2.ensures
