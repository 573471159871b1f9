use Rattle.std.proofs.KnownBytes.{Appends-trans}
use Rattle.std.proofs.lemmas.Result.{on_ok_weaker}
use Rattle.answer_text.specs.ExplainText.{candidate_line}
use Rattle.answer_text.proofs.explanation.write_candidate.Goals as goal

pub returns : goal.returns
unfolding candidate_line
returns g c =
    let to_space = Appends-trans _ _ _ _ _ c.in_ok-write_place.ensures c.in_ok-write_all.ensures.bytes in
    let to_record = Appends-trans _ _ _ _ _ to_space c.in_ok-write_qualifiers.ensures in
    let between = Appends-trans _ _ _ _ _ to_record c.in_ok-write_all-2.ensures.bytes in
    let to_decision = Appends-trans _ _ _ _ _ between c.in_ok-write_decision.ensures in
    on_ok_weaker c.write_all-3.result (λ last. Appends-trans _ _ _ _ _ to_decision last) c.write_all-3.ensures.bytes
