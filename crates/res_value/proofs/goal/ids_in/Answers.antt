use Rattle.std.proofs.Common.{◌≡◌, ℕ, ◌+◌, ◌<◌, List, ◌∷◌, length, map, drop, get_or, Bor, ap, ◌∙◌}
use Rattle.std.proofs.lemmas.List.{drop_all, drop_more}
use Rattle.std.proofs.lemmas.Result.{err_from_is_err_and}
use Rattle.contract_words.specs.Sequences.{with_front, joined_each}
use Rattle.contract_words.proofs.SequenceSteps.{ReadsAllBut-next, ReadsAllBut-stops, ReadsAllBut-end, with_front_nil}
use Rattle.res_value.specs.declared.res_id.ResId.{ResId}
use Rattle.res_value.specs.Goal.{listed_id, ids_in}
use Rattle.res_value.proofs.goal.ids_in.Goals as goal

abbrev text_of : Bor (List ℕ) → List ℕ
text_of text = text.now

-- the texts from a place on
split : (texts : List (Bor (List ℕ))) (place : ℕ) (d : Bor (List ℕ)) → place < length texts
    → map text_of (drop place texts) ≡ (get_or texts place d).now ∷ map text_of (drop (place + 1) texts)
split texts place d on = ap (map text_of) (drop_more texts place d on)

pub loop-text-init : goal.loop-text-init
unfolding ids_in
loop-text-init c =
    let meant = joined_each listed_id (map text_of c.args.texts.now) in
    record { others = ap (λ (ids : List ResId). with_front ids meant) c.in_ok-ids.ensures.items ∙ with_front_nil meant }

pub returns-in_err-push_id : goal.returns-in_err-push_id
returns-in_err-push_id c =
    let p = err_from_is_err_and c.from_residual-in_err-push_id.result c.from_residual-in_err-push_id.ensures.1 in
    rw (p.1, p.2) (λ other.
    ReadsAllBut-stops listed_id _ _ _ _ _ _ c.loop-text.invariant (split c.args.texts.now c.loop-text.text-index _ c.loop-text-test.true) (c.in_err-push_id.ensures other))

pub loop-text-preserved : goal.loop-text-preserved
loop-text-preserved c =
    ReadsAllBut-next listed_id _ _ _ _ _ _ c.loop-text.invariant (split c.args.texts.now c.loop-text.text-index _ c.loop-text-test.true) c.in_ok-push_id.ensures

pub returns : goal.returns
returns c =
    ReadsAllBut-end listed_id _ _ _ c.loop-text.invariant (ap (map text_of) (drop_all c.loop-text.text-index c.args.texts.now c.loop-text-test.false))
