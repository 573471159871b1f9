use Rattle.std.proofs.Common.{ℕ, ◌+◌, List, Bor, map, sym, subst}
use Rattle.std.proofs.lemmas.Result.{err_from_is_err_and}
use Rattle.json_input.proofs.EachSteps.{EachAllBut, EachAllBut-next_item_seen, EachAllBut-stops_item, EachAllBut-end_item}
use Rattle.names.specs.declared.named.Named.{Named}
use Rattle.names.specs.Named.{named_of}
use Rattle.names.specs.NamedGoal.{style_in}
use Rattle.names.proofs.named_goal.each_named.Goals as goal

pub loop-text-preserved : goal.loop-text-preserved
loop-text-preserved c =
    subst (λ (all : List Named). EachAllBut style_in (map named_of all) (c.loop-text.text-index + 1) (map (λ (text : Bor (List ℕ)). text.now) c.args.texts.now)) (sym c.in_ok-push.ensures.items)
    (EachAllBut-next_item_seen style_in (λ (text : Bor (List ℕ)). text.now) named_of _ _ c.args.texts.now _ _ c.loop-text.invariant c.loop-text-test.true c.in_ok-named.ensures)

pub returns-in_err-named : goal.returns-in_err-named
returns-in_err-named c =
    let p = err_from_is_err_and c.from_residual.result c.from_residual.ensures.1 in
    rw (p.1, p.2) (λ other. EachAllBut-stops_item style_in (λ (t : Bor (List ℕ)). t.now) _ _ c.args.texts.now _ _ c.loop-text.invariant c.loop-text-test.true (c.in_err-named.ensures other))

pub returns : goal.returns
returns c = EachAllBut-end_item style_in (λ (text : Bor (List ℕ)). text.now) _ _ c.args.texts.now c.loop-text.invariant c.loop-text-test.false
