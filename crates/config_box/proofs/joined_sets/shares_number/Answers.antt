use Rattle.std.proofs.Common.{ℕ, get_or, sym, subst, ◌∙◌, arith, below_more, true≢false}
use Rattle.std.specs.Prelude.{Contains}
use Rattle.std.proofs.lemmas.List.Elements.{Contains-get_or}
use Rattle.box_answers.proofs.Sets.{listed-in, get_or_same}
use Rattle.config_box.proofs.joined_sets.shares_number.Goals as goal

pub returns-then-contains : goal.returns-then-contains
returns-then-contains c apart =
    let n : ℕ = get_or c.args.others.now c.loop-other.other-index 0 in
    apart n ((listed-in c.args.numbers.now n).0 (sym c.contains.ensures.value ∙ c.if-contains.true)) (Contains-get_or c.args.others.now c.loop-other.other-index 0 c.loop-other-test.true)

pub loop-other-preserved : goal.loop-other-preserved
loop-other-preserved c =
    below_more _ _ c.loop-other.invariant
    (λ is. true≢false (sym ((listed-in c.args.numbers.now (get_or c.args.others.now c.loop-other.other-index 0)).1 is) ∙ sym c.contains.ensures.value ∙ c.if-contains.false))

pub returns : goal.returns
returns c n in_numbers in_others =
    c.loop-other.invariant in_others.0 (omega (arith, in_others.1, c.loop-other-test.false))
    (subst (λ (m : ℕ). Contains c.args.numbers.now m) (get_or_same c.args.others.now in_others.0 n in_others.1 in_others.2) in_numbers)
