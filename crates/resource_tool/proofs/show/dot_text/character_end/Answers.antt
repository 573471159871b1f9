use Rattle.std.proofs.Common.{◌≡◌, ℕ, ◌<◌, ◌-◌, zero, suc, Bool, true, false, List, if◌then◌else◌, sym, ap, ◌∙◌, arith}
use Rattle.std.specs.List.{slice_get}
use Rattle.resource_tool.specs.DotText.{character_end, is_inside}
use Rattle.resource_tool.proofs.Got.{got}
use Rattle.resource_tool.proofs.show.dot_text.character_end.Goals as goal

one_back : (text : List ℕ) (n : ℕ) → 0 < n → is_inside (slice_get text n) ≡ true → character_end text n ≡ character_end text (n - 1)
unfolding character_end
one_back text zero above inside = absurd (omega arith)
one_back text (suc n) above inside =
    let before : n ≡ suc n - 1 = omega arith in
    ap (λ (b : Bool). if b then character_end text n else suc n) inside ∙ ap (character_end text) before

one_stays : (text : List ℕ) (n : ℕ) → 0 < n → is_inside (slice_get text n) ≡ false → n ≡ character_end text n
unfolding character_end
one_stays text zero above inside = absurd (omega arith)
one_stays text (suc n) above inside = sym (ap (λ (b : Bool). if b then character_end text n else suc n) inside)

pub inside-preserved : goal.inside-preserved
inside-preserved c =
    let there = got _ c.get.result c.args.text.now c.inside.end c.get.ensures.lookup.1 c.get.ensures.lookup.3 in
    let inside = rw (c.copied.ensures, there) at (sym c.is_inside.ensures ∙ c.if-is_inside.true) in
    c.inside.invariant ∙ one_back c.args.text.now c.inside.end (omega arith) inside

pub returns-else-is_inside : goal.returns-else-is_inside
returns-else-is_inside c =
    let there = got _ c.get.result c.args.text.now c.inside.end c.get.ensures.lookup.1 c.get.ensures.lookup.3 in
    let inside = rw (c.copied.ensures, there) at (sym c.is_inside.ensures ∙ c.if-is_inside.false) in
    one_stays c.args.text.now c.inside.end (omega arith) inside ∙ sym c.inside.invariant
