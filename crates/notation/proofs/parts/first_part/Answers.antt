use Rattle.std.proofs.Common.{ℕ, List, ◌∷◌, take, ap, sym, ◌∙◌}
use Rattle.notation.specs.Parts.{parts_of, ends_part}
use Rattle.notation.proofs.PartSteps.{NoEndBefore-more, ends_at, whole}
use Rattle.notation.proofs.parts.first_part.Goals as goal

pub returns-then-ends_part-clause-parts : goal.returns-then-ends_part-clause-parts
returns-then-ends_part-clause-parts c =
    let line = c.args.line.now in
    let place = c.bytes.place in
    let same = whole place line in
    ends_at place line 0 c.bytes.invariant c.bytes-test.true (ap (ends_part _) (sym same) ∙ sym c.ends_part.ensures ∙ c.if-ends_part.true)
    ∙ ap (λ (left : List ℕ). take place line ∷ parts_of left) (sym same)

pub bytes-preserved : goal.bytes-preserved
bytes-preserved c =
    let line = c.args.line.now in
    let place = c.bytes.place in
    NoEndBefore-more place line 0 c.bytes.invariant c.bytes-test.true (ap (ends_part _) (sym (whole place line)) ∙ sym c.ends_part.ensures ∙ c.if-ends_part.false)
