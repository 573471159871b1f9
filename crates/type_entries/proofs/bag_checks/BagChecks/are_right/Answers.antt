use Rattle.std.proofs.Common.{◌≡◌, ◌+◌, ◌*◌, List, ℕ, length-drop, get_or, sym, ap, ◌∙◌, arith}
use Rattle.std.proofs.lemmas.Bool.Decides.{nat_tests}
use Rattle.type_entries.proofs.WrongSteps.{rows-known}
use Rattle.type_entries.proofs.bag_checks.BagChecks.are_right.Goals as goal

pub returns-in-Some-Some : goal.returns-in-Some-Some
returns-in-Some-Some c = λ equal.
    let of = c.args.self.now in
    let found = c.in-Some-Some in
    let before = found.ensures.lookup.3.1 0 ∙ ap (λ (l : List ℕ). get_or l c.args.place 0) c.deref.ensures.value in
    let after = found.ensures'.lookup.3.1 0 ∙ ap (λ (l : List ℕ). get_or l (c.args.place + 12 * c.args.count) 0) c.deref-2.ensures.value in
    let same : found.before.now ≡ found.after.now = grind (arith, nat_tests, equal) in
    let within = found.ensures'.lookup.3.0 in
    rows-known of.whole.now of.counts.items of.counted c.args.place c.args.count (omega (arith, c.requires, length-drop c.args.place of.whole.now))
    (rw (sym c.deref-2.ensures.value) within) (sym before ∙ same ∙ after)
