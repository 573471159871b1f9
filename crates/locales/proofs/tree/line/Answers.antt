use Rattle.std.proofs.Common.{◌≡◌, ℕ, ◌-◌, ◌<◌, suc, List, [], ◌∷◌, ◌++◌, length, Some, ap, sym, ◌∙◌, arith, append_assoc, length-append}
use Rattle.std.proofs.lemmas.List.{append-nil}
use Rattle.locales.specs.Facts.{parent_of}
use Rattle.locales.specs.Line.{first_above, line_of}
use Rattle.locales.proofs.Above.{first_above-none, first_above-some, few_above, none_left}
use Rattle.locales.proofs.tree.line.Goals as goal

-- what is above the last is its parent, and what is above that
next_up : (line : List ℕ) (left last script parent : ℕ) → parent_of last script ≡ Some parent → line ++ first_above (suc left) last script ≡ (line ++ parent ∷ []) ++ first_above left parent script
next_up line left last script parent some = ap (◌++◌ line) (first_above-some left last script parent some) ∙ sym (append_assoc line (parent ∷ []) _)

left_above : (line : List ℕ) (last script : ℕ) → length line < 5 → line ++ first_above (suc (4 - length line)) last script ≡ line ++ first_above (5 - length line) last script
left_above line last script lt = let left : suc (4 - length line) ≡ 5 - length line = omega arith in ap (λ n. line ++ first_above n last script) left

-- so the line is not full yet
room : (line : List ℕ) (left locale last script parent : ℕ) → parent_of last script ≡ Some parent → line ++ first_above (suc left) last script ≡ locale ∷ first_above 4 locale script → length line < 4
room line left locale last script parent some whole =
    let all = ap length (sym (next_up line left last script parent some) ∙ whole) in
    let few = few_above locale script in
    omega (arith, all, few, length-append (line ++ parent ∷ []) (first_above left parent script), length-append line (parent ∷ []))

pub up-init : goal.up-init
up-init c =
    let items = c.push.ensures.items ∙ ap (λ items. items ++ c.args.locale ∷ []) c.new-line.ensures in
    let one = ap length items in
    (omega arith, ap (λ line. line ++ first_above (5 - length line) c.args.locale c.args.script) items)

pub push-requires-in-Some : goal.push-requires-in-Some
push-requires-in-Some c =
    let whole = left_above c.up.line.items c.up.last c.args.script c.up.invariant.0 ∙ c.up.invariant.1 in
    (omega arith, room c.up.line.items (4 - length c.up.line.items) c.args.locale c.up.last c.args.script c.in-Some.parent (sym c.in-Some.ensures) whole)

pub up-preserved : goal.up-preserved
up-preserved c =
    let line = c.up.line.items in
    let left = 4 - length line in
    let parent = c.in-Some.parent in
    let some = sym c.in-Some.ensures in
    let whole = left_above line c.up.last c.args.script c.up.invariant.0 ∙ c.up.invariant.1 in
    let free = room line left c.args.locale c.up.last c.args.script parent some whole in
    let items = c.push-in-Some.ensures.items in
    let long = ap length items in
    let longer = length-append line (parent ∷ []) in
    let less : 5 - length c.push-in-Some.new.self.items ≡ left = omega arith in (
      omega arith,
      ap (λ n. c.push-in-Some.new.self.items ++ first_above n parent c.args.script) less
          ∙ ap (λ next. next ++ first_above left parent c.args.script) items
          ∙ sym (next_up line left c.up.last c.args.script parent some)
          ∙ whole,
    )

pub returns-clause-value : goal.returns-clause-value
unfolding line_of
returns-clause-value c =
    let locale = c.args.locale in
    let none = ap (◌++◌ c.up.line.items) (first_above-none (5 - length c.up.line.items) c.up.last c.args.script (sym c.in_default.ensures)) in
    sym (none ∙ append-nil _) ∙ c.up.invariant.1 ∙ ap (λ above. locale ∷ above) (none_left locale c.args.script 1)
