use Rattle.std.proofs.Common.{List, Bool, ℕ, map, refl, sym, ◌∙◌}
use Rattle.std.specs.Borrow.{Bor}
use Rattle.std.specs.List.{list_any}
use Rattle.config_box.specs.BoxJson.{is_malformed}
use Rattle.config_box.proofs.Filters.{any-here, any-next, any-end}
use Rattle.config_box.proofs.read.any_malformed.Goals as goal

pub loop-text-preserved : goal.loop-text-preserved
loop-text-preserved c =
    let answer : List (Bor (List ℕ)) → Bool = λ texts. list_any (is_malformed c.args.rule) (map (λ text. text.now) texts) in
    any-next (λ text. is_malformed c.args.rule text.now) answer c.args.texts.now c.loop-text.text-index _ (λ x rest. refl) c.loop-text.invariant c.loop-text-test.true (sym c.is_malformed.ensures ∙ c.if-is_malformed.false)

pub returns-then-is_malformed : goal.returns-then-is_malformed
returns-then-is_malformed c =
    let answer : List (Bor (List ℕ)) → Bool = λ texts. list_any (is_malformed c.args.rule) (map (λ text. text.now) texts) in
    any-here (λ text. is_malformed c.args.rule text.now) answer c.args.texts.now c.loop-text.text-index _ (λ x rest. refl) c.loop-text.invariant c.loop-text-test.true (sym c.is_malformed.ensures ∙ c.if-is_malformed.true)

pub returns : goal.returns
returns c =
    let answer : List (Bor (List ℕ)) → Bool = λ texts. list_any (is_malformed c.args.rule) (map (λ text. text.now) texts) in
    any-end answer c.args.texts.now c.loop-text.text-index refl c.loop-text.invariant c.loop-text-test.false
