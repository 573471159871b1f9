use Rattle.std.proofs.Common.{◌≡◌, ℕ, ◌*◌, nat_lt, true, false, List, Option, take, min, ap, subst, ◌∙◌, arith}
use Rattle.std.proofs.Math.Nat.{min_comm}
use Rattle.std.proofs.KnownBytes.{Appends-trans}
use Rattle.std.proofs.lemmas.Bool.Decides.{nat_tests}
use Rattle.std.proofs.lemmas.List.{take_min}
use Rattle.std.proofs.lemmas.Result.{on_ok_weaker}
use Rattle.std.specs.Io.KnownBytes.{Appends}
use Rattle.resource_tool.specs.TreeText.{path_text, spaces}
use Rattle.resource_tool.proofs.show.line_text.write_path.Goals as goal

spaces_to : (old new : Option (List ℕ)) (width depth from : ℕ) → width ≡ min 64 (2 * from) → from ≡ depth → Appends old new (take width spaces)
    → Appends old new (take (2 * depth) spaces)
spaces_to old new width depth from least is put =
    let same : take width spaces ≡ take (2 * depth) spaces =
    ap (λ (n : ℕ). take n spaces) (least ∙ ap (λ (n : ℕ). min 64 (2 * n)) is ∙ min_comm 64 (2 * depth)) ∙ take_min (2 * depth) spaces in
    subst (λ (text : List ℕ). Appends old new text) same put

pub returns-then-path-lt-MOST_DEPTH : goal.returns-then-path-lt-MOST_DEPTH
unfolding path_text
returns-then-path-lt-MOST_DEPTH g c =
    let is_less : nat_lt c.args.path.depth 32 ≡ true = grind (arith, nat_tests) in
    let spaced = spaces_to _ _ _ c.args.path.depth _ c.min-width.ensures c.from.ensures c.in_ok-write_all.ensures.bytes in
    rw is_less (on_ok_weaker c.write_else.result (λ last. Appends-trans _ _ _ _ _ spaced last) c.write_else.ensures)

pub returns-else-path-lt-MOST_DEPTH : goal.returns-else-path-lt-MOST_DEPTH
unfolding path_text
returns-else-path-lt-MOST_DEPTH g c =
    let is_not_less : nat_lt c.args.path.depth 32 ≡ false = grind (arith, nat_tests) in
    let spaced = spaces_to _ _ _ c.args.path.depth _ c.min-width.ensures c.from.ensures c.in_ok-write_all.ensures.bytes in
    rw is_not_less (on_ok_weaker c.write_behind.result (λ last. Appends-trans _ _ _ _ _ spaced last) c.write_behind.ensures)
