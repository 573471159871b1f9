use Rattle.std.proofs.Common.{◌≡◌, ◌<◌, ◌∙◌, arith, zero, suc, true, false, [], ◌∷◌, Option, None, List, ℕ, Some, drop, get_or, slice_get, refl, sym, ap}
use Rattle.std.proofs.lemmas.List.{drop_more}
use Rattle.string_pool.specs.Escapes.{BeginsPlain, is_plain_byte}
use Rattle.string_pool.proofs.ByteTexts.{IsPlain-more, IsPlain-byte}
use Rattle.string_pool.proofs.shown.ascii_width.Goals as goal

one_byte : (x y : ℕ) → Some x ≡ Some y → x ≡ y
one_byte x y same = cc

no_byte : (x : ℕ) → ◌≡◌ {A = Option ℕ} None (Some x) → ⊥
no_byte x same = cc

not_both : false ≡ true → ⊥
not_both same = cc

-- where a character stands at the front for itself, some do
some_width : (left : List ℕ) (width : ℕ) → BeginsPlain left → is_plain_byte (get_or left width 0) ≡ false → 0 < width
some_width left (suc width) plain other = omega arith
some_width [] zero plain other = absurd (no_byte plain.0 plain.1)
some_width (x ∷ left) zero plain other = absurd (not_both (sym other ∙ ap is_plain_byte (one_byte x plain.0 plain.1) ∙ plain.2))

pub loop-width-preserved : goal.loop-width-preserved
loop-width-preserved c =
    let left = c.args.left.now in
    let width = c.loop-width.width in
    let first : Some (get_or left width 0) ≡ slice_get (drop width left) 0 = sym (ap (λ (bytes : List ℕ). slice_get bytes 0) (drop_more left width 0 c.loop-width-test.true)) in
    IsPlain-more left (drop width left) width 1 c.loop-width.invariant refl (IsPlain-byte (drop width left) (get_or left width 0) first (sym c.if-is_plain_ascii.ensures))

pub returns-else-is_plain_ascii-clause-some : goal.returns-else-is_plain_ascii-clause-some
returns-else-is_plain_ascii-clause-some c = λ plain. some_width c.args.left.now c.loop-width.width plain (sym c.if-is_plain_ascii.ensures)
