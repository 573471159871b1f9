-- The comparison of densities is an order, but for the tie of 0 and 160.
use Rattle.std.proofs.Common.{◌≡◌, ℕ, ◌-◌, ◌*◌, ◌≤◌, ◌<◌, ◌≢◌, Bool, true, false, not, ◌&&◌, ◌||◌, ◌==◌, nat_lt, nat_le, arith, refl, sym, ap, ◌∙◌, inl, inr, subst}
use Rattle.std.specs.Prelude.{if◌then◌else◌}
use Rattle.std.proofs.lemmas.Bool.{cases_lt, cases_eq, ltb-true}
use Rattle.std.proofs.lemmas.Bool.Decides.{nat_tests}
use Rattle.std.proofs.lemmas.Nat.{mul-le}
use Rattle.config_match.specs.declared.answer.Answer.TheVariants.{Yes, No, Pass}
use Rattle.config_match.specs.Answer.{answer_where, is_pass, is_yes}
use Rattle.config_match.specs.Comparisons.{density_answer, is_better_density, is_larger_better, counted_density, medium_density, any_density, differ}
use Rattle.config_precedence.proofs.Composition.{Opposes, Composes}

-- which of two densities is better, where neither is any
abbrev nearer : ℕ → ℕ → ℕ → Bool
nearer x y d = if nat_le y x then is_larger_better y x d else not (is_larger_better x y d)

-- ---- what it says, by the sides of the device's density on which the two lie

-- whether l, of at most the device's density, is better than h, above it
abbrev is_lower_better : ℕ → ℕ → ℕ → Bool
is_lower_better l h d = nat_le d l || nat_lt (d * d) ((2 * l - d) * h)

low_low : (x y d : ℕ) → x ≤ d → y ≤ d → x ≢ y → nearer x y d ≡ nat_lt y x
unfolding is_larger_better
low_low x y d p q n = grind (arith, nat_tests)

high_high : (x y d : ℕ) → d < x → d < y → x ≢ y → nearer x y d ≡ nat_lt x y
unfolding is_larger_better
high_high x y d p q n = grind (arith, nat_tests)

low_high : (x y d : ℕ) → x ≤ d → d < y → nearer x y d ≡ is_lower_better x y d
unfolding is_larger_better
low_high x y d p q = grind (arith, nat_tests)

high_low : (x y d : ℕ) → d < x → y ≤ d → nearer x y d ≡ not (is_lower_better y x d)
unfolding is_larger_better
high_low x y d p q = grind (arith, nat_tests)

-- ---- a lower density that is better stays so against a higher one, and so does a less low one

or_more : (b : Bool) (s p q : ℕ) → p ≤ q → (b || nat_lt s p) ≡ true → (b || nat_lt s q) ≡ true
or_more b s p q le h = grind (arith, nat_tests)

higher : (l h k d : ℕ) → h ≤ k → is_lower_better l h d ≡ true → is_lower_better l k d ≡ true
higher l h k d le was = or_more (nat_le d l) (d * d) ((2 * l - d) * h) ((2 * l - d) * k) (mul-le (2 * l - d) h (2 * l - d) k (omega arith) le) was

lower : (l m h d : ℕ) → l ≤ m → is_lower_better l h d ≡ true → is_lower_better m h d ≡ true
lower l m h d le was =
    let more : (2 * l - d) * h ≤ (2 * m - d) * h = mul-le (2 * l - d) h (2 * m - d) h (omega arith) (omega arith) in
    grind (arith, nat_tests, more)

-- ---- so it is transitive

not_both : (b : Bool) → b ≡ true → not b ≡ true → ⊥
not_both true h k = cc
not_both false h k = cc

not_so : (b : Bool) → (b ≡ true → ⊥) → not b ≡ true
not_so true h = absurd (h refl)
not_so false h = refl

less : (x y : ℕ) → (y ≤ x → ⊥) → nat_lt x y ≡ true
less x y h = elim (cases_lt x y) [ inl lt ↦ grind (arith, nat_tests) | inr le ↦ absurd (h le) ]

nearer-trans : (x y z d : ℕ) → x ≢ y → y ≢ z → x ≢ z → nearer x y d ≡ true → nearer y z d ≡ true → nearer x z d ≡ true
nearer-trans x y z d xy yz xz first second =
    elim (cases_lt d x) [
      | inl hx ↦ elim (cases_lt d y) [
        | inl hy ↦ elim (cases_lt d z) [
          | inl hz ↦
              let e = ltb-true x y (sym (high_high x y d hx hy xy) ∙ first) in
              let f = ltb-true y z (sym (high_high y z d hy hz yz) ∙ second) in
              high_high x z d hx hz xz ∙ less x z (λ le. omega arith)
          | inr lz ↦
              let e = ltb-true x y (sym (high_high x y d hx hy xy) ∙ first) in
              let f = sym (high_low y z d hy lz) ∙ second in
              high_low x z d hx lz ∙ not_so (is_lower_better z x d) (λ is. not_both (is_lower_better z y d) (higher z x y d (omega arith) is) f)
        ]
        | inr ly ↦ elim (cases_lt d z) [
          | inl hz ↦
              let e = sym (high_low x y d hx ly) ∙ first in
              let f = sym (low_high y z d ly hz) ∙ second in
              high_high x z d hx hz xz ∙ less x z (λ le. not_both (is_lower_better y x d) (higher y z x d le f) e)
          | inr lz ↦
              let e = sym (high_low x y d hx ly) ∙ first in
              let f = ltb-true z y (sym (low_low y z d ly lz yz) ∙ second) in
              high_low x z d hx lz ∙ not_so (is_lower_better z x d) (λ is. not_both (is_lower_better y x d) (lower z y x d (omega arith) is) e)
        ]
      ]
      | inr lx ↦ elim (cases_lt d y) [
        | inl hy ↦ elim (cases_lt d z) [
          | inl hz ↦
              let e = sym (low_high x y d lx hy) ∙ first in
              let f = ltb-true y z (sym (high_high y z d hy hz yz) ∙ second) in
              low_high x z d lx hz ∙ higher x y z d (omega arith) e
          | inr lz ↦
              let e = sym (low_high x y d lx hy) ∙ first in
              let f = sym (high_low y z d hy lz) ∙ second in
              low_low x z d lx lz xz ∙ less z x (λ le. not_both (is_lower_better z y d) (lower x z y d le e) f)
        ]
        | inr ly ↦ elim (cases_lt d z) [
          | inl hz ↦
              let e = ltb-true y x (sym (low_low x y d lx ly xy) ∙ first) in
              let f = sym (low_high y z d ly hz) ∙ second in
              low_high x z d lx hz ∙ lower y x z d (omega arith) f
          | inr lz ↦
              let e = ltb-true y x (sym (low_low x y d lx ly xy) ∙ first) in
              let f = ltb-true z y (sym (low_low y z d ly lz yz) ∙ second) in
              low_low x z d lx lz xz ∙ less z x (λ le. omega arith)
        ]
      ]
    ]

-- ---- any density is the best

abbrev preferred : ℕ → ℕ → ℕ → Bool
preferred x y d = if x == any_density then true else if y == any_density then false else nearer x y d

preferred-turned : (x y d : ℕ) → x ≢ y → preferred y x d ≡ not (preferred x y d)
preferred-turned x y d n = grind (arith, nat_tests)

preferred-any : (x y d : ℕ) → x ≡ any_density → preferred x y d ≡ true
preferred-any x y d e = grind (arith, nat_tests)

preferred-to_any : (x y d : ℕ) → x ≢ any_density → y ≡ any_density → preferred x y d ≡ false
preferred-to_any x y d n e = grind (arith, nat_tests)

preferred-nearer : (x y d : ℕ) → x ≢ any_density → y ≢ any_density → preferred x y d ≡ nearer x y d
preferred-nearer x y d n m = grind (arith, nat_tests)

preferred-trans : (x y z d : ℕ) → x ≢ y → y ≢ z → x ≢ z → preferred x y d ≡ true → preferred y z d ≡ true → preferred x z d ≡ true
preferred-trans x y z d xy yz xz first second =
    elim (cases_eq x any_density) [
      | inl ex ↦ preferred-any x z d ex
      | inr nx ↦ elim (cases_eq y any_density) [
        | inl ey ↦ (let h = sym (preferred-to_any x y d nx ey) ∙ first in absurd cc)
        | inr ny ↦ elim (cases_eq z any_density) [
          | inl ez ↦ (let h = sym (preferred-to_any y z d ny ez) ∙ second in absurd cc)
          | inr nz ↦
              preferred-nearer x z d nx nz
              ∙ nearer-trans x y z d xy yz xz (sym (preferred-nearer x y d nx ny) ∙ first) (sym (preferred-nearer y z d ny nz) ∙ second)
        ]
      ]
    ]

-- ---- the answers

where_pass : (p q : Bool) → answer_where p q ≡ Pass → p ≡ false
where_pass true true h = absurd cc
where_pass true false h = absurd cc
where_pass false q h = refl

where_yes : (p q : Bool) → answer_where p q ≡ Yes → (p ≡ true) × (q ≡ true)
where_yes true true h = (refl, refl)
where_yes true false h = absurd cc
where_yes false q h = absurd cc

where_no : (p q : Bool) → answer_where p q ≡ No → (p ≡ true) × (q ≡ false)
where_no true true h = absurd cc
where_no true false h = (refl, refl)
where_no false q h = absurd cc

same_density : (a b d : ℕ) → density_answer a b d ≡ Pass → a ≡ b
same_density a b d h = let e = where_pass (differ a b) (is_better_density a b d) h in grind (arith, nat_tests)

passes : (a b d : ℕ) → a ≡ b → density_answer a b d ≡ Pass
passes a b d e = let f : differ a b ≡ false = grind (arith, nat_tests) in rw f refl

-- the counted densities of two that are strictly ordered
record Ordered (a b d : ℕ) : Type 0 where
  other : counted_density a ≢ counted_density b
  better : preferred (counted_density a) (counted_density b) d ≡ true
  worse : preferred (counted_density b) (counted_density a) d ≡ false

same_both_ways : (x y d : ℕ) → x ≡ y → preferred x y d ≡ preferred y x d
same_both_ways x y d e = ap (λ (n : ℕ). preferred x n d) (sym e) ∙ ap (λ (n : ℕ). preferred n x d) e

ordered : (a b d : ℕ) → density_answer a b d ≡ Yes → density_answer b a d ≡ No → Ordered a b d
ordered a b d h k =
    let better = (where_yes (differ a b) (is_better_density a b d) h).1 in
    let worse = (where_no (differ b a) (is_better_density b a d) k).1 in
    record {
      other = λ e. let turned : preferred (counted_density b) (counted_density a) d ≡ true = sym (same_both_ways _ _ d e) ∙ better in absurd cc;
      better = better;
      worse = worse;
    }

differ-true : (a b : ℕ) → (a ≡ b → ⊥) → differ a b ≡ true
differ-true a b h = grind (arith, nat_tests)

answers : (a b d : ℕ) → Ordered a b d → (density_answer a b d ≡ Yes) × (density_answer b a d ≡ No)
answers a b d o =
    let p = differ-true a b (λ e. o.other (ap counted_density e)) in
    let q = differ-true b a (λ e. o.other (ap counted_density (sym e))) in
    let better : is_better_density a b d ≡ true = o.better in
    let worse : is_better_density b a d ≡ false = o.worse in
    (rw (p, better) refl, rw (q, worse) refl)

ordered-trans : (a b c d : ℕ) → Ordered a b d → Ordered b c d → Ordered a c d
ordered-trans a b c d o p =
    let other : counted_density a ≢ counted_density c = λ e. let h = p.better in let k : preferred (counted_density b) (counted_density a) d ≡ true = rw e h in let n = o.worse in absurd cc in
    let better = preferred-trans (counted_density a) (counted_density b) (counted_density c) d o.other p.other other o.better p.better in
    record {
      other = other;
      better = better;
      worse = preferred-turned (counted_density a) (counted_density c) d other ∙ ap not better;
    }

pub density-composes : (a b c d : ℕ) → Composes (density_answer a b d) (density_answer b a d) (density_answer b c d) (density_answer c b d) (density_answer a c d) (density_answer c a d)
density-composes a b c d = record {
  first_alike = (λ h. passes b a d (sym (same_density a b d h)), λ h. passes a b d (sym (same_density b a d h)));
  second_alike = (λ h. passes c b d (sym (same_density b c d h)), λ h. passes b c d (sym (same_density c b d h)));
  both_pass = λ h k. let e = same_density a b d h ∙ same_density b c d k in (passes a c d e, passes c a d (sym e));
  first_decides = λ h h' k. let e = same_density b c d k in (subst (λ (n : ℕ). density_answer a n d ≡ Yes) e h, subst (λ (n : ℕ). density_answer n a d ≡ No) e h');
  second_decides = λ h k k'. let e = sym (same_density a b d h) in (subst (λ (n : ℕ). density_answer n c d ≡ Yes) e k, subst (λ (n : ℕ). density_answer c n d ≡ No) e k');
  both_decide = λ h h' k k'. answers a c d (ordered-trans a b c d (ordered a b d h h') (ordered b c d k k'));
}

-- where one is 0 and the other 160
abbrev pub tie : ℕ → ℕ → Bool
tie a b = (a == 0 && b == medium_density) || (a == medium_density && b == 0)

counted_apart : (a b : ℕ) → tie a b ≡ false → a ≢ b → counted_density a ≢ counted_density b
counted_apart a b t n = grind (arith, nat_tests)

differs : (a b : ℕ) → differ a b ≡ true → a ≢ b
differs a b h = grind (arith, nat_tests)

pub density-opposes : (a b d : ℕ) → tie a b ≡ false → Opposes (density_answer a b d) (density_answer b a d)
density-opposes a b d untied = record {
  pass = λ h. passes b a d (sym (same_density a b d h));
  yes = λ h.
      let is = where_yes (differ a b) (is_better_density a b d) h in
      let other = counted_apart a b untied (differs a b is.0) in
      (answers a b d (record { other = other; better = is.1; worse = preferred-turned (counted_density a) (counted_density b) d other ∙ ap not is.1 })).1;
}

-- ---- the tie

pass_where_not : (p q : Bool) → p ≡ true → is_pass (answer_where p q) ≡ false
pass_where_not true true e = refl
pass_where_not true false e = refl
pass_where_not false q e = absurd cc

yes_where_so : (p q : Bool) → p ≡ true → is_yes (answer_where p q) ≡ q
yes_where_so true true e = refl
yes_where_so true false e = refl
yes_where_so false q e = absurd cc

tie-differ : (a b : ℕ) → tie a b ≡ true → differ a b ≡ true
tie-differ a b e = grind (arith, nat_tests)

tie-first : (a b : ℕ) → tie a b ≡ true → counted_density a ≡ medium_density
tie-first a b e = grind (arith, nat_tests)

tie-second : (a b : ℕ) → tie a b ≡ true → counted_density b ≡ medium_density
tie-second a b e = grind (arith, nat_tests)

medium-preferred : (d : ℕ) → preferred medium_density medium_density d ≡ nat_le medium_density d
unfolding is_larger_better
medium-preferred d = grind (arith, nat_tests)

pub tie-decides : (a b d : ℕ) → tie a b ≡ true → is_pass (density_answer a b d) ≡ false
tie-decides a b d e = pass_where_not (differ a b) (is_better_density a b d) (tie-differ a b e)

pub tie-yes : (a b d : ℕ) → tie a b ≡ true → is_yes (density_answer a b d) ≡ nat_le medium_density d
tie-yes a b d e =
    yes_where_so (differ a b) (is_better_density a b d) (tie-differ a b e)
    ∙ ap (λ (x : ℕ). preferred x (counted_density b) d) (tie-first a b e)
    ∙ ap (λ (y : ℕ). preferred medium_density y d) (tie-second a b e)
    ∙ medium-preferred d
