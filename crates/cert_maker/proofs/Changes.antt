-- The changes of a trace along a range.
use Rattle.std.proofs.Common.{◌≡◌, ◌≢◌, ℕ, zero, suc, ◌+◌, ◌-◌, ◌<◌, ◌≤◌, inl, inr, arith, sym, ◌∙◌, ap, refl}
use Rattle.std.specs.Prelude.{if◌then◌else◌}
use Rattle.cert_checker.specs.reference_resolver.Trace.{Trace}
use Rattle.cert_checker.specs.reference_resolver.SameTrace.{same_trace}
use Rattle.cert_maker.specs.Runs.{changes}
use Rattle.cert_checker.proofs.reference_resolver.SameTraces.{trace-cases}

-- whether it changes behind a number
abbrev pub change : (ℕ → Trace) → ℕ → ℕ
change t n = if same_trace (t n) (t (n + 1)) then 0 else 1

pub change-most : (t : ℕ → Trace) (n : ℕ) → change t n ≤ 1
change-most t n =
    elim (trace-cases (t n) (t (n + 1))) [
      | inl same ↦ rw same.0 (omega arith)
      | inr other ↦ rw other.0 (omega arith)
    ]

pub change-one : (t : ℕ → Trace) (n : ℕ) → t n ≢ t (n + 1) → change t n ≡ 1
change-one t n ne =
    elim (trace-cases (t n) (t (n + 1))) [
      | inl same ↦ absurd (ne same.1)
      | inr other ↦ rw other.0
    ]

change-none : (t : ℕ → Trace) (n : ℕ) → t n ≡ t (n + 1) → change t n ≡ 0
change-none t n e =
    elim (trace-cases (t n) (t (n + 1))) [
      | inl same ↦ rw same.0
      | inr other ↦ absurd (other.1 e)
    ]

changes-add : (t : ℕ → Trace) (low a b : ℕ) → changes t low (a + b) ≡ changes t low a + changes t (low + a) b
changes-add t low a zero = let e : a + 0 ≡ a = omega arith in rw e (omega arith)
changes-add t low a (suc b) =
    let e : a + suc b ≡ suc (a + b) = omega arith in
    let f : low + (a + b) ≡ low + a + b = omega arith in
    let h = changes-add t low a b in
    rw e (rw f (omega (arith, h)))

pub changes-same : (t : ℕ → Trace) (low n : ℕ) (w : Trace) → ((m : ℕ) → low ≤ m → m ≤ low + n → t m ≡ w) → changes t low n ≡ 0
changes-same t low zero w f = refl
changes-same t low (suc n) w f =
    let h = changes-same t low n w (λ m a b. f m a (omega arith)) in
    let e : t (low + n) ≡ t (low + n + 1) = f (low + n) (omega arith) (omega arith) ∙ sym (f (low + n + 1) (omega arith) (omega arith)) in
    let d = change-none t (low + n) e in
    omega (arith, h, d)

-- a range falls behind a number into two, and the pair of neighbours between them
pub changes-at : (t : ℕ → Trace) (low m high : ℕ) → low ≤ m → m < high → changes t low (high - low) ≡ changes t low (m - low) + change t m + changes t (m + 1) (high - (m + 1))
changes-at t low m high p q =
    let k = high - (m + 1) in
    let e : high - low ≡ (m - low) + (1 + k) = omega arith in
    let f : low + (m - low) ≡ m = omega arith in
    let h1 = changes-add t low (m - low) (1 + k) in
    let h2 = changes-add t m 1 k in
    let z : m + 0 ≡ m = omega arith in
    let h3 : changes t m 1 ≡ change t m = rw z (omega arith) in
    let g : changes t (low + (m - low)) (1 + k) ≡ changes t m (1 + k) = ap (λ x. changes t x (1 + k)) f in
    rw e (omega (arith, h1, h2, h3, g))
