-- Trees of a box whose members differ at one coordinate alone.
use Rattle.std.proofs.Common.{◌≡◌, ◌≢◌, ℕ, ◌+◌, ◌*◌, ◌<◌, ◌≤◌, inl, inr, arith, List, [], ◌∷◌, length, Bool, true, false, sym, ◌∙◌, ap, subst, set}
use Rattle.std.proofs.lemmas.Bool.{cases_lt, cases_Bool, leb-true, leb-false}
use Rattle.cert_checker.specs.config_record.declared.coord.Coord.{Coord}
use Rattle.cert_checker.specs.config_record.Coord.{place_of}
use Rattle.cert_checker.specs.config_record.ComparedNumber.{device_number}
use Rattle.cert_checker.proofs.config_record.ChangedNumber.{by_coord, number_at-set_same, number_at-set_other}
use Rattle.cert_checker.specs.reference_resolver.Trace.{Trace}
use Rattle.cert_checker.specs.box_answers.NumberSet.{SetOf}
use Rattle.cert_checker.specs.box_answers.Members.{set_at, IsMember}
use Rattle.cert_checker.proofs.box_answers.Sets.{member-changed}
use Rattle.cert_checker.specs.config_box.Tests.{TestOf, AtMostOf, AmongOf, coord_of, answers, is_range, has_wrong_kind}
use Rattle.cert_checker.specs.cert_tree.Certificate.{NodeOf, TestAt, ValueAt, BagAt}
use Rattle.cert_checker.specs.declared.rule.Rule.TheVariants.{TestKind, EmptyHalf, MixedTrace}
use Rattle.cert_checker.specs.Paths.{Path, IsAt, root}
use Rattle.cert_maker.specs.Needed.{AgreeBut, IsNeededTest, IsNeededAt, IsNeeded}
use Rattle.cert_maker.specs.Runs.{trace_with, runs_along, IsOnLine}
use Rattle.cert_maker.specs.Walk.{Walk}
use Rattle.cert_checker.proofs.reference_resolver.SameTraces.{trace-cases}
use Rattle.cert_checker.proofs.config_box.Filters.{Among}
use Rattle.cert_maker.proofs.Lines.{Kept, between, chosen, kept, In, in-set, set-in, takes, answers-takes, is_between, half, at_path, mark-path, Fits, Both, half-in, in-half, some-takes, some-fails, spread-runs, spread-le, Cuts, spread-eq, spread-some, spread-one}
use Rattle.cert_maker.proofs.Counting.{IsLeaf, Shrinks, at-most, Grows, at-least}
use Rattle.cert_maker.proofs.Passing.{Passes}
use Rattle.cert_maker.proofs.ByNumbers.{GoesByNumbers}

-- members differ at c alone, and their number there tells their trace
pub record Line (trace : List ℕ → Trace) (sets : List SetOf) (c : Coord) (t : ℕ → Trace) : Type 0 where
  pub alone : (x y : List ℕ) → IsMember sets x → IsMember sets y → AgreeBut c x y
  pub told : (x : List ℕ) → IsMember sets x → trace x ≡ t (device_number x c)

-- the members at the end of a path have the numbers that are left, at c
pub record Spans (sets : List SetOf) (c : Coord) (path : Path) (k : Kept) : Type 0 where
  pub inside : (n : ℕ) → In k n → (x : List ℕ) × IsAt sets path x × (device_number x c ≡ n)
  pub within : (x : List ℕ) → IsAt sets path x → In k (device_number x c)
  pub some : ℕ
  pub some_in : In k some

answers-here : (c : Coord) (test : TestOf) (x : List ℕ) → coord_of test ≡ c → answers test x ≡ takes test (device_number x c)
answers-here c test x e = answers-takes test x ∙ ap (λ k. takes test (device_number x k)) e

-- a test of another coordinate is answered alike by all members
answers-alike : (trace : List ℕ → Trace) (sets : List SetOf) (c : Coord) (t : ℕ → Trace) (test : TestOf) → Line trace sets c t → coord_of test ≢ c
    → (x y : List ℕ) → IsMember sets x → IsMember sets y → answers test x ≡ answers test y
answers-alike trace sets c t test line other x y mx my =
    answers-takes test x ∙ ap (takes test) (line.alone x y mx my (coord_of test) other) ∙ sym (answers-takes test y)

-- a test that is not of the wrong kind can be asked of what is left
fits : (sets : List SetOf) (c : Coord) (path : Path) (test : TestOf) → coord_of test ≡ c → (has_wrong_kind sets test ≡ true → ⊥) → Fits (at_path (kept (set_at sets c)) path) test
unfolding has_wrong_kind
fits sets c path (AtMostOf j m) e kind = tt
fits sets c path (AmongOf j choice) e kind =
    elim (cases_Bool (is_range (set_at sets j))) [
      | inl is ↦ absurd (kind is)
      | inr told_no ↦ mark-path (set_at sets c) path ∙ ap (λ i. is_range (set_at sets i)) (sym e) ∙ told_no
    ]

half-spans : (sets : List SetOf) (c : Coord) (path : Path) (k : Kept) (test : TestOf) (answer : Bool) → Fits k test → Spans sets c path k → coord_of test ≡ c → Both k test
    → (s : ℕ) → In k s → takes test s ≡ answer → Spans sets c ((test, answer) ∷ path) (half k test answer)
half-spans sets c path k test answer fit sp e both s is st =
    record {
      inside = λ n h.
          let r = half-in k test answer fit both n h in
          let x = sp.inside n r.0 in
          (x.0, (x.1.0, (answers-here c test x.0 e ∙ ap (takes test) x.2 ∙ r.1, x.1.1)), x.2);
      within = λ x a. in-half k test answer fit (device_number x c) (sp.within x (a.0, a.1.1)) (sym (answers-here c test x e) ∙ a.1.0);
      some = s;
      some_in = in-half k test answer fit s is st;
    }

-- ---- needed tests

needed-coord : (trace : List ℕ → Trace) (sets : List SetOf) (c : Coord) (t : ℕ → Trace) (path : Path) (test : TestOf) → Line trace sets c t
    → IsNeededTest trace sets (IsAt sets path) test → coord_of test ≡ c
needed-coord trace sets c t path test line s =
    by_coord (coord_of test) c (λ e. e)
    (λ other. let alike = answers-alike trace sets c t test line other s.x s.y s.yes.member.0 s.no.member.0 in
    let told_yes = s.yes.answers in
    let told_no = s.no.answers in
    absurd cc)

needed-both : (trace : List ℕ → Trace) (sets : List SetOf) (c : Coord) (path : Path) (k : Kept) (test : TestOf) → coord_of test ≡ c
    → IsNeededTest trace sets (IsAt sets path) test → Spans sets c path k → Both k test
needed-both trace sets c path k test e s sp =
    record {
      low = device_number s.x c;
      high = device_number s.y c;
      low_in = sp.within s.x s.yes.member;
      high_in = sp.within s.y s.no.member;
      low_takes = sym (answers-here c test s.x e) ∙ s.yes.answers;
      high_fails = sym (answers-here c test s.y e) ∙ s.no.answers;
    }

-- between the two there is only the cut
cut-at : (trace : List ℕ → Trace) (sets : List SetOf) (c : Coord) (t : ℕ → Trace) (path : Path) (low high m : ℕ) → Line trace sets c t
    → IsNeededTest trace sets (IsAt sets path) (AtMostOf c m) → Spans sets c path (between low high) → t m ≢ t (m + 1)
cut-at trace sets c t path low high m line s sp eq =
    let x = device_number s.x c in
    let y = device_number s.y c in
    let xl : x ≤ m = leb-true x m s.yes.answers in
    let yl : m < y = leb-false y m s.no.answers in
    let xi = sp.within s.x s.yes.member in
    let yi = sp.within s.y s.no.member in
    let none : (n : ℕ) → low ≤ n → n ≤ high → x < n → n < y → ⊥ =
    λ n a b f g.
    let z = sp.inside n (a, b) in
    s.near z.0 z.1 (subst (λ (v : ℕ). x < v) (sym z.2) f) (subst (λ (v : ℕ). v < y) (sym z.2) g) in
    let xm : x ≡ m = elim (cases_lt x m) [ inl lt ↦ absurd (none m (omega (arith, xi.0)) (omega (arith, yi.1)) lt yl) | inr le ↦ omega arith ] in
    let ym : y ≡ m + 1 = elim (cases_lt (m + 1) y) [ inl lt ↦ absurd (none (m + 1) (omega (arith, xi.0)) (omega (arith, yi.1)) (omega arith) lt) | inr le ↦ omega arith ] in
    s.differ (line.told s.x s.yes.member.0 ∙ ap t xm ∙ eq ∙ sym (line.told s.y s.no.member.0 ∙ ap t ym))

parted : (trace : List ℕ → Trace) (sets : List SetOf) (c : Coord) (t : ℕ → Trace) (path : Path) (ns : List ℕ) (test : TestOf) → coord_of test ≡ c → Line trace sets c t
    → is_range (set_at sets c) ≡ false → IsNeededTest trace sets (IsAt sets path) test → Spans sets c path (chosen ns)
    → (m n : ℕ) → Among m ns → Among n ns → takes test m ≡ true → takes test n ≡ false → t m ≢ t n
parted trace sets c t path ns test e line mark s sp m n mi ni told_yes told_no eq =
    let x = sp.inside m mi in
    let y = sp.inside n ni in
    s.parts (ap (λ i. is_range (set_at sets i)) e ∙ mark)
    (λ a b ai bi. subst (λ (i : Coord). AgreeBut i a b) (sym e) (line.alone a b ai.0 bi.0))
    x.0 y.0
    (record { member = x.1; answers = answers-here c test x.0 e ∙ ap (takes test) x.2 ∙ told_yes })
    (record { member = y.1; answers = answers-here c test y.0 e ∙ ap (takes test) y.2 ∙ told_no })
    (line.told x.0 x.1.0 ∙ ap t x.2 ∙ eq ∙ sym (line.told y.0 y.1.0 ∙ ap t y.2))

needed-cuts : (trace : List ℕ → Trace) (sets : List SetOf) (c : Coord) (t : ℕ → Trace) (path : Path) (k : Kept) (test : TestOf) → coord_of test ≡ c → Line trace sets c t
    → is_between k ≡ is_range (set_at sets c) → IsNeededTest trace sets (IsAt sets path) test → Spans sets c path k → Cuts t k test
needed-cuts trace sets c t path (between low high) (AtMostOf j m) e line mark s sp =
    cut-at trace sets c t path low high m line (subst (λ (i : Coord). IsNeededTest trace sets (IsAt sets path) (AtMostOf i m)) e s) sp
needed-cuts trace sets c t path (between low high) (AmongOf j choice) e line mark s sp = tt
needed-cuts trace sets c t path (chosen ns) test e line mark s sp = parted trace sets c t path ns test e line (sym mark) s sp

eq-le : (a b : ℕ) → a ≡ b → b ≤ a
eq-le a b e = omega arith

shrinks : (trace : List ℕ → Trace) (sets : List SetOf) (c : Coord) (t : ℕ → Trace) → Line trace sets c t
    → Shrinks t (kept (set_at sets c)) (λ path. Spans sets c path (at_path (kept (set_at sets c)) path)) (IsNeededAt trace sets)
shrinks trace sets c t line =
    record {
      test = λ test path sp s.
          let k = at_path (kept (set_at sets c)) path in
          let e = needed-coord trace sets c t path test line s in
          let fit = fits sets c path test e (λ wrong. s.passes TestKind wrong) in
          let both = needed-both trace sets c path k test e s sp in (
            half-spans sets c path k test true fit sp e both both.low both.low_in both.low_takes,
            half-spans sets c path k test false fit sp e both both.high both.high_in both.high_fails,
            eq-le _ _ (spread-eq t k test fit both (needed-cuts trace sets c t path k test e line (mark-path (set_at sets c) path) s sp)),
          );
      leaf = λ node path is sp s. spread-some t (at_path (kept (set_at sets c)) path) sp.some sp.some_in;
    }

-- ---- nodes at which no rule fails

passed-coord : (trace : List ℕ → Trace) (sets : List SetOf) (c : Coord) (t : ℕ → Trace) (path : Path) (test : TestOf) (d : List ℕ) → Line trace sets c t → IsAt sets path d
    → Passes trace sets (TestAt test) path → coord_of test ≡ c
passed-coord trace sets c t path test d line at ok =
    by_coord (coord_of test) c (λ e. e)
    (λ other. elim (cases_Bool (answers test d)) [
      | inl told_yes ↦ absurd (ok EmptyHalf (inl (λ x a. answers-alike trace sets c t test line other x d a.0 at.0 ∙ told_yes)))
      | inr told_no ↦ absurd (ok EmptyHalf (inr (λ x a. answers-alike trace sets c t test line other x d a.0 at.0 ∙ told_no)))
    ])

passed-both : (trace : List ℕ → Trace) (sets : List SetOf) (c : Coord) (path : Path) (k : Kept) (test : TestOf) → Fits k test → coord_of test ≡ c
    → Passes trace sets (TestAt test) path → Spans sets c path k → Both k test
passed-both trace sets c path k test fit e ok sp =
    elim (some-takes k test fit sp.some sp.some_in) [
      | inr none ↦ absurd (ok EmptyHalf (inr (λ x a. answers-here c test x e ∙ none (device_number x c) (sp.within x a))))
      | inl y ↦ elim (some-fails k test fit sp.some sp.some_in) [
        | inr none ↦ absurd (ok EmptyHalf (inl (λ x a. answers-here c test x e ∙ none (device_number x c) (sp.within x a))))
        | inl f ↦ record { low = y.0; high = f.0; low_in = y.1; high_in = f.1; low_takes = y.2; high_fails = f.2 }
      ]
    ]

mixed : (trace : List ℕ → Trace) (sets : List SetOf) (node : NodeOf) (path : Path) → IsLeaf node → Passes trace sets node path
    → (x y : List ℕ) → IsAt sets path x → IsAt sets path y → trace x ≢ trace y → ⊥
mixed trace sets (TestAt test) path is ok x y ax ay ne = absurd is
mixed trace sets (ValueAt layer value) path is ok x y ax ay ne = ok MixedTrace (x, y, ax, ay, ne)
mixed trace sets (BagAt id) path is ok x y ax ay ne = ok MixedTrace (x, y, ax, ay, ne)

one-trace : (trace : List ℕ → Trace) (sets : List SetOf) (c : Coord) (t : ℕ → Trace) (node : NodeOf) (path : Path) (k : Kept) → Line trace sets c t → IsLeaf node
    → Passes trace sets node path → Spans sets c path k → (m n : ℕ) → In k m → In k n → t m ≡ t n
one-trace trace sets c t node path k line is ok sp m n mi ni =
    let x = sp.inside m mi in
    let y = sp.inside n ni in
    elim (trace-cases (t m) (t n)) [
      | inl same ↦ same.1
      | inr other ↦ absurd (mixed trace sets node path is ok x.0 y.0 x.1 y.1
          (λ e. other.1 (sym (line.told x.0 x.1.0 ∙ ap t x.2) ∙ e ∙ line.told y.0 y.1.0 ∙ ap t y.2)))
    ]

grows : (trace : List ℕ → Trace) (sets : List SetOf) (c : Coord) (t : ℕ → Trace) → Line trace sets c t
    → Grows t (kept (set_at sets c)) (λ path. Spans sets c path (at_path (kept (set_at sets c)) path)) (Passes trace sets)
grows trace sets c t line =
    record {
      test = λ test path sp ok.
          let k = at_path (kept (set_at sets c)) path in
          let d = sp.inside sp.some sp.some_in in
          let e = passed-coord trace sets c t path test d.0 line d.1 ok in
          let fit = fits sets c path test e (λ wrong. ok TestKind wrong) in
          let both = passed-both trace sets c path k test fit e ok sp in (
            half-spans sets c path k test true fit sp e both both.low both.low_in both.low_takes,
            half-spans sets c path k test false fit sp e both both.high both.high_in both.high_fails,
            spread-le t k test fit both,
          );
      leaf = λ node path is sp ok.
          spread-one t (at_path (kept (set_at sets c)) path) (t sp.some)
          (λ n i. one-trace trace sets c t node path (at_path (kept (set_at sets c)) path) line is ok sp n sp.some i sp.some_in)
          sp.some sp.some_in;
    }

-- ---- the box of a line

other-member : (sets : List SetOf) (c : Coord) (d : List ℕ) → IsOnLine sets c d → (x : List ℕ) → IsMember sets x → AgreeBut c x d
other-member sets c d l x m k other = l.others k (device_number x k) (device_number d k) other (m k) (l.member k)

line-of : (trace : List ℕ → Trace) (sets : List SetOf) (c : Coord) (d : List ℕ) → GoesByNumbers trace → IsOnLine sets c d → Line trace sets c (trace_with trace d c)
line-of trace sets c d by l =
    record {
      alone = λ x y mx my k other. other-member sets c d l x mx k other ∙ sym (other-member sets c d l y my k other);
      told = λ x m. by x (set d (place_of c) (device_number x c))
          (λ k. by_coord k c
          (λ e. let here : device_number (set d (place_of c) (device_number x c)) c ≡ device_number x c = number_at-set_same d c (device_number x c) l.count in
          ap (device_number x) e ∙ sym here ∙ ap (device_number (set d (place_of c) (device_number x c))) (sym e))
          (λ other. other-member sets c d l x m k other ∙ sym (number_at-set_other d c k (device_number x c) other)));
    }

root-spans : (sets : List SetOf) (c : Coord) (d : List ℕ) → IsOnLine sets c d → Spans sets c [] (kept (set_at sets c))
root-spans sets c d l =
    record {
      inside = λ n is.
          let here = number_at-set_same d c n l.count in (
            set d (place_of c) n,
            (member-changed sets d (set d (place_of c) n) c n l.member (in-set (set_at sets c) n is) here (λ k other. number_at-set_other d c k n other), tt),
            here,
          );
      within = λ x a. set-in (set_at sets c) (device_number x c) (a.0 c);
      some = device_number d c;
      some_in = set-in (set_at sets c) (device_number d c) (l.member c);
    }

pub needed-is-small : (trace : List ℕ → Trace) (sets : List SetOf) (c : Coord) (d : List ℕ) (nodes : List NodeOf) → GoesByNumbers trace → IsOnLine sets c d
    → IsNeeded trace sets nodes → length nodes + 1 ≤ 2 * runs_along trace sets c d
needed-is-small trace sets c d nodes by l w =
    let t = trace_with trace d c in
    let k = kept (set_at sets c) in
    let r = at-most t k (λ path. Spans sets c path (at_path k path)) (IsNeededAt trace sets) (shrinks trace sets c t (line-of trace sets c d by l)) nodes root (root-spans sets c d l, tt) w in
    let s = spread-runs t (set_at sets c) in
    omega (arith, r, s)

pub accepted-is-large : (trace : List ℕ → Trace) (sets : List SetOf) (c : Coord) (d : List ℕ) (nodes : List NodeOf) → GoesByNumbers trace → IsOnLine sets c d
    → Walk (Passes trace sets) nodes root → 2 * runs_along trace sets c d ≤ length nodes + 1
accepted-is-large trace sets c d nodes by l w =
    let t = trace_with trace d c in
    let k = kept (set_at sets c) in
    let r = at-least t k (λ path. Spans sets c path (at_path k path)) (Passes trace sets) (grows trace sets c t (line-of trace sets c d by l)) nodes root (root-spans sets c d l, tt) w in
    let s = spread-runs t (set_at sets c) in
    omega (arith, r, s)
