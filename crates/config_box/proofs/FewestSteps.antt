-- Where at most one coordinate of a box has several values: no boxes with the same devices are fewer, where no box has
-- devices on which different things are said.
use Rattle.std.proofs.Common.{◌≡◌, ◌≢◌, ℕ, suc, ◌+◌, ◌<◌, ◌≤◌, inl, inr, arith, List, [], ◌∷◌, length, get_or, refl, sym, subst, ◌∙◌}
use Rattle.std.specs.List.{All, AllPairs, sum_by}
use Rattle.std.proofs.lemmas.Bool.{cases_lt}
use Rattle.std.proofs.lemmas.List.Elements.{All-head, All-tail}
use Rattle.std.proofs.lemmas.List.Sums.{sum_by-cons}
use Rattle.config_box.specs.config_record.declared.coord.Coord.{Coord}
use Rattle.config_box.specs.box_answers.NumberSet.{SetOf, RangeOf, NumbersOf, LocalesOf, IsIn, named_numbers}
use Rattle.config_box.specs.box_answers.Members.{set_at, IsMember}
use Rattle.config_box.specs.Joined.{MakeOneSet, CannotJoin}
use Rattle.config_box.specs.Counts.{counted, box_count}
use Rattle.config_box.specs.Least.{IsRange}
use Rattle.config_box.specs.Ranges.{low_at, high_at}
use Rattle.config_box.proofs.CountSteps.{counted-member, counted-other, count-cons, by_member}
use Rattle.config_box.proofs.LineSteps.{IsLine, IsPart, at, low-is-in, member-at, in-at, alike, part-range}
use Rattle.config_box.proofs.PairSteps.{pairs-head, pairs-tail}
use Rattle.config_box.proofs.SortSteps.{count-some, count-two}

-- ---- a device of each box, and no two of them in one of the others

module _ (dev : List SetOf → List ℕ) where
  -- of a box b no two of these devices are members
  abbrev NoTwoIn : List SetOf → List SetOf → List SetOf → Type 0
  NoTwoIn b x y = IsMember b (dev x) → IsMember b (dev y) → ⊥

  none-hit : (b : List SetOf) (mine : List (List SetOf)) → All (λ x. IsMember b (dev x) → ⊥) mine → sum_by (λ x. counted (dev x) b) mine ≡ 0
  none-hit b [] h = refl
  none-hit b (x ∷ mine) h =
      let both = sum_by-cons (λ y. counted (dev y) b) x mine in
      let here = counted-other (dev x) b (All-head (λ y. IsMember b (dev y) → ⊥) x mine h) in
      let rest = none-hit b mine (All-tail (λ y. IsMember b (dev y) → ⊥) x mine h) in
      omega arith

  one-hit : (b : List SetOf) (mine : List (List SetOf)) → AllPairs (NoTwoIn b) mine → sum_by (λ x. counted (dev x) b) mine ≤ 1
  one-hit b [] h = omega arith
  one-hit b (x ∷ mine) h =
      let both = sum_by-cons (λ y. counted (dev y) b) x mine in
      by_member (dev x) b
      (λ m.
      let here = counted-member (dev x) b m in
      let none = none-hit b mine (λ k d q. pairs-head (NoTwoIn b) x mine h k d q m) in
      omega arith)
      (λ other.
      let here = counted-other (dev x) b other in
      let rest = one-hit b mine (pairs-tail (NoTwoIn b) x mine h) in
      omega arith)

  -- counted box by box of the others
  sum-swapped : (b : List SetOf) (others mine : List (List SetOf)) → sum_by (λ x. box_count (dev x) (b ∷ others)) mine ≡ sum_by (λ x. counted (dev x) b) mine + sum_by (λ x. box_count (dev x) others) mine
  sum-swapped b others [] = refl
  sum-swapped b others (x ∷ mine) =
      let whole = sum_by-cons (λ y. box_count (dev y) (b ∷ others)) x mine in
      let first = sum_by-cons (λ y. counted (dev y) b) x mine in
      let second = sum_by-cons (λ y. box_count (dev y) others) x mine in
      let here = count-cons (dev x) b others in
      let rest = sum-swapped b others mine in
      omega arith

  sum-none : (mine : List (List SetOf)) → sum_by (λ x. box_count (dev x) []) mine ≡ 0
  sum-none [] = refl
  sum-none (x ∷ mine) = let both = sum_by-cons (λ y. box_count (dev y) []) x mine in let rest = sum-none mine in omega arith

  sum-few : (mine others : List (List SetOf)) → All (λ b. AllPairs (NoTwoIn b) mine) others → sum_by (λ x. box_count (dev x) others) mine ≤ length others
  sum-few mine [] h = let none = sum-none mine in omega arith
  sum-few mine (b ∷ others) h =
      let swapped = sum-swapped b others mine in
      let one = one-hit b mine (All-head (λ o. AllPairs (NoTwoIn o) mine) b others h) in
      let rest = sum-few mine others (All-tail (λ o. AllPairs (NoTwoIn o) mine) b others h) in
      omega arith

  sum-each : (mine others : List (List SetOf)) → All (λ x. 1 ≤ box_count (dev x) others) mine → length mine ≤ sum_by (λ x. box_count (dev x) others) mine
  sum-each [] others h = omega arith
  sum-each (x ∷ mine) others h =
      let both = sum_by-cons (λ y. box_count (dev y) others) x mine in
      let here = All-head (λ y. 1 ≤ box_count (dev y) others) x mine h in
      let rest = sum-each mine others (All-tail (λ y. 1 ≤ box_count (dev y) others) x mine h) in
      omega arith

  no-fewer : (mine others : List (List SetOf)) → All (λ x. 1 ≤ box_count (dev x) others) mine → All (λ b. AllPairs (NoTwoIn b) mine) others → length mine ≤ length others
  no-fewer mine others each apart =
      let many = sum-each mine others each in
      let few = sum-few mine others apart in
      omega arith

-- ---- ranges

convex : (s : SetOf) (x y n : ℕ) → IsRange s → IsIn s x → IsIn s y → x ≤ n → n ≤ y → IsIn s n
convex (RangeOf low high) x y n up first last from to = let a = first.0 in let b = last.1 in (omega arith, omega arith)
convex (NumbersOf xs) x y n up first last from to = absurd up
convex (LocalesOf xs) x y n up first last from to = absurd up

-- a number of a range lies between its ends
ends-around : (s : SetOf) (n : ℕ) → IsRange s → IsIn s n → (get_or (named_numbers s) 0 0 ≤ n) × (n ≤ get_or (named_numbers s) 1 0)
ends-around (RangeOf low high) n up is = is
ends-around (NumbersOf xs) n up is = absurd up
ends-around (LocalesOf xs) n up is = absurd up

between : (s : SetOf) (n : ℕ) → IsRange s → get_or (named_numbers s) 0 0 ≤ n → n ≤ get_or (named_numbers s) 1 0 → IsIn s n
between (RangeOf low high) n up from to = (from, to)
between (NumbersOf xs) n up from to = absurd up
between (LocalesOf xs) n up from to = absurd up

right-behind : (s t : SetOf) → IsRange s → IsRange t → get_or (named_numbers s) 1 0 + 1 ≡ get_or (named_numbers t) 0 0 → MakeOneSet s t × MakeOneSet t s
right-behind (RangeOf low high) (RangeOf from to) up other e = (inl e, inr e)
right-behind (RangeOf low high) (NumbersOf xs) up other e = absurd other
right-behind (RangeOf low high) (LocalesOf xs) up other e = absurd other
right-behind (NumbersOf xs) t up other e = absurd up
right-behind (LocalesOf xs) t up other e = absurd up

-- ---- a box that has a device

pub some-box : (d : List ℕ) (bs : List (List SetOf)) → 1 ≤ box_count d bs → (k : ℕ) × (k < length bs) × ((x : List SetOf) → IsMember (get_or bs k x) d)
some-box d [] some = absurd (omega arith)
some-box d (b ∷ bs) some =
    by_member d b (λ m. (0, omega arith, λ x. m))
    (λ other.
    let both = count-cons d b bs in
    let here = counted-other d b other in
    let rest = some-box d bs (omega arith) in
    let low = rest.1 in
    (suc rest.0, omega arith, rest.2))

-- the same is said on all devices of two boxes
abbrev pub SayOne : {X : Type 0} → (List ℕ → X) → List SetOf → List SetOf → Type 0
SayOne says a b = (d e : List ℕ) → IsMember a d → IsMember b e → says d ≡ says e

module _ (sets : List SetOf) (c : Coord) (base : List ℕ) (line : IsLine sets c base) {X : Type 0} (says : List ℕ → X) where
  abbrev first_of_box : List SetOf → List ℕ
  first_of_box b = at sets c base line (low_at c b)

  first-in : (b : List SetOf) → IsPart sets b → IsMember b (first_of_box b)
  first-in b is = member-at sets c base line b (low_at c b) is (low-is-in (set_at b c) (is.kinds.is_box.each c).proper)

  -- ---- choices

  pub fewest-choices : (mine others : List (List SetOf)) → All (IsPart sets) mine → All (λ b. SayOne says b b) mine → All (λ b. SayOne says b b) others → ((d : List ℕ) → 1 ≤ box_count d mine → 1 ≤ box_count d others)
      → AllPairs (λ a b. SayOne says a b → ⊥) mine → length mine ≤ length others
  fewest-choices mine others parts even other_even covers apart =
      no-fewer first_of_box mine others
      (λ k x q. covers (first_of_box (get_or mine k x)) (count-some (first_of_box (get_or mine k x)) mine k x q (first-in (get_or mine k x) (parts k x q))))
      (λ m y r i j x lt q first second.
      let a : List SetOf = get_or mine i x in
      let b : List SetOf = get_or mine j x in
      apart i j x lt q
      (λ d e in_a in_b.
      even i x (omega arith) d (first_of_box a) in_a (first-in a (parts i x (omega arith))) ∙ other_even m y r (first_of_box a) (first_of_box b) first second
      ∙ even j x q (first_of_box b) e (first-in b (parts j x q)) in_b))

  -- ---- ranges

  -- what is known of the boxes, which are parts with ranges
  pub record AreKnown (mine others : List (List SetOf)) : Type 0 where
    pub range : IsRange (set_at sets c)
    pub parts : All (IsPart sets) mine
    pub other_parts : All (IsPart sets) others
    pub even : All (λ b. SayOne says b b) mine
    pub other_even : All (λ b. SayOne says b b) others
    pub once : (d : List ℕ) → box_count d mine ≤ 1
    pub covered : (d : List ℕ) → 1 ≤ box_count d others → 1 ≤ box_count d mine
    pub apart : AllPairs (λ a b. SayOne says a b → CannotJoin a b) mine

  -- two different boxes of a list have no device in common
  no-shared : (mine : List (List SetOf)) (x : List SetOf) (i j : ℕ) (d : List ℕ) → ((e : List ℕ) → box_count e mine ≤ 1) → i ≢ j → i < length mine → j < length mine
      → IsMember (get_or mine i x) d → IsMember (get_or mine j x) d → ⊥
  no-shared mine x i j d once ne p q first second =
      let one = once d in
      elim (cases_lt i j) [
        | inl lt ↦ (let two = count-two d mine i j x lt q first second in absurd (omega arith))
        | inr le ↦ (let two = count-two d mine j i x (omega arith) p second first in absurd (omega arith))
      ]

  -- where the same is said on two boxes, neither lies right behind the other
  not-behind : (mine others : List (List SetOf)) (x : List SetOf) (i j : ℕ) → AreKnown mine others → i ≢ j → i < length mine → j < length mine
      → SayOne says (get_or mine i x) (get_or mine j x) → high_at c (get_or mine i x) + 1 ≡ low_at c (get_or mine j x) → ⊥
  not-behind mine others x i j known ne p q one e =
      let a : List SetOf = get_or mine i x in
      let b : List SetOf = get_or mine j x in
      let first = known.parts i x p in
      let second = known.parts j x q in
      let make = right-behind (set_at a c) (set_at b c) (part-range sets c base line a first known.range) (part-range sets c base line b second known.range) e in
      elim (cases_lt i j) [
        | inl lt ↦ known.apart i j x lt q one c (record { here = make.0; others = alike sets c base line a b first second })
        | inr le ↦ known.apart j i x (omega arith) p (λ d f in_b in_a. sym (one f d in_a in_b)) c (record { here = make.1; others = alike sets c base line b a second first })
      ]

  -- no other box has the first devices of two boxes: it would have the device right behind one of them too
  no-bridge : (mine others : List (List SetOf)) (x y : List SetOf) (i j m : ℕ) → AreKnown mine others → i ≢ j → i < length mine → j < length mine → m < length others
      → low_at c (get_or mine i x) ≤ low_at c (get_or mine j x) → IsMember (get_or others m y) (first_of_box (get_or mine i x)) → IsMember (get_or others m y) (first_of_box (get_or mine j x)) → ⊥
  no-bridge mine others x y i j m known ne p q r le first second =
      let a : List SetOf = get_or mine i x in
      let b : List SetOf = get_or mine j x in
      let o : List SetOf = get_or others m y in
      let at_n : ℕ → List ℕ = λ n. at sets c base line n in
      let part_a = known.parts i x p in
      let part_b = known.parts j x q in
      let part_o = known.other_parts m y r in
      let range_a = part-range sets c base line a part_a known.range in
      let range_o = part-range sets c base line o part_o known.range in
      let n : ℕ = high_at c a + 1 in
      let far : high_at c a < low_at c b = elim (cases_lt (high_at c a) (low_at c b)) [
        | inl lt ↦ lt
        | inr not ↦ absurd (no-shared mine x i j (first_of_box b) known.once ne p q
            (member-at sets c base line a (low_at c b) part_a (between (set_at a c) (low_at c b) range_a le not)) (first-in b part_b))
      ] in
      let ends = ends-around (set_at a c) (low_at c a) range_a (in-at sets c base line a (low_at c a) (first-in a part_a)) in
      let up : low_at c a ≤ high_at c a = ends.1 in
      let in_o : IsMember o (at_n n) = member-at sets c base line o n part_o
      (convex (set_at o c) (low_at c a) (low_at c b) n range_o (in-at sets c base line o (low_at c a) first) (in-at sets c base line o (low_at c b) second) (omega arith) (omega arith)) in
      let found = some-box (at_n n) mine (known.covered (at_n n) (count-some (at_n n) others m y r in_o)) in
      let k : ℕ = found.0 in
      let z : List SetOf = get_or mine k x in
      let in_z : IsMember z (at_n n) = found.2 x in
      let part_z = known.parts k x found.1 in
      let range_z = part-range sets c base line z part_z known.range in
      let other : i ≢ k = λ e.
      (let in_a : IsMember a (at_n n) = subst (λ (l : ℕ). IsMember (get_or mine l x) (at_n n)) (sym e) in_z in
      let within = ends-around (set_at a c) n range_a (in-at sets c base line a n in_a) in
      let last : n ≤ high_at c a = within.1 in
      absurd (omega arith)) in
      let n_in_z = in-at sets c base line z n in_z in
      let around = ends-around (set_at z c) n range_z n_in_z in
      let from : low_at c z ≤ n = around.0 in
      let to : n ≤ high_at c z = around.1 in
      let begins : n ≤ low_at c z = elim (cases_lt (low_at c z) n) [
        | inl lt ↦ absurd (no-shared mine x i k (at_n (high_at c a)) known.once other p found.1
            (member-at sets c base line a (high_at c a) part_a (between (set_at a c) (high_at c a) range_a up (omega arith)))
            (member-at sets c base line z (high_at c a) part_z (between (set_at z c) (high_at c a) range_z (omega arith) (omega arith))))
        | inr not ↦ not
      ] in
      not-behind mine others x i k known other p found.1
      (λ d e in_a in_e.
      known.even i x p d (first_of_box a) in_a (first-in a part_a) ∙ known.other_even m y r (first_of_box a) (at_n n) first in_o
      ∙ known.even k x found.1 (at_n n) e in_z in_e)
      (omega arith)

  pub fewest-ranges : (mine others : List (List SetOf)) → AreKnown mine others → ((d : List ℕ) → 1 ≤ box_count d mine → 1 ≤ box_count d others) → length mine ≤ length others
  fewest-ranges mine others known covers =
      no-fewer first_of_box mine others
      (λ k x q. covers (first_of_box (get_or mine k x)) (count-some (first_of_box (get_or mine k x)) mine k x q (first-in (get_or mine k x) (known.parts k x q))))
      (λ m y r i j x lt q first second.
      elim (cases_lt (low_at c (get_or mine i x)) (low_at c (get_or mine j x))) [
        | inl low ↦ no-bridge mine others x y i j m known (λ e. absurd (omega arith)) (omega arith) q r (omega arith) first second
        | inr not ↦ no-bridge mine others x y j i m known (λ e. absurd (omega arith)) q (omega arith) r not second first
      ])
