-- Changes whose boxes are as few as can be, where at most one coordinate of the whole box has several values.
use Rattle.std.proofs.Common.{◌≡◌, ◌≢◌, ℕ, ◌+◌, ◌≤◌, ◌⊎◌, inl, inr, arith, List, [], ◌∷◌, length, get_or, Option, Some, None, refl, sym, subst, ◌∙◌}
use Rattle.std.specs.List.{All, AllPairs}
use Rattle.std.proofs.lemmas.Bool.{cases_lt}
use Rattle.std.proofs.lemmas.List.Elements.{All-cons}
use Rattle.std.proofs.lemmas.List.Sums.{sum_by-append}
use Rattle.cert_maker.specs.cert_checker.config_record.declared.coord.Coord.{Coord}
use Rattle.cert_maker.specs.box_answers.NumberSet.{SetOf, RangeOf, NumbersOf, LocalesOf, IsProper}
use Rattle.cert_maker.specs.box_answers.Members.{set_at, IsMember, SomeMember, IsBox}
use Rattle.cert_maker.proofs.OneMember.{has-member}
use Rattle.config_box.specs.Devices.{HasNone, HasOnce}
use Rattle.config_box.specs.Counts.{counted, box_count}
use Rattle.config_box.specs.Kinds.{IsOfKinds}
use Rattle.config_box.specs.Least.{IsRange, IsChoice, IsLeast}
use Rattle.cert_maker.specs.config_box.Joined.{CannotJoin}
use Rattle.config_box.proofs.CountSteps.{once-count, count-none, count-once}
use Rattle.config_box.proofs.LineSteps.{IsLine, IsPart, by-ranges, by-choices}
use Rattle.config_box.proofs.FewestSteps.{SayOne, some-box, fewest-choices, fewest-ranges}
use Rattle.config_box.proofs.PairSteps.{all-flat, pairs-flat}
use Rattle.stack_diff.specs.Difference.{DifferenceOf}
use Rattle.stack_diff.specs.Changes.{ChangeOf, IsSo, IsReal, AreChanges, boxes_in}
use Rattle.stack_diff.specs.Fewest.{TellOther, AreShort}

module _ (differs : List ℕ → Option DifferenceOf) (sets : List SetOf) where
  abbrev Real : ChangeOf → Type 0
  Real = IsReal differs sets

  -- ---- the boxes of all changes

  -- what a box tells: a difference, of some devices of the whole box
  record TellsOne (part : List SetOf) : Type 0 where
    pub difference : DifferenceOf
    pub some : SomeMember part
    pub so : (d : List ℕ) → IsMember part d → IsSo differs sets difference d

  tell-one : (changes : List ChangeOf) → All Real changes → All TellsOne (boxes_in changes)
  tell-one changes real =
      all-flat TellsOne (λ change. change.boxes) changes
      (λ k c q i d p. record { difference = (get_or changes k c).difference; some = (real k c q).devices i d p; so = (real k c q).so i d p })

  say-one : (part : List SetOf) → TellsOne part → SayOne differs part part
  say-one part tells d e m n = (tells.so d m).so ∙ sym (tells.so e n).so

  -- ---- a device that a box has

  differs-on : (changes : List ChangeOf) (d : List ℕ) → All Real changes → 1 ≤ box_count d (boxes_in changes) → IsMember sets d × (differs d ≢ None)
  differs-on changes d real some =
      let found = some-box d (boxes_in changes) some in
      let tells = tell-one changes real found.0 [] found.1 in
      let so = tells.so d (found.2 []) in
      (so.member, λ none. let some = sym so.so ∙ none in cc)

  told-once : (changes : List ChangeOf) (d : List ℕ) → AreChanges differs sets changes → IsMember sets d × (differs d ≢ None) → box_count d (boxes_in changes) ≡ 1
  told-once changes d are told = once-count d (boxes_in changes) (are.once d told.0 told.1)

  pub at-most-once : (changes : List ChangeOf) (d : List ℕ) → AreChanges differs sets changes → box_count d (boxes_in changes) ≤ 1
  at-most-once changes d are =
      elim (cases_lt 0 (box_count d (boxes_in changes))) [
        | inl some ↦ (let one = told-once changes d are (differs-on changes d are.real (omega arith)) in omega arith)
        | inr none ↦ omega arith
      ]

  covered : (changes others : List ChangeOf) (d : List ℕ) → AreChanges differs sets changes → AreChanges differs sets others → 1 ≤ box_count d (boxes_in changes) → 1 ≤ box_count d (boxes_in others)
  covered changes others d are other some =
      let one = told-once others d other (differs-on changes d are.real some) in omega arith

  -- the boxes of one change are some of all
  pub part-count : (changes : List ChangeOf) (d : List ℕ) → All (λ change. box_count d change.boxes ≤ box_count d (boxes_in changes)) changes
  part-count [] d = λ k c q. absurd (omega arith)
  part-count (change ∷ changes) d =
      let both : box_count d (boxes_in (change ∷ changes)) ≡ box_count d change.boxes + box_count d (boxes_in changes) = sum_by-append (counted d) change.boxes (boxes_in changes) in
      let rest = part-count changes d in
      All-cons (λ c. box_count d c.boxes ≤ box_count d (boxes_in (change ∷ changes))) change changes (omega arith) (λ k c q. let one = rest k c q in omega arith)

  pub none-or-once : (d : List ℕ) (boxes : List (List SetOf)) → box_count d boxes ≤ 1 → HasNone d boxes ⊎ HasOnce d boxes
  none-or-once d boxes few =
      elim (cases_lt 0 (box_count d boxes)) [
        | inl some ↦ inr (count-once d boxes (omega arith))
        | inr none ↦ inl (count-none d boxes (omega arith))
      ]

  -- ---- parts

  are-parts : (changes : List ChangeOf) → All Real changes → All (IsOfKinds sets) (boxes_in changes) → All (IsPart sets) (boxes_in changes)
  are-parts changes real kinds k d q = record { kinds = kinds k d q; within = λ e m. ((tell-one changes real k d q).so e m).member }

  -- ---- changes whose boxes were joined

  -- of each the boxes are the least that are joined of some that have no device in common
  pub record IsJoinedOf (change : ChangeOf) : Type 0 where
    pub parts : List (List SetOf)
    pub each : All (IsPart sets) parts
    pub apart : (d : List ℕ) → HasNone d parts ⊎ HasOnce d parts
    pub least : IsLeast parts change.boxes

  one-some : {a b : DifferenceOf} → Some a ≡ Some b → a ≡ b
  one-some {a} {b} e = cc

  -- two boxes tell other differences, or cannot be joined
  boxes-apart : (Q : List SetOf → List SetOf → Type 0) (changes : List ChangeOf) → All Real changes → AllPairs TellOther changes → All (λ change. AllPairs Q change.boxes) changes
      → AllPairs (λ a b. SayOne differs a b → Q a b) (boxes_in changes)
  boxes-apart Q changes real apart within =
      pairs-flat (λ a b. SayOne differs a b → Q a b) (λ change. change.boxes) changes (λ k c q i j d lt r one. within k c q i j d lt r)
      (λ k l c lt q i d r j e s one.
      let first = real k c (omega arith) in
      let second = real l c q in
      let m = first.devices i d r in
      let n = second.devices j e s in
      let so = first.so i d r m.0 m.1 in
      let other = second.so j e s n.0 n.1 in
      let same = one m.0 n.0 m.1 n.1 in
      absurd (apart k l c lt q (one-some (sym so.so ∙ same ∙ other.so))))

  module _ (c : Coord) (base : List ℕ) (line : IsLine sets c base) (changes others : List ChangeOf) (are : AreChanges differs sets changes) (apart : AllPairs TellOther changes)
      (kinds : All (IsOfKinds sets) (boxes_in changes)) (joined : All IsJoinedOf changes) (other : AreChanges differs sets others) (other_kinds : All (IsOfKinds sets) (boxes_in others)) where
    by-range : IsRange (set_at sets c) → length (boxes_in changes) ≤ length (boxes_in others)
    by-range up =
        fewest-ranges sets c base line differs (boxes_in changes) (boxes_in others)
        (record {
          range = up;
          parts = are-parts changes are.real kinds;
          other_parts = are-parts others other.real other_kinds;
          even = λ k d q. say-one (get_or (boxes_in changes) k d) (tell-one changes are.real k d q);
          other_even = λ k d q. say-one (get_or (boxes_in others) k d) (tell-one others other.real k d q);
          once = λ d. at-most-once changes d are;
          covered = λ d some. covered others changes d other are some;
          apart = boxes-apart CannotJoin changes are.real apart (λ k d q. let j = joined k d q in j.least.ranges c (by-ranges sets c base line j.parts up j.each j.apart));
        })
        (λ d some. covered changes others d are other some)

    by-choice : IsChoice (set_at sets c) → length (boxes_in changes) ≤ length (boxes_in others)
    by-choice choice =
        fewest-choices sets c base line differs (boxes_in changes) (boxes_in others) (are-parts changes are.real kinds)
        (λ k d q. say-one (get_or (boxes_in changes) k d) (tell-one changes are.real k d q))
        (λ k d q. say-one (get_or (boxes_in others) k d) (tell-one others other.real k d q))
        (λ d some. covered changes others d are other some)
        (boxes-apart (λ a b. ⊥) changes are.real apart
        (λ k x q i j d lt r.
        let h = joined k x q in
        let one = h.least.choices c (by-choices sets c base line h.parts choice h.each h.apart) in
        absurd (omega arith)))

    by-kind : (s : SetOf) → set_at sets c ≡ s → length (boxes_in changes) ≤ length (boxes_in others)
    by-kind (RangeOf low high) e = by-range (subst IsRange (sym e) (subst IsProper e (line.is_box.each c).proper).rises)
    by-kind (NumbersOf numbers) e = by-choice (subst IsChoice (sym e) tt)
    by-kind (LocalesOf locales) e = by-choice (subst IsChoice (sym e) tt)

  pub few-boxes : (changes : List ChangeOf) → IsBox sets → AreChanges differs sets changes → AllPairs TellOther changes → All (IsOfKinds sets) (boxes_in changes) → All IsJoinedOf changes → AreShort differs sets changes
  few-boxes changes is_box are apart kinds joined = record {
    apart = apart;
    kinds = kinds;
    fewest = λ c alone others other other_kinds.
        let found = has-member sets c is_box alone in
        let line : IsLine sets c found.0 = record { is_box = is_box; count = found.1.count; member = found.1.member; others = λ k m n ne. alone k m n ne } in
        by-kind c found.0 line changes others are apart kinds joined other other_kinds (set_at sets c) refl;
  }
