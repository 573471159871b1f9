-- The test that parts members at a question is needed.
use Rattle.std.proofs.Common.{◌≡◌, ◌≢◌, ℕ, ◌+◌, ◌⊎◌, inl, inr, arith, List, length, min, Bool, true, false, sym, ◌∙◌, ap, refl, set}
use Rattle.std.proofs.lemmas.Bool.{le-leb, lt-leb}
use Rattle.cert_checker.specs.config_record.declared.coord.Coord as coord
use Rattle.cert_checker.specs.config_record.declared.coord.Coord.TheVariants as coords
use Rattle.std.proofs.lemmas.List.{get_or-map, length-map}
use Rattle.cert_checker.specs.config_record.Coord.{all_coords, place_of}
use Rattle.cert_checker.proofs.config_record.DeviceLemmas.{coordinate-at_place, place_of-within}
use Rattle.cert_checker.proofs.box_answers.Coords.{all_coords-count}
use Rattle.cert_checker.specs.config_record.ComparedNumber.{device_number}
use Rattle.cert_checker.proofs.config_record.ChangedNumber.{by_coord, number_at-set_same, number_at-set_other}
use Rattle.cert_checker.specs.box_answers.NumberSet.{SetOf, RangeOf, NumbersOf, LocalesOf, IsIn}
use Rattle.cert_checker.specs.box_answers.Members.{set_at, IsMember}
use Rattle.cert_checker.specs.box_answers.Sameness.{AreNeighbours, Separates}
use Rattle.cert_checker.specs.box_trace.Parting.{TraceTells}
use Rattle.cert_checker.specs.config_box.Tests.{TestOf, ChoiceOf, AtMostOf, AmongOf, is_listed, answers, is_range, has_wrong_kind}
use Rattle.cert_maker.specs.Needed.{AgreeBut, IsNeededTest}
use Rattle.cert_maker.specs.Listed.{numbers_of, answer_with}
use Rattle.cert_maker.proofs.ByNumbers.{AnswersByNumbers}
use Rattle.cert_maker.proofs.Steps.{test-passes}

-- What is needed to tell how members answer is needed to tell their traces, where these tell what they answer.
pub needed-by-trace : {X : Type 0} (trace : List ℕ → X) (answer : List ℕ → Bool) (sets : List SetOf) (test : TestOf) → TraceTells (IsMember sets) trace answer → IsNeededTest answer sets (IsMember sets) test
    → IsNeededTest trace sets (IsMember sets) test
needed-by-trace trace answer sets test tells s = record {
  passes = s.passes;
  x = s.x;
  y = s.y;
  yes = s.yes;
  no = s.no;
  others = s.others;
  differ = λ e. s.differ (tells s.x s.y s.yes.member s.no.member e);
  near = s.near;
  parts = λ is_choice alone u v u_is v_is e. s.parts is_choice alone u v u_is v_is (tells u v u_is.member v_is.member e);
}

answers-differ : (answer : List ℕ → Bool) (sets : List SetOf) (x y : List ℕ) (c : coord.Coord) → Separates sets answer x y c → answer x ≢ answer y
answers-differ answer sets x y c s e =
    let no : true ≡ false = sym s.parts.yes.answers ∙ e ∙ s.parts.no.answers in
    cc

turned : (c : coord.Coord) (x y : List ℕ) → AgreeBut c x y → AgreeBut c y x
turned c x y a k other = sym (a k other)

-- ---- a range

by-range : (answer : List ℕ → Bool) (sets : List SetOf) (x y : List ℕ) (c : coord.Coord) (m : ℕ) → is_range (set_at sets c) ≡ true → has_wrong_kind sets (AtMostOf c m) ≡ false → IsMember sets x → IsMember sets y
    → answer x ≢ answer y → AgreeBut c x y → device_number x c ≡ m → device_number y c ≡ m + 1 → IsNeededTest answer sets (IsMember sets) (AtMostOf c m)
by-range answer sets x y c m range right mx my differ others ex ey =
    let x_is : answers (AtMostOf c m) x ≡ true = le-leb (device_number x c) m (omega arith) in
    let y_is : answers (AtMostOf c m) y ≡ false = lt-leb (device_number y c) m (omega arith) in
    record {
      passes = test-passes sets (IsMember sets) (AtMostOf c m) x y right mx my x_is y_is;
      x = x;
      y = y;
      yes = record { member = mx; answers = x_is };
      no = record { member = my; answers = y_is };
      others = others;
      differ = differ;
      near = λ d md above below. omega arith;
      parts = λ choice. absurd (cc);
    }

near-one : (set : SetOf) (m n : ℕ) → is_range set ≡ true → AreNeighbours set m n → (m ≡ n + 1) ⊎ (n ≡ m + 1)
near-one (RangeOf low high) m n range near = near
near-one (NumbersOf numbers) m n range near = absurd (cc range)
near-one (LocalesOf numbers) m n range near = absurd (cc range)

pub cut-range : (answer : List ℕ → Bool) (sets : List SetOf) (x y : List ℕ) (c : coord.Coord) (m : ℕ) → Separates sets answer x y c → is_range (set_at sets c) ≡ true
    → has_wrong_kind sets (AtMostOf c m) ≡ false → m ≡ min (device_number x c) (device_number y c) → IsNeededTest answer sets (IsMember sets) (AtMostOf c m)
cut-range answer sets x y c m s range right e =
    let p = s.parts in
    let d = answers-differ answer sets x y c s in
    elim (near-one (set_at sets c) (device_number x c) (device_number y c) range s.near) [
      | inl above ↦ by-range answer sets y x c m range right p.no.member p.yes.member (λ q. d (sym q)) (turned c x y p.others) (omega arith) (omega arith)
      | inr below ↦ by-range answer sets x y c m range right p.yes.member p.no.member d p.others (omega arith) (omega arith)
    ]

-- ---- a choice: all its numbers with which x answers yes

pub numbers-count : (x : List ℕ) → length (numbers_of x) ≡ 25
numbers-count x = length-map all_coords (device_number x) ∙ all_coords-count

pub number-kept : (x : List ℕ) (k : coord.Coord) → device_number (numbers_of x) k ≡ device_number x k
number-kept x k = get_or-map (device_number x) all_coords (place_of k) coords.Mcc 0 (place_of-within k) ∙ ap (device_number x) (coordinate-at_place k)

-- a device that agrees with x but there answers as x does with its number
pub on-line : (answer : List ℕ → Bool) (c : coord.Coord) (x z : List ℕ) → AnswersByNumbers answer → AgreeBut c z x → answer z ≡ answer_with answer x c (device_number z c)
on-line answer c x z by others =
    by z (set (numbers_of x) (place_of c) (device_number z c))
    (λ k. by_coord k c
    (λ e. let here : device_number (set (numbers_of x) (place_of c) (device_number z c)) c ≡ device_number z c = number_at-set_same (numbers_of x) c (device_number z c) (numbers-count x) in
    ap (device_number z) e ∙ sym here ∙ ap (device_number (set (numbers_of x) (place_of c) (device_number z c))) (sym e))
    (λ other. others k other ∙ sym (number-kept x k) ∙ sym (number_at-set_other (numbers_of x) c k (device_number z c) other)))

-- the list holds those of the set with which x answers yes
abbrev pub ListsYes : (List ℕ → Bool) → List SetOf → List ℕ → coord.Coord → ChoiceOf → Type 0
ListsYes answer sets x c choice = (n : ℕ) → IsIn (set_at sets c) n → is_listed c choice n ≡ answer_with answer x c n

pub cut-choice : (answer : List ℕ → Bool) (sets : List SetOf) (x y : List ℕ) (c : coord.Coord) (choice : ChoiceOf) → AnswersByNumbers answer → Separates sets answer x y c
    → has_wrong_kind sets (AmongOf c choice) ≡ false → ListsYes answer sets x c choice → IsNeededTest answer sets (IsMember sets) (AmongOf c choice)
cut-choice answer sets x y c choice by s right lists =
    let p = s.parts in
    let of_member : (z : List ℕ) → IsMember sets z → AgreeBut c z x → answers (AmongOf c choice) z ≡ answer z =
    λ z m others. lists (device_number z c) (m c) ∙ sym (on-line answer c x z by others) in
    let x_is : answers (AmongOf c choice) x ≡ true = of_member x p.yes.member (λ k other. refl) ∙ p.yes.answers in
    let y_is : answers (AmongOf c choice) y ≡ false = of_member y p.no.member (turned c x y p.others) ∙ p.no.answers in
    record {
      passes = test-passes sets (IsMember sets) (AmongOf c choice) x y right p.yes.member p.no.member x_is y_is;
      x = x;
      y = y;
      yes = record { member = p.yes.member; answers = x_is };
      no = record { member = p.no.member; answers = y_is };
      others = p.others;
      differ = answers-differ answer sets x y c s;
      near = tt;
      parts = λ is_choice alone u v u_is v_is e.
          let u_yes : answer u ≡ true = sym (of_member u u_is.member (alone u x u_is.member p.yes.member)) ∙ u_is.answers in
          let v_no : answer v ≡ false = sym (of_member v v_is.member (alone v x v_is.member p.yes.member)) ∙ v_is.answers in
          absurd (cc);
    }
