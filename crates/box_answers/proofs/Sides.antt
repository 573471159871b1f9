-- Two members that answer differently, and those between them.
use Rattle.std.proofs.Common.{◌≡◌, ℕ, ◌+◌, ◌<◌, ◌≤◌, ◌≢◌, inl, inr, List, [], ◌∷◌, length, get_or, refl, sym, ap, ◌∙◌, arith, Bool, true, false}
use Rattle.std.specs.Prelude.{min, max}
use Rattle.std.proofs.lemmas.Bool.{cases_eq}
use Rattle.config_precedence.specs.config_record.declared.coord.Coord.{Coord}
use Rattle.config_precedence.specs.config_record.Coord.{all_coords, place_of}
use Rattle.config_precedence.specs.config_record.ComparedNumber.{device_number, record_number}
use Rattle.config_precedence.specs.config_record.Record.{record_bytes}
use Rattle.config_precedence.proofs.config_record.ChangedNumber.{by_coord}
use Rattle.config_precedence.specs.config_match.declared.rule.Rule.{Rule}
use Rattle.config_precedence.specs.config_match.Answer.{or_else, is_yes}
use Rattle.config_precedence.specs.config_match.Rule.{rule_answer}
use Rattle.config_precedence.specs.config_match.Reads.{reads, AgreeAt}
use Rattle.config_precedence.specs.config_match.Table.{answer_of_table}
use Rattle.config_precedence.proofs.config_match.ReadsLemmas.{depends}
use Rattle.box_answers.specs.declared.question.Question.{Question}
use Rattle.box_answers.specs.NumberSet.{SetOf, RangeOf, NumbersOf, LocalesOf, IsIn}
use Rattle.box_answers.specs.Members.{IsMember}
use Rattle.box_answers.specs.Question.{answered}
use Rattle.box_answers.specs.Sameness.{Parts, DifferByOne, AreNeighbours}
use Rattle.box_answers.specs.SearchedSet.{IsConvex}
use Rattle.box_answers.proofs.Coords.{place_of-below, next-coord}
use Rattle.box_answers.proofs.Sets.{member-changed}

-- ---- devices of the same numbers answer alike

agree-all : (cs : List Coord) (x y : Coord → ℕ) → ((c : Coord) → x c ≡ y c) → AgreeAt cs x y
agree-all [] x y h = tt
agree-all (c ∷ cs) x y h = (h c, agree-all cs x y h)

table-alike : (rules : List Rule) (a b x y : Coord → ℕ) → ((c : Coord) → x c ≡ y c) → answer_of_table rules a b x ≡ answer_of_table rules a b y
table-alike [] a b x y h = refl
table-alike (rule ∷ rules) a b x y h =
    ap (λ z. or_else z (answer_of_table rules a b x)) (depends rule a b x a b y (agree-all (reads rule) a a (λ c. refl)) (agree-all (reads rule) b b (λ c. refl)) (agree-all (reads rule) x y h))
    ∙ ap (or_else (rule_answer rule a b y)) (table-alike rules a b x y h)

pub answered-alike : (q : Question) (x y : List ℕ) → ((c : Coord) → device_number x c ≡ device_number y c) → answered q x ≡ answered q y
answered-alike q x y h = ap is_yes (table-alike q.rules.now (record_number (record_bytes q.a)) (record_number (record_bytes q.b)) (device_number x) (device_number y) h)

-- ---- one is changed into the other, coordinate by coordinate

-- a member that answers x, and has the other's numbers at the coordinates before a place
pub record Approaches (sets : List SetOf) (asks : List ℕ → Bool) (device y : List ℕ) (place : ℕ) : Type 0 where
  pub member : IsMember sets device
  pub yes_answer : asks device ≡ true
  pub alike : (c : Coord) → place_of c < place → device_number device c ≡ device_number y c

-- at the end they are alike
pub Approaches-end : (sets : List SetOf) (q : Question) (device y : List ℕ) (place : ℕ) → Approaches sets (answered q) device y place → 25 ≤ place → answered q y ≡ false → ⊥
Approaches-end sets q device y place so_far past no_answer =
    let same = answered-alike q device y (λ c. so_far.alike c (omega (arith, place_of-below c))) in
    let e : true ≡ false = sym so_far.yes_answer ∙ same ∙ no_answer in cc

-- where the answer turns
pub turns : (sets : List SetOf) (asks : List ℕ → Bool) (device next y : List ℕ) (place : ℕ) (c : Coord) → Approaches sets asks device y place → IsMember sets y
    → device_number next c ≡ device_number y c → ((k : Coord) → k ≢ c → device_number next k ≡ device_number device k) → asks next ≡ false
    → Parts sets asks device next c
turns sets asks device next y place c so_far no_member same others answer = record {
  yes = record { member = so_far.member; answers = so_far.yes_answer };
  no = record { member = member-changed sets device next c (device_number y c) so_far.member (no_member c) same others; answers = answer };
  others = λ k ne. sym (others k ne);
}

-- ---- and brought together

pub parts-distinct : (sets : List SetOf) (q : Question) (x y : List ℕ) (c : Coord) → Parts sets (answered q) x y c → device_number x c ≡ device_number y c → ⊥
parts-distinct sets q x y c parts same =
    let alike = answered-alike q x y (λ k. by_coord k c (λ e. ap (device_number x) e ∙ same ∙ ap (device_number y) (sym e)) (λ ne. parts.others k ne)) in
    let e : true ≡ false = sym parts.yes.answers ∙ alike ∙ parts.no.answers in cc

pub by_one : (x y : ℕ) → x ≤ y + 1 → y ≤ x + 1 → (x ≡ y → ⊥) → DifferByOne x y
by_one x y p q ne = elim (cases_eq x (y + 1)) [
  | inl e ↦ inl e
  | inr far ↦ inr (omega arith)
]

pub parts-first : (sets : List SetOf) (asks : List ℕ → Bool) (x y e : List ℕ) (c : Coord) → Parts sets asks x y c → IsMember sets e → asks e ≡ true
    → ((k : Coord) → k ≢ c → device_number e k ≡ device_number x k) → Parts sets asks e y c
parts-first sets asks x y e c parts member answer others = record {
  yes = record { member = member; answers = answer };
  no = parts.no;
  others = λ k ne. others k ne ∙ parts.others k ne;
}

pub parts-no : (sets : List SetOf) (asks : List ℕ → Bool) (x y e : List ℕ) (c : Coord) → Parts sets asks x y c → IsMember sets e → asks e ≡ false
    → ((k : Coord) → k ≢ c → device_number e k ≡ device_number x k) → Parts sets asks x e c
parts-no sets asks x y e c parts member answer others = record {
  yes = parts.yes;
  no = record { member = member; answers = answer };
  others = λ k ne. sym (others k ne);
}

pub near-of : (set : SetOf) (x y : ℕ) → DifferByOne x y → AreNeighbours set x y
near-of (RangeOf low high) x y h = h
near-of (NumbersOf numbers) x y h = tt
near-of (LocalesOf locales) x y h = tt

-- a coordinate more
pub Approaches-next : (sets : List SetOf) (asks : List ℕ → Bool) (device next y : List ℕ) (place : ℕ) (here : Coord) (items : List Coord) (d : Coord) → Approaches sets asks device y place
    → items ≡ all_coords → here ≡ get_or items place d → place < length items → IsMember sets y → device_number next here ≡ device_number y here
    → ((k : Coord) → k ≢ here → device_number next k ≡ device_number device k) → asks next ≡ true → Approaches sets asks next y (place + 1)
Approaches-next sets asks device next y place here items d so_far all is on y_member same others answer = record {
  member = member-changed sets device next here (device_number y here) so_far.member (y_member here) same others;
  yes_answer = answer;
  alike = next-coord (λ k. device_number next k ≡ device_number y k) place here items d all is on
      (λ k q. by_coord k here
      (λ e. ap (device_number next) e ∙ same ∙ ap (device_number y) (sym e))
      (λ ne. others k ne ∙ so_far.alike k q))
      same;
}

-- ---- a number between two of a range

pub range-convex : (low high : ℕ) → IsConvex (RangeOf low high)
range-convex low high m n k is other p q = (omega (arith, is, other), omega (arith, is, other))

pub middle-in : (set : SetOf) (m n x y k : ℕ) → IsConvex set → IsIn set m → IsIn set n → x ≡ m → y ≡ n → (min x y < k) × (k < max x y) → IsIn set k
middle-in set m n x y k convex is other p q between = convex m n k is other (omega (arith, between)) (omega (arith, between))
