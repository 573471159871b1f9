-- One pass over the conditions of a record.
use Rattle.std.proofs.Common.{◌≡◌, ℕ, ◌<◌, ◌≢◌, List, [], ◌∷◌, length, get_or, refl, sym, ap, subst, ◌∙◌, arith, true, false, Option, Some, None, IfSome, IfNone, zero, suc}
use Rattle.std.specs.List.{list_all}
use Rattle.std.proofs.lemmas.Bool.{and_parts}
use Rattle.config_precedence.specs.config_record.declared.coord.Coord.{Coord}
use Rattle.config_precedence.specs.config_record.Coord.{place_of}
use Rattle.config_precedence.specs.config_record.ComparedNumber.{device_number}
use Rattle.config_precedence.specs.config_record.DeviceSeen.{device_numbers}
use Rattle.config_precedence.specs.config_match.declared.answer.Answer.{Answer}
use Rattle.config_precedence.specs.config_match.declared.answer.Answer.TheVariants.{Yes, No, Pass}
use Rattle.config_precedence.specs.config_match.declared.kind.Kind.{Kind}
use Rattle.config_precedence.specs.config_match.declared.kind.Kind.TheVariants as kinds
use Rattle.config_precedence.specs.config_match.declared.kind.Numbers.{Numbers}
use Rattle.config_precedence.specs.config_match.declared.rule.Rule.{Rule}
use Rattle.config_precedence.specs.config_match.Answer.{is_pass, or_else}
use Rattle.config_precedence.specs.config_match.Rule.{numbers_at, rule_answer}
use Rattle.config_precedence.specs.config_match.Reads.{reads_of, places_read, rises_from, AreReadInOrder}
use Rattle.config_precedence.specs.config_match.Table.{answer_of_table}
use Rattle.box_answers.specs.declared.matching.Parted.{Parted}
use Rattle.box_answers.specs.NumberSet.{SetOf, IsIn}
use Rattle.box_answers.specs.Members.{set_at, IsMember}
use Rattle.box_answers.specs.TriedNumbers.{tried_numbers, can_be_tried, stands_in_place}
use Rattle.box_answers.specs.Changes.{AgreeBelow, IsNowhere, PassesEverywhere, answer_at}
use Rattle.box_answers.specs.MemberAnswers.{AllAnswer}
use Rattle.box_answers.specs.Sameness.{AreNeighbours, Separates}
use Rattle.box_answers.specs.Condition.{PartsNumbers, reads_one, all_pass, IsChangedAt}
use Rattle.box_answers.proofs.Covers.{says, missed}
use Rattle.box_answers.proofs.Everywhere.{kind-nothing}
use Rattle.box_answers.proofs.Sets.{member-changed}
use Rattle.box_answers.proofs.SearchSteps.{InPlace, in_place, one_answer}

-- ---- one condition

only_pass : (x : Answer) → is_pass x ≡ true → x ≡ Pass
only_pass Pass e = refl
only_pass Yes e = absurd cc
only_pass No e = absurd cc

pass_left : (x : Answer) → x ≢ Yes → x ≢ No → is_pass x ≡ true
pass_left Pass not_yes not_no = refl
pass_left Yes not_yes not_no = absurd (not_yes refl)
pass_left No not_yes not_no = absurd (not_no refl)

no_pass : (x : Answer) → x ≢ Pass → is_pass x ≡ false
no_pass Pass other = absurd (other refl)
no_pass Yes other = refl
no_pass No other = refl

-- what all numbers that are tried answer, all numbers of the set answer
pub all-suit : (kind : Kind) (x : Numbers) (set : SetOf) → kind ≢ kinds.Dimensions → can_be_tried kind set ≡ true
    → ((k : ℕ) → k < length (tried_numbers set x.first x.first) → is_pass (says kind x x 0 (get_or (tried_numbers set x.first x.first) k 0)) ≡ true)
    → (n : ℕ) → IsIn set n → is_pass (says kind x x 0 n) ≡ true
all-suit kind x set one can tried n is =
    pass_left (says kind x x 0 n)
    (missed kind x x 0 set Yes one can (λ k q e. let f : is_pass Yes ≡ true = ap is_pass (sym e) ∙ tried k q in cc) n is)
    (missed kind x x 0 set No one can (λ k q e. let f : is_pass No ≡ true = ap is_pass (sym e) ∙ tried k q in cc) n is)

pub none-suits : (kind : Kind) (x : Numbers) (set : SetOf) → kind ≢ kinds.Dimensions → can_be_tried kind set ≡ true
    → ((k : ℕ) → k < length (tried_numbers set x.first x.first) → is_pass (says kind x x 0 (get_or (tried_numbers set x.first x.first) k 0)) ≡ false)
    → (n : ℕ) → IsIn set n → is_pass (says kind x x 0 n) ≡ false
none-suits kind x set one can tried n is =
    no_pass (says kind x x 0 n) (missed kind x x 0 set Pass one can (λ k q e. let f : is_pass Pass ≡ false = ap is_pass (sym e) ∙ tried k q in cc) n is)

-- ---- a rule in its place

of_one : (kind : Kind) (c : Coord) → reads_one kind ≡ true → reads_of kind c ≡ c ∷ []
of_one kinds.Dimensions c e = absurd cc
of_one kind c e = refl

pub not_dimensions : (kind : Kind) → reads_one kind ≡ true → kind ≢ kinds.Dimensions
not_dimensions kind e is = let f : reads_one kinds.Dimensions ≡ true = ap reads_one (sym is) ∙ e in cc

-- each of the rules reads its own coordinate alone
pub one-there : (rules : List Rule) (i : ℕ) (d : Rule) → list_all (λ rule. reads_one rule.kind) rules ≡ true → i < length rules → reads_one (get_or rules i d).kind ≡ true
one-there [] i d all on = absurd (omega arith)
one-there (rule ∷ rules) zero d all on = (and_parts _ _ all).0
one-there (rule ∷ rules) (suc i) d all on = one-there rules i d (and_parts (reads_one rule.kind) (list_all (λ r. reads_one r.kind) rules) all).1 (omega arith)

-- each of the rules stands in its place
pub place-there : (rules : List Rule) (i : ℕ) (d : Rule) → list_all (λ rule. stands_in_place rule.kind rule.coord) rules ≡ true → i < length rules
    → stands_in_place (get_or rules i d).kind (get_or rules i d).coord ≡ true
place-there [] i d all on = absurd (omega arith)
place-there (rule ∷ rules) zero d all on = (and_parts _ _ all).0
place-there (rule ∷ rules) (suc i) d all on = place-there rules i d (and_parts (stands_in_place rule.kind rule.coord) (list_all (λ r. stands_in_place r.kind r.coord) rules) all).1 (omega arith)

-- what it says depends on the number at its coordinate
pub says_there : (rule : Rule) (r d : Coord → ℕ) (n : ℕ) → reads_one rule.kind ≡ true → d rule.coord ≡ n → rule_answer rule r r d ≡ answer_at rule r r n 0
says_there rule r d n one at = one_answer rule r r d (of_one rule.kind rule.coord one) ∙ ap (λ (m : ℕ). answer_at rule r r m 0) at

-- what is told of the numbers of its set is so of the members
pub always-there : (sets : List SetOf) (rule : Rule) (r : Coord → ℕ) (x : Numbers) (set : SetOf) → reads_one rule.kind ≡ true → x ≡ numbers_at rule.coord r → set ≡ set_at sets rule.coord
    → ((n : ℕ) → IsIn set n → is_pass (says rule.kind x x 0 n) ≡ true) → (d : List ℕ) → IsMember sets d → rule_answer rule r r (device_number d) ≡ Pass
always-there sets rule r x set one is at all d m =
    only_pass (rule_answer rule r r (device_number d))
    (ap is_pass (says_there rule r (device_number d) (device_number d rule.coord) one refl)
    ∙ ap (λ (y : Numbers). is_pass (says rule.kind y y 0 (device_number d rule.coord))) (sym is)
    ∙ all (device_number d rule.coord) (subst (λ (s : SetOf). IsIn s (device_number d rule.coord)) (sym at) (m rule.coord)))

pub never-there : (sets : List SetOf) (rule : Rule) (r : Coord → ℕ) (x : Numbers) (set : SetOf) → reads_one rule.kind ≡ true → x ≡ numbers_at rule.coord r → set ≡ set_at sets rule.coord
    → ((n : ℕ) → IsIn set n → is_pass (says rule.kind x x 0 n) ≡ false) → (d : List ℕ) → IsMember sets d → is_pass (rule_answer rule r r (device_number d)) ≡ false
never-there sets rule r x set one is at none d m =
    ap is_pass (says_there rule r (device_number d) (device_number d rule.coord) one refl)
    ∙ ap (λ (y : Numbers). is_pass (says rule.kind y y 0 (device_number d rule.coord))) (sym is)
    ∙ none (device_number d rule.coord) (subst (λ (s : SetOf). IsIn s (device_number d rule.coord)) (sym at) (m rule.coord))

pub parts-there : (sets : List SetOf) (rule : Rule) (r : Coord → ℕ) (x : Numbers) (set : SetOf) (v w : ℕ) → x ≡ numbers_at rule.coord r → set ≡ set_at sets rule.coord
    → PartsNumbers set (λ n. is_pass (says rule.kind x x 0 n)) v w → PartsNumbers (set_at sets rule.coord) (λ n. is_pass (answer_at rule r r n 0)) v w
parts-there sets rule r x set v w is at parts =
    subst (λ (y : Numbers). PartsNumbers (set_at sets rule.coord) (λ n. is_pass (says rule.kind y y 0 n)) v w) is
    (subst (λ (s : SetOf). PartsNumbers s (λ n. is_pass (says rule.kind x x 0 n)) v w) at parts)

-- a record that says nothing passes
pub nothing-passes : (rule : Rule) (r : Coord → ℕ) → r rule.coord ≡ 0 → PassesEverywhere rule r r
unfolding rule_answer
nothing-passes rule r e d = kind-nothing rule.kind (numbers_at rule.coord r) (numbers_at rule.coord d) e

-- ---- how far the pass has come

-- A member at which all rules before those that are left pass, as they do at each member that agrees with it so far. With
-- another number at one coordinate one of them fails.
pub record IsPartedBy (sets : List SetOf) (rules : List Rule) (r : Coord → ℕ) (left : List Rule) (place : ℕ) (p : Parted) : Type 0 where
  pub member : IsMember sets (device_numbers p.matching)
  pub passed : (d : List ℕ) → IsMember sets d → AgreeBelow place d (device_numbers p.matching) → answer_of_table rules r r (device_number d) ≡ answer_of_table left r r (device_number d)
  pub before : place_of p.coord < place
  pub failing : IsIn (set_at sets p.coord) p.failing
  pub fails : (d : List ℕ) → IsMember sets d → device_number d p.coord ≡ p.failing → all_pass rules r d ≡ false
  pub near : AreNeighbours (set_at sets p.coord) (device_number (device_numbers p.matching) p.coord) p.failing

-- or they pass at all members
abbrev pub IsSoFar : List SetOf → List Rule → (Coord → ℕ) → List Rule → ℕ → Option Parted → Type 0
IsSoFar sets rules r left place None = (d : List ℕ) → IsMember sets d → answer_of_table rules r r (device_number d) ≡ answer_of_table left r r (device_number d)
IsSoFar sets rules r left place (Some p) = IsPartedBy sets rules r left place p

pub record HasPassed (sets : List SetOf) (rules : List Rule) (r : Coord → ℕ) (parted : Option Parted) (left : List Rule) : Type 0 where
  pub place : ℕ
  pub in_order : rises_from place (places_read left) ≡ true
  pub so_far : IsSoFar sets rules r left place parted

pub HasPassed-none : (sets : List SetOf) (rules : List Rule) (r : Coord → ℕ) → AreReadInOrder rules → HasPassed sets rules r None rules
HasPassed-none sets rules r in_order = record { place = 0; in_order = in_order; so_far = λ d m. refl }

-- one rule passes: the next ones decide
passes_on : (rules left rest : List Rule) (rule : Rule) (r d : Coord → ℕ) → left ≡ rule ∷ rest → answer_of_table rules r r d ≡ answer_of_table left r r d → rule_answer rule r r d ≡ Pass
    → answer_of_table rules r r d ≡ answer_of_table rest r r d
passes_on rules left rest rule r d split so_far pass =
    so_far ∙ ap (λ (rs : List Rule). answer_of_table rs r r d) split ∙ ap (λ (x : Answer). or_else x (answer_of_table rest r r d)) pass

or_else-fails : (x next : Answer) → is_pass x ≡ false → is_pass (or_else x next) ≡ false
or_else-fails Pass next e = absurd cc
or_else-fails Yes next e = refl
or_else-fails No next e = refl

fails_on : (rules left rest : List Rule) (rule : Rule) (r d : Coord → ℕ) → left ≡ rule ∷ rest → answer_of_table rules r r d ≡ answer_of_table left r r d → is_pass (rule_answer rule r r d) ≡ false
    → is_pass (answer_of_table rules r r d) ≡ false
fails_on rules left rest rule r d split so_far fails =
    ap is_pass (so_far ∙ ap (λ (rs : List Rule). answer_of_table rs r r d) split) ∙ or_else-fails (rule_answer rule r r d) (answer_of_table rest r r d) fails

here : (rules left rest : List Rule) (rule : Rule) (n : ℕ) → rises_from n (places_read left) ≡ true → left ≡ rule ∷ rest → InPlace n rule rest
here rules left rest rule n in_order split = in_place n rule rest (ap (λ (rs : List Rule). rises_from n (places_read rs)) (sym split) ∙ in_order)

-- a rule that passes at all members
pub HasPassed-pass : (sets : List SetOf) (rules left rest : List Rule) (rule : Rule) (r : Coord → ℕ) (parted : Option Parted) → HasPassed sets rules r parted left → left ≡ rule ∷ rest
    → ((d : List ℕ) → IsMember sets d → rule_answer rule r r (device_number d) ≡ Pass) → HasPassed sets rules r parted rest
HasPassed-pass sets rules left rest rule r None h split pass =
    let at = here rules left rest rule h.place h.in_order split in
    record { place = at.next; in_order = at.after; so_far = λ d m. passes_on rules left rest rule r (device_number d) split (h.so_far d m) (pass d m) }
HasPassed-pass sets rules left rest rule r (Some p) h split pass =
    let at = here rules left rest rule h.place h.in_order split in
    record {
      place = at.next;
      in_order = at.after;
      so_far = record {
        member = h.so_far.member;
        passed = λ d m agree. passes_on rules left rest rule r (device_number d) split (h.so_far.passed d m (λ c q. agree c (omega (arith, at.first, at.past)))) (pass d m);
        before = omega (arith, h.so_far.before, at.first, at.past);
        failing = h.so_far.failing;
        fails = h.so_far.fails;
        near = h.so_far.near;
      };
    }

before-other : (c k : Coord) → place_of k < place_of c → k ≢ c
before-other c k q e = let same = ap place_of e in omega arith

-- one that parts them
pub HasPassed-parts : (sets : List SetOf) (rules left rest : List Rule) (rule : Rule) (r : Coord → ℕ) (parted : Option Parted) (p : Parted) (x y : ℕ)
    → HasPassed sets rules r parted left → left ≡ rule ∷ rest → reads_one rule.kind ≡ true
    → PartsNumbers (set_at sets rule.coord) (λ n. is_pass (answer_at rule r r n 0)) x y → AreNeighbours (set_at sets rule.coord) x y
    → IfNone parted (IsMember sets (device_numbers p.matching) × (device_number (device_numbers p.matching) rule.coord ≡ x) × (p.coord ≡ rule.coord) × (p.failing ≡ y))
    → IfSome parted (λ before. IsChangedAt (device_numbers before.matching) (device_numbers p.matching) rule.coord x × (p.coord ≡ before.coord) × (p.failing ≡ before.failing))
    → HasPassed sets rules r (Some p) rest
HasPassed-parts sets rules left rest rule r None p x y h split one parts near (member, at_x, same_coord, same_failing) further =
    let at = here rules left rest rule h.place h.in_order split in
    record {
      place = at.next;
      in_order = at.after;
      so_far = record {
        member = member;
        passed = λ d m agree.
            passes_on rules left rest rule r (device_number d) split (h.so_far d m)
            (says_there rule r (device_number d) x one (agree rule.coord at.past ∙ at_x) ∙ only_pass (answer_at rule r r x 0) parts.x_passes);
        before = let e = ap place_of same_coord in omega (arith, at.past);
        failing = subst (λ (c : Coord). IsIn (set_at sets c) p.failing) (sym same_coord) (subst (λ (n : ℕ). IsIn (set_at sets rule.coord) n) (sym same_failing) parts.y_in);
        fails = λ d m e.
            fails_on rules left rest rule r (device_number d) split (h.so_far d m)
            (ap is_pass (says_there rule r (device_number d) y one (ap (device_number d) (sym same_coord) ∙ e ∙ same_failing)) ∙ parts.y_fails);
        near = subst (λ (c : Coord). AreNeighbours (set_at sets c) (device_number (device_numbers p.matching) c) p.failing) (sym same_coord)
            (subst (λ (n : ℕ). AreNeighbours (set_at sets rule.coord) n p.failing) (sym at_x) (subst (λ (n : ℕ). AreNeighbours (set_at sets rule.coord) x n) (sym same_failing) near));
      };
    }
HasPassed-parts sets rules left rest rule r (Some b) p x y h split one parts near first (changed, same_coord, same_failing) =
    let at = here rules left rest rule h.place h.in_order split in
    let other : b.coord ≢ rule.coord = before-other rule.coord b.coord (omega (arith, h.so_far.before, at.first)) in
    record {
      place = at.next;
      in_order = at.after;
      so_far = record {
        member = member-changed sets (device_numbers b.matching) (device_numbers p.matching) rule.coord x h.so_far.member parts.x_in changed.same changed.others;
        passed = λ d m agree.
            passes_on rules left rest rule r (device_number d) split
            (h.so_far.passed d m (λ c q. agree c (omega (arith, at.first, at.past)) ∙ changed.others c (before-other rule.coord c (omega (arith, at.first)))))
            (says_there rule r (device_number d) x one (agree rule.coord at.past ∙ changed.same) ∙ only_pass (answer_at rule r r x 0) parts.x_passes);
        before = let e = ap place_of same_coord in omega (arith, h.so_far.before, at.first, at.past);
        failing = subst (λ (c : Coord). IsIn (set_at sets c) p.failing) (sym same_coord) (subst (λ (n : ℕ). IsIn (set_at sets b.coord) n) (sym same_failing) h.so_far.failing);
        fails = λ d m e. h.so_far.fails d m (ap (device_number d) (sym same_coord) ∙ e ∙ same_failing);
        near = subst (λ (c : Coord). AreNeighbours (set_at sets c) (device_number (device_numbers p.matching) c) p.failing) (sym same_coord)
            (subst (λ (n : ℕ). AreNeighbours (set_at sets b.coord) n p.failing) (sym (changed.others b.coord other))
            (subst (λ (n : ℕ). AreNeighbours (set_at sets b.coord) (device_number (device_numbers b.matching) b.coord) n) (sym same_failing) h.so_far.near));
      };
    }

-- ---- the end

pub HasPassed-always : (sets : List SetOf) (rules left : List Rule) (r : Coord → ℕ) (parted : Option Parted) → HasPassed sets rules r parted left → parted ≡ None → left ≡ []
    → AllAnswer (IsMember sets) (all_pass rules r) true
HasPassed-always sets rules left r None h none nothing d m = ap is_pass (h.so_far d m ∙ ap (λ (rs : List Rule). answer_of_table rs r r (device_number d)) nothing)
HasPassed-always sets rules left r (Some p) h none nothing d m = absurd cc

pub HasPassed-parted : (sets : List SetOf) (rules left : List Rule) (r : Coord → ℕ) (parted : Option Parted) (p : Parted) → HasPassed sets rules r parted left → parted ≡ Some p
    → (place : ℕ) × IsPartedBy sets rules r left place p
HasPassed-parted sets rules left r None p h is = absurd cc
HasPassed-parted sets rules left r (Some q) p h is = (h.place, subst (λ (x : Parted). IsPartedBy sets rules r left h.place x) (cc) h.so_far)

pub parted-pair : (sets : List SetOf) (rules left : List Rule) (r : Coord → ℕ) (place : ℕ) (p : Parted) (other : List ℕ) → IsPartedBy sets rules r left place p → left ≡ []
    → device_number other p.coord ≡ p.failing → ((k : Coord) → k ≢ p.coord → device_number other k ≡ device_number (device_numbers p.matching) k)
    → Separates sets (all_pass rules r) (device_numbers p.matching) other p.coord
parted-pair sets rules left r place p other h nothing same others =
    let member : IsMember sets other = member-changed sets (device_numbers p.matching) other p.coord p.failing h.member h.failing same others in
    record {
      parts = record {
        yes = record {
          member = h.member;
          answers = ap is_pass (h.passed (device_numbers p.matching) h.member (λ c q. refl) ∙ ap (λ (rs : List Rule). answer_of_table rs r r (device_number (device_numbers p.matching))) nothing);
        };
        no = record { member = member; answers = h.fails other member same };
        others = λ k ne. sym (others k ne);
      };
      near = subst (λ (n : ℕ). AreNeighbours (set_at sets p.coord) (device_number (device_numbers p.matching) p.coord) n) (sym same) h.near;
    }

-- ---- a rule that passes at no member

joined-fails : (x next : Answer) → is_pass next ≡ false → is_pass (or_else x next) ≡ false
joined-fails Pass next e = e
joined-fails Yes next e = refl
joined-fails No next e = refl

pub one-decides : (rules : List Rule) (i : ℕ) (o : Rule) (r d : Coord → ℕ) → i < length rules → is_pass (rule_answer (get_or rules i o) r r d) ≡ false
    → is_pass (answer_of_table rules r r d) ≡ false
one-decides [] i o r d on fails = absurd (omega arith)
one-decides (rule ∷ rules) zero o r d on fails = or_else-fails (rule_answer rule r r d) (answer_of_table rules r r d) fails
one-decides (rule ∷ rules) (suc i) o r d on fails = joined-fails (rule_answer rule r r d) (answer_of_table rules r r d) (one-decides rules i o r d (omega arith) fails)

pub none-nowhere : (sets : List SetOf) (rule : Rule) (r : Coord → ℕ) → ((d : List ℕ) → IsMember sets d → is_pass (rule_answer rule r r (device_number d)) ≡ false) → IsNowhere sets rule r r Pass
none-nowhere sets rule r none d m e = let f : true ≡ false = ap is_pass (sym e) ∙ none d m in cc
