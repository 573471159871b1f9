-- The search along a table of rules.
use Rattle.std.proofs.Common.{◌≡◌, ◌↔◌, ℕ, ◌+◌, ◌<◌, ◌≤◌, ◌≢◌, ◌==◌, inl, inr, Bool, IsTrue, List, [], ◌∷◌, ◌++◌, length, get_or, map, refl, sym, ap, subst, ◌∙◌, arith, true, false, Option, Some, None, IfSome, IfNone}
use Rattle.std.specs.List.{flat_map}
use Rattle.std.proofs.lemmas.Bool.{and_parts, leb-true}
use Rattle.std.proofs.lemmas.Bool.Decides.{nat_tests}
use Rattle.std.proofs.lemmas.List.{get_or_default}
use Rattle.config_precedence.specs.config_record.declared.coord.Coord.{Coord}
use Rattle.config_precedence.specs.config_record.declared.coord.Coord.TheVariants as coords
use Rattle.config_precedence.specs.config_record.Coord.{place_of}
use Rattle.config_precedence.specs.config_record.ComparedNumber.{device_number}
use Rattle.config_precedence.specs.config_match.declared.answer.Answer.{Answer}
use Rattle.config_precedence.specs.config_match.declared.answer.Answer.TheVariants.{Yes, No, Pass}
use Rattle.config_precedence.specs.config_match.declared.kind.Kind.{Kind}
use Rattle.config_precedence.specs.config_match.declared.kind.Kind.TheVariants as kinds
use Rattle.config_precedence.specs.config_match.declared.kind.Numbers.{Numbers}
use Rattle.config_precedence.specs.config_match.declared.rule.Rule.{Rule}
use Rattle.config_precedence.specs.config_match.Answer.{is_pass, or_else}
use Rattle.config_precedence.specs.config_match.Kind.{kind_answer}
use Rattle.config_precedence.specs.config_match.Rule.{beside, numbers_at, rule_answer}
use Rattle.config_precedence.specs.config_match.Reads.{reads, reads_of, AgreeAt, places_read, rises_from, AreReadInOrder}
use Rattle.config_precedence.specs.config_match.Table.{answer_of_table}
use Rattle.config_precedence.proofs.config_match.ReadsLemmas.{depends}
use Rattle.box_answers.specs.NumberSet.{SetOf, RangeOf, NumbersOf, LocalesOf, IsIn, IsLeastIn}
use Rattle.box_answers.specs.SearchedSet.{IsGreatestIn}
use Rattle.box_answers.specs.Members.{set_at, IsMember, IsOfKind, IsBox}
use Rattle.box_answers.specs.TriedNumbers.{tried_numbers, can_be_tried, stands_in_place}
use Rattle.box_answers.specs.Changes.{PassesEverywhere, AgreeBelow, ChangesTo, IsNowhere, answer_at}
use Rattle.box_answers.specs.Facts.{OneFails}
use Rattle.box_answers.proofs.Covers.{IsMissedBy, missed, zero-ends}
use Rattle.box_answers.proofs.Dimensions.{dimensions-alike}

-- ---- what a rule reads stands before what the next ones read

rises-parts : (n place : ℕ) (places : List ℕ) → rises_from n (place ∷ places) ≡ true → (n ≤ place) × (rises_from (place + 1) places ≡ true)
rises-parts n place places h = let p = and_parts _ _ h in (leb-true n place p.0, p.1)

-- what is known of a rule in its place, of which the ones before read nothing at n or after
pub record InPlace (n : ℕ) (rule : Rule) (rest : List Rule) : Type 0 where
  pub next : ℕ
  pub first : n ≤ place_of rule.coord
  pub after : rises_from next (places_read rest) ≡ true
  pub past : place_of rule.coord < next
  pub agree : (x y : List ℕ) → AgreeBelow next x y → AgreeAt (reads rule) (device_number x) (device_number y)

two-agree : (c : Coord) (x y : List ℕ) → place_of c < place_of (beside c) → AgreeBelow (place_of (beside c) + 1) x y → AgreeAt (reads_of kinds.Dimensions c) (device_number x) (device_number y)
two-agree c x y lt h = (h c (omega arith), (h (beside c) (omega arith), tt))

one-agree : (c : Coord) (x y : List ℕ) → AgreeBelow (place_of c + 1) x y → AgreeAt (c ∷ []) (device_number x) (device_number y)
one-agree c x y h = (h c (omega arith), tt)

in_place-two : (n : ℕ) (rule : Rule) (rest : List Rule) → rule.kind ≡ kinds.Dimensions
    → rises_from n (place_of rule.coord ∷ place_of (beside rule.coord) ∷ places_read rest) ≡ true → InPlace n rule rest
in_place-two n rule rest is h =
    let p = rises-parts n (place_of rule.coord) (place_of (beside rule.coord) ∷ places_read rest) h in
    let q = rises-parts (place_of rule.coord + 1) (place_of (beside rule.coord)) (places_read rest) p.1 in
    record {
      next = place_of (beside rule.coord) + 1;
      first = p.0;
      after = q.1;
      past = omega (arith, q.0);
      agree = λ x y h. subst (λ (k : Kind). AgreeAt (reads_of k rule.coord) (device_number x) (device_number y)) (sym is) (two-agree rule.coord x y (omega (arith, q.0)) h);
    }

in_place-one : (n : ℕ) (rule : Rule) (rest : List Rule) → reads rule ≡ rule.coord ∷ [] → rises_from n (place_of rule.coord ∷ places_read rest) ≡ true → InPlace n rule rest
in_place-one n rule rest is h =
    let p = rises-parts n (place_of rule.coord) (places_read rest) h in
    record {
      next = place_of rule.coord + 1;
      first = p.0;
      after = p.1;
      past = omega arith;
      agree = λ x y h. subst (λ (cs : List Coord). AgreeAt cs (device_number x) (device_number y)) (sym is) (one-agree rule.coord x y h);
    }

by_kind : (n : ℕ) (rule : Rule) (rest : List Rule) (kind : Kind) → rule.kind ≡ kind → rises_from n (map place_of (reads_of kind rule.coord ++ flat_map reads rest)) ≡ true → InPlace n rule rest
by_kind n rule rest kinds.Dimensions is h = in_place-two n rule rest is h
by_kind n rule rest kind is h = in_place-one n rule rest (ap (λ (k : Kind). reads_of k rule.coord) is) h

pub in_place : (n : ℕ) (rule : Rule) (rest : List Rule) → rises_from n (places_read (rule ∷ rest)) ≡ true → InPlace n rule rest
in_place n rule rest h = by_kind n rule rest rule.kind refl h

-- a rule of a table that is read in order is so by itself
one_after : (x y : ℕ) → x ≤ y → rises_from x (y ∷ []) ≡ true
one_after x y le = grind (arith, nat_tests)

two_after : (x y z : ℕ) → x ≤ y → y + 1 ≤ z → rises_from x (y ∷ z ∷ []) ≡ true
two_after x y z le lt = grind (arith, nat_tests)

alone-of_kind : (n : ℕ) (c : Coord) (rest : List Rule) (kind : Kind) → rises_from n (map place_of (reads_of kind c ++ flat_map reads rest)) ≡ true
    → rises_from 0 (map place_of (reads_of kind c ++ [])) ≡ true
alone-of_kind n c rest kinds.Dimensions h =
    let p = rises-parts n (place_of c) (place_of (beside c) ∷ places_read rest) h in
    let q = rises-parts (place_of c + 1) (place_of (beside c)) (places_read rest) p.1 in
    two_after 0 (place_of c) (place_of (beside c)) (omega arith) q.0
alone-of_kind n c rest kind h = one_after 0 (place_of c) (omega arith)

pub alone : (n : ℕ) (rule : Rule) (rest : List Rule) → rises_from n (places_read (rule ∷ rest)) ≡ true → AreReadInOrder (rule ∷ [])
alone n rule rest h = alone-of_kind n rule.coord rest rule.kind h

-- ---- how far the search has come

-- The rules before those that are left pass at this member, and at all devices that agree with it so far; and no member
-- at which one of them says what is wanted was passed over.
pub record Reaches (sets : List SetOf) (rules : List Rule) (a b : Coord → ℕ) (want : Answer) (device : List ℕ) (left : List Rule) : Type 0 where
  pub place : ℕ
  pub in_order : rises_from place (places_read left) ≡ true
  pub member : IsMember sets device
  pub passed : (d : List ℕ) → AgreeBelow place d device → answer_of_table rules a b (device_number d) ≡ answer_of_table left a b (device_number d)
  pub missed : (d : List ℕ) → IsMember sets d → answer_of_table rules a b (device_number d) ≡ want → answer_of_table left a b (device_number d) ≡ want

pub Reaches-none : (sets : List SetOf) (rules : List Rule) (a b : Coord → ℕ) (want : Answer) (device : List ℕ) → AreReadInOrder rules → IsMember sets device
    → Reaches sets rules a b want device rules
Reaches-none sets rules a b want device in_order member = record { place = 0; in_order = in_order; member = member; passed = λ d h. refl; missed = λ d m e. e }

decided : (want rest : Answer) → is_pass want ≡ false → or_else want rest ≡ want
decided Yes rest e = refl
decided No rest e = refl
decided Pass rest e = absurd cc

pub Reaches-found : (sets : List SetOf) (rules left rest : List Rule) (rule : Rule) (a b : Coord → ℕ) (want : Answer) (device d : List ℕ)
    → Reaches sets rules a b want device left → left ≡ rule ∷ rest → ChangesTo sets rule a b device want d → is_pass want ≡ false
    → IsMember sets d × (answer_of_table rules a b (device_number d) ≡ want)
Reaches-found sets rules left rest rule a b want device d so_far split change decides =
    let place = in_place so_far.place rule rest (ap (λ (rs : List Rule). rises_from so_far.place (places_read rs)) (sym split) ∙ so_far.in_order) in
    let others : Answer = answer_of_table rest a b (device_number d) in (
      change.member,
      so_far.passed d (λ c q. change.before c (omega (arith, place.first)))
          ∙ ap (λ (rs : List Rule). answer_of_table rs a b (device_number d)) split
          ∙ ap (λ x. or_else x others) change.answer
          ∙ decided want others decides,
    )

goes_on : (x rest want : Answer) → (is_pass want ≡ false → x ≢ want) → or_else x rest ≡ want → rest ≡ want
goes_on Pass rest want other h = h
goes_on Yes rest Yes other h = absurd (other refl refl)
goes_on Yes rest No other h = absurd cc
goes_on Yes rest Pass other h = absurd cc
goes_on No rest No other h = absurd (other refl refl)
goes_on No rest Yes other h = absurd cc
goes_on No rest Pass other h = absurd cc

agree-same : (cs : List Coord) (x : Coord → ℕ) → AgreeAt cs x x
agree-same [] x = tt
agree-same (c ∷ cs) x = (refl, agree-same cs x)

same_there : (rule : Rule) (a b : Coord → ℕ) (x y : List ℕ) → AgreeAt (reads rule) (device_number x) (device_number y)
    → rule_answer rule a b (device_number x) ≡ rule_answer rule a b (device_number y)
same_there rule a b x y h = depends rule a b (device_number x) a b (device_number y) (agree-same (reads rule) a) (agree-same (reads rule) b) h

not_pass : (want : Answer) → is_pass want ≡ false → want ≢ Pass
not_pass Pass decides e = cc
not_pass Yes decides e = cc
not_pass No decides e = cc

pub Reaches-next : (sets : List SetOf) (rules left rest : List Rule) (rule : Rule) (a b : Coord → ℕ) (want : Answer) (device next : List ℕ)
    → Reaches sets rules a b want device left → left ≡ rule ∷ rest → ChangesTo sets rule a b device Pass next → (is_pass want ≡ false → IsNowhere sets rule a b want)
    → Reaches sets rules a b want next rest
Reaches-next sets rules left rest rule a b want device next so_far split change skipped =
    let place = in_place so_far.place rule rest (ap (λ (rs : List Rule). rises_from so_far.place (places_read rs)) (sym split) ∙ so_far.in_order) in
    record {
      place = place.next;
      in_order = place.after;
      member = change.member;
      passed = λ d agree.
          so_far.passed d (λ c q. agree c (omega (arith, place.first, place.past)) ∙ change.before c (omega (arith, place.first)))
          ∙ ap (λ (rs : List Rule). answer_of_table rs a b (device_number d)) split
          ∙ ap (λ (x : Answer). or_else x (answer_of_table rest a b (device_number d))) (same_there rule a b d next (place.agree d next agree) ∙ change.answer);
      missed = λ d m e. goes_on (rule_answer rule a b (device_number d)) (answer_of_table rest a b (device_number d)) want (λ decides. skipped decides d m)
          (ap (λ (rs : List Rule). answer_of_table rs a b (device_number d)) (sym split) ∙ so_far.missed d m e);
    }

pub Reaches-passing : (sets : List SetOf) (rules left rest : List Rule) (rule : Rule) (a b : Coord → ℕ) (want : Answer) (device : List ℕ)
    → Reaches sets rules a b want device left → left ≡ rule ∷ rest → PassesEverywhere rule a b → Reaches sets rules a b want device rest
Reaches-passing sets rules left rest rule a b want device so_far split passes =
    Reaches-next sets rules left rest rule a b want device device so_far split
    (record { member = so_far.member; answer = passes (device_number device); before = λ c q. refl })
    (λ decides d m e. not_pass want decides (sym e ∙ passes (device_number d)))

no_way : (x rest want : Answer) → (is_pass want ≡ false → x ≢ want) → x ≢ Pass → or_else x rest ≢ want
no_way Pass rest want other passes h = passes refl
no_way Yes rest Yes other passes h = other refl refl
no_way Yes rest No other passes h = cc
no_way Yes rest Pass other passes h = cc
no_way No rest No other passes h = other refl refl
no_way No rest Yes other passes h = cc
no_way No rest Pass other passes h = cc

pub Reaches-stops : (sets : List SetOf) (rules left rest : List Rule) (rule : Rule) (a b : Coord → ℕ) (want : Answer) (device : List ℕ)
    → Reaches sets rules a b want device left → left ≡ rule ∷ rest → IsNowhere sets rule a b Pass → (is_pass want ≡ false → IsNowhere sets rule a b want)
    → (d : List ℕ) → IsMember sets d → answer_of_table rules a b (device_number d) ≢ want
Reaches-stops sets rules left rest rule a b want device so_far split passes skipped d m e =
    no_way (rule_answer rule a b (device_number d)) (answer_of_table rest a b (device_number d)) want (λ decides. skipped decides d m) (passes d m)
    (ap (λ (rs : List Rule). answer_of_table rs a b (device_number d)) (sym split) ∙ so_far.missed d m e)

is_pass-only : (want : Answer) → is_pass want ≡ true → want ≡ Pass
is_pass-only Pass e = refl
is_pass-only Yes e = absurd cc
is_pass-only No e = absurd cc

pub Reaches-end : (sets : List SetOf) (rules left : List Rule) (a b : Coord → ℕ) (want : Answer) (device : List ℕ)
    → Reaches sets rules a b want device left → left ≡ [] → is_pass want ≡ true → IsMember sets device × (answer_of_table rules a b (device_number device) ≡ want)
Reaches-end sets rules left a b want device so_far nothing passes = (
  so_far.member,
  so_far.passed device (λ c q. refl) ∙ ap (λ (rs : List Rule). answer_of_table rs a b (device_number device)) nothing ∙ sym (is_pass-only want passes),
)

pub Reaches-nowhere : (sets : List SetOf) (rules left : List Rule) (a b : Coord → ℕ) (want : Answer) (device : List ℕ)
    → Reaches sets rules a b want device left → left ≡ [] → is_pass want ≡ false → (d : List ℕ) → IsMember sets d → answer_of_table rules a b (device_number d) ≢ want
Reaches-nowhere sets rules left a b want device so_far nothing decides d m e =
    let h : Pass ≡ want = ap (λ (rs : List Rule). answer_of_table rs a b (device_number d)) (sym nothing) ∙ so_far.missed d m e in
    let f : true ≡ false = ap is_pass h ∙ decides in cc

-- the rule whose turn it is is read in order
pub Reaches-alone : (sets : List SetOf) (rules left rest : List Rule) (rule : Rule) (a b : Coord → ℕ) (want : Answer) (device : List ℕ)
    → Reaches sets rules a b want device left → left ≡ rule ∷ rest → AreReadInOrder (rule ∷ [])
Reaches-alone sets rules left rest rule a b want device so_far split =
    alone so_far.place rule rest (ap (λ (rs : List Rule). rises_from so_far.place (places_read rs)) (sym split) ∙ so_far.in_order)

-- ---- a rule that reads one coordinate

-- one of locales meets a choice
kind-tried : (kind : Kind) (c : Coord) (set : SetOf) → stands_in_place kind c ≡ true → IsOfKind c set → can_be_tried kind set ≡ true
kind-tried kinds.LocaleRank coords.Locale (LocalesOf locales) place of = refl
kind-tried kinds.LocaleRank coords.Locale (RangeOf low high) place of = absurd of
kind-tried kinds.LocaleRank coords.Locale (NumbersOf numbers) place of = absurd of
kind-tried kinds.LocaleRank c set place of = absurd cc
kind-tried kinds.LocaleSuits coords.Locale (LocalesOf locales) place of = refl
kind-tried kinds.LocaleSuits coords.Locale (RangeOf low high) place of = absurd of
kind-tried kinds.LocaleSuits coords.Locale (NumbersOf numbers) place of = absurd of
kind-tried kinds.LocaleSuits c set place of = absurd cc
kind-tried kind c set place of = refl

pub tried-there : (sets : List SetOf) (rule : Rule) (set : SetOf) → IsBox sets → stands_in_place rule.kind rule.coord ≡ true → set ≡ set_at sets rule.coord → can_be_tried rule.kind set ≡ true
tried-there sets rule set box place at =
    kind-tried rule.kind rule.coord set place (subst (λ (s : SetOf). IsOfKind rule.coord s) (sym at) (box.each rule.coord).kind)

not_dimensions : (rule : Rule) → reads rule ≡ rule.coord ∷ [] → rule.kind ≢ kinds.Dimensions
not_dimensions rule one is =
    let e : reads_of kinds.Dimensions rule.coord ≡ rule.coord ∷ [] = ap (λ (k : Kind). reads_of k rule.coord) (sym is) ∙ one in
    let f : rule.coord ∷ beside rule.coord ∷ [] ≡ rule.coord ∷ [] = e in
    cc

kind-one : (kind : Kind) (a b d : Numbers) → kind ≢ kinds.Dimensions → kind_answer kind a b d ≡ kind_answer kind a b (record { first = d.first; second = 0 })
unfolding kind_answer
kind-one kinds.Dimensions a b d other = absurd (other refl)
kind-one kind a b d other = refl

pub one_answer : (rule : Rule) (a b d : Coord → ℕ) → reads rule ≡ rule.coord ∷ [] → rule_answer rule a b d ≡ answer_at rule a b (d rule.coord) 0
unfolding rule_answer
one_answer rule a b d one = kind-one rule.kind (numbers_at rule.coord a) (numbers_at rule.coord b) (numbers_at rule.coord d) (not_dimensions rule one)

pub one-none : (sets : List SetOf) (rule : Rule) (a b : Coord → ℕ) (set : SetOf) (x y : ℕ) (want : Answer) → reads rule ≡ rule.coord ∷ [] → can_be_tried rule.kind (set_at sets rule.coord) ≡ true → set ≡ set_at sets rule.coord → x ≡ a rule.coord → y ≡ b rule.coord
    → IsMissedBy (λ n. answer_at rule a b n 0) (tried_numbers set x y) want → IsNowhere sets rule a b want
one-none sets rule a b set x y want one tried at first second none d m e =
    missed rule.kind (numbers_at rule.coord a) (numbers_at rule.coord b) 0 (set_at sets rule.coord) want (not_dimensions rule one) tried
    (subst (λ (cs : List ℕ). IsMissedBy (λ n. answer_at rule a b n 0) cs want) (ap (λ (s : SetOf). tried_numbers s x y) at ∙ ap (λ (n : ℕ). tried_numbers (set_at sets rule.coord) n y) first ∙ ap (tried_numbers (set_at sets rule.coord) (a rule.coord)) second) none)
    (device_number d rule.coord) (m rule.coord)
    (sym (one_answer rule a b (device_number d) one) ∙ e)

-- ---- one that reads two

record IsOfTwo (rule : Rule) (second : Coord) : Type 0 where
  kind : rule.kind ≡ kinds.Dimensions
  beside_it : beside rule.coord ≡ second

of_two-kind : (kind : Kind) (c second : Coord) → reads_of kind c ≡ c ∷ second ∷ [] → (kind ≡ kinds.Dimensions) × (beside c ≡ second)
of_two-kind kinds.Dimensions c second e = (refl, cc)
of_two-kind kind c second e = absurd cc

of_two : (rule : Rule) (second : Coord) → reads rule ≡ rule.coord ∷ second ∷ [] → IsOfTwo rule second
of_two rule second two = let p = of_two-kind rule.kind rule.coord second two in record { kind = p.0; beside_it = p.1 }

pub two_answer : (rule : Rule) (second : Coord) (a b d : Coord → ℕ) → reads rule ≡ rule.coord ∷ second ∷ [] → rule_answer rule a b d ≡ answer_at rule a b (d rule.coord) (d second)
unfolding rule_answer
two_answer rule second a b d two = ap (λ (c : Coord). answer_at rule a b (d rule.coord) (d c)) (of_two rule second two).beside_it

by_dimensions : (A B : Numbers) (v w x y : ℕ) → (v == 0) ≡ (x == 0) → (w == 0) ≡ (y == 0)
    → kind_answer kinds.Dimensions A B (record { first = v; second = w }) ≡ kind_answer kinds.Dimensions A B (record { first = x; second = y })
unfolding kind_answer
by_dimensions A B v w x y p q = dimensions-alike A B (record { first = v; second = w }) (record { first = x; second = y }) p q

two_alike : (rule : Rule) (second : Coord) (a b : Coord → ℕ) (v w x y : ℕ) → reads rule ≡ rule.coord ∷ second ∷ [] → (v == 0) ≡ (x == 0) → (w == 0) ≡ (y == 0)
    → answer_at rule a b v w ≡ answer_at rule a b x y
two_alike rule second a b v w x y two p q =
    let is = (of_two rule second two).kind in
    let A : Numbers = numbers_at rule.coord a in
    let B : Numbers = numbers_at rule.coord b in
    ap (λ (k : Kind). kind_answer k A B (record { first = v; second = w })) is
    ∙ by_dimensions A B v w x y p q
    ∙ sym (ap (λ (k : Kind). kind_answer k A B (record { first = x; second = y })) is)

-- the second coordinate stands after the rule's
pub second-after : (rule : Rule) (second : Coord) → reads rule ≡ rule.coord ∷ second ∷ [] → AreReadInOrder (rule ∷ []) → place_of rule.coord < place_of second
second-after rule second two h =
    let g : rises_from 0 (place_of rule.coord ∷ place_of second ∷ []) ≡ true = ap (λ (cs : List Coord). rises_from 0 (map place_of (cs ++ []))) (sym two) ∙ h in
    let p = rises-parts 0 (place_of rule.coord) (place_of second ∷ []) g in
    let q = rises-parts (place_of rule.coord + 1) (place_of second) [] p.1 in
    omega (arith, q.0)

pub second-none : (sets : List SetOf) (rule : Rule) (second : Coord) (a b : Coord → ℕ) (want : Answer) (v low high : ℕ) → reads rule ≡ rule.coord ∷ second ∷ []
    → IsLeastIn (set_at sets second) low → IsGreatestIn (set_at sets second) high
    → answer_at rule a b v low ≢ want → answer_at rule a b v high ≢ want
    → (n : ℕ) → IsIn (set_at sets second) n → answer_at rule a b v n ≢ want
second-none sets rule second a b want v low high two least greatest at_low at_high n is e =
    elim (zero-ends low high n (least.below n is) (greatest.above n is)) [
      | inl same ↦ at_low (sym (two_alike rule second a b v n v low two refl same) ∙ e)
      | inr same ↦ at_high (sym (two_alike rule second a b v n v high two refl same) ∙ e)
    ]

pub both-none : (sets : List SetOf) (rule : Rule) (second : Coord) (a b : Coord → ℕ) (want : Answer) (low high : ℕ) → reads rule ≡ rule.coord ∷ second ∷ []
    → IsLeastIn (set_at sets rule.coord) low → IsGreatestIn (set_at sets rule.coord) high
    → ((n : ℕ) → IsIn (set_at sets second) n → answer_at rule a b low n ≢ want) → ((n : ℕ) → IsIn (set_at sets second) n → answer_at rule a b high n ≢ want)
    → IsNowhere sets rule a b want
both-none sets rule second a b want low high two least greatest at_low at_high d m e =
    let v = device_number d rule.coord in
    let w = device_number d second in
    let here : answer_at rule a b v w ≡ want = sym (two_answer rule second a b (device_number d) two) ∙ e in
    elim (zero-ends low high v (least.below v (m rule.coord)) (greatest.above v (m rule.coord))) [
      | inl same ↦ at_low w (m second) (sym (two_alike rule second a b v w low w two same refl) ∙ here)
      | inr same ↦ at_high w (m second) (sym (two_alike rule second a b v w high w two same refl) ∙ here)
    ]

-- ---- what was found, or not

-- what a test says that failed is not so
pub not_so : {P : Type 0} (passed : Bool) → (IsTrue passed ↔ P) → passed ≡ false → P → ⊥
not_so passed tells failed is = let same = tells.1 is in cc

pub some_by : {T : Type 0} {P Q : T → Type 0} (r : Option T) → IfSome r P → ((x : T) → P x → Q x) → IfSome r Q
some_by None p f = tt
some_by (Some x) p f = f x p

pub none_so : {T P : Type 0} (r : Option T) → P → IfNone r P
none_so None p = p
none_so (Some x) p = tt

pub none_by : {T P Q : Type 0} (r : Option T) → IfNone r P → (P → Q) → IfNone r Q
none_by None p f = f p
none_by (Some x) p f = tt

-- a rule of the table that passes nowhere
pub one-fails : (sets : List SetOf) (rules : List Rule) (a b : Coord → ℕ) (place : ℕ) (d : Rule) → place < length rules → IsNowhere sets (get_or rules place d) a b Pass → OneFails sets rules a b
one-fails sets rules a b place d on none = (get_or rules place d, (place, on, get_or_default rules place (get_or rules place d) d on), none)
