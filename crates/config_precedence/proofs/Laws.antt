-- The laws of 'better': each rule is an order among the records that match a device, and so is the table.
use Rattle.std.proofs.Common.{◌≡◌, ℕ, zero, suc, Bool, true, false, not, ◌&&◌, List, [], ◌∷◌, take, refl, sym, ap, ◌∙◌, arith}
use Rattle.std.specs.List.{AllByRecursion, list_all}
use Rattle.std.proofs.lemmas.Bool.{and_parts, and_right}
use Rattle.std.proofs.lemmas.Bool.Decides.{nat_tests}
use Rattle.config_match.specs.config_record.declared.coord.Coord.{Coord}
use Rattle.config_match.specs.config_record.declared.coord.Coord.TheVariants as coords
use Rattle.config_match.specs.config_record.Coord.{place_of}
use Rattle.config_match.specs.config_record.ComparedNumber.{record_number, device_number}
use Rattle.config_match.specs.config_record.Record.{coordinate}
use Rattle.config_match.specs.declared.answer.Answer.{Answer}
use Rattle.config_match.specs.declared.answer.Answer.TheVariants.{Yes, No, Pass}
use Rattle.config_match.specs.declared.kind.Kind.{Kind}
use Rattle.config_match.specs.declared.kind.Kind.TheVariants as kinds
use Rattle.config_match.specs.declared.rule.Rule.{Rule}
use Rattle.config_match.specs.Answer.{is_pass, is_yes, or_else}
use Rattle.config_match.specs.Comparisons.{always_larger_answer, locale_rank, locale_answer, dimensions_answer, rest_of_both}
use Rattle.config_match.specs.Condition.{is_equal, is_at_most}
use Rattle.config_match.specs.Kind.{kind_answer}
use Rattle.config_match.specs.Locale.{is_by_language_and_region}
use Rattle.config_match.specs.Rule.{at, rule_answer, numbers_at}
use Rattle.config_match.specs.Table.{answer_of_table}
use Rattle.config_match.specs.Conditions.{all_conditions}
use Rattle.config_precedence.specs.Laws.{AtMostOneIsBetter, IsTransitiveFrom, densities_tie}
use Rattle.config_precedence.specs.Precedence.{is_better}
use Rattle.config_precedence.specs.Rules.{all_rules}
use Rattle.config_precedence.proofs.Composition.{Opposes, Composes, opposes, yes_alone, composes}
use Rattle.config_precedence.proofs.Densities.{density-composes, density-opposes, tie}
use Rattle.config_precedence.proofs.DensityTie.{earlier_rules, answer-parted, deciding-tie}
use Rattle.config_precedence.proofs.Dimensions.{smaller-composes, smaller-opposes}
use Rattle.config_precedence.proofs.Matched.{Suits, kind_at, match_suits, equal_suits, at_most_suits, keys_suits}
use Rattle.config_precedence.proofs.Orders.{larger-opposes, larger-composes, given_rank, given-ranked, navigation-ranked, larger-ranked, keys_rank, keys-ranked, size_rank, size-ranked}

-- ---- each rule

abbrev is_density : Kind → Bool
is_density kinds.Density = true
is_density k = false

-- a rule is an order among the records that suit the device; that of density is one of two records that do not tie
record IsOrder (d : Coord → ℕ) (rule : Rule) : Type 0 where
  two : (a b : Coord → ℕ) → Suits a d → Suits b d → (is_density rule.kind && tie (a coords.Density) (b coords.Density)) ≡ false
      → Opposes (rule_answer rule a b d) (rule_answer rule b a d)
  three : (a b c : Coord → ℕ) → Suits a d → Suits b d → Suits c d
      → Composes (rule_answer rule a b d) (rule_answer rule b a d) (rule_answer rule b c d) (rule_answer rule c b d) (rule_answer rule a c d) (rule_answer rule c a d)

two_ranked : (x x' : Answer) (p q : ℕ) → x ≡ always_larger_answer p q → x' ≡ always_larger_answer q p → Opposes x x'
two_ranked x x' p q e f = rw (e, f) (larger-opposes p q)

three_ranked : (x x' y y' z z' : Answer) (p q r : ℕ)
    → x ≡ always_larger_answer p q → x' ≡ always_larger_answer q p
    → y ≡ always_larger_answer q r → y' ≡ always_larger_answer r q
    → z ≡ always_larger_answer p r → z' ≡ always_larger_answer r p
    → Composes x x' y y' z z'
three_ranked x x' y y' z z' p q r e e' f f' g g' = rw (e, e', f, f', g, g') (larger-composes p q r)

-- a rule that compares ranks
by_rank : (d : Coord → ℕ) (rule : Rule) (rank : (Coord → ℕ) → ℕ)
    → ((a b : Coord → ℕ) → Suits a d → Suits b d → rule_answer rule a b d ≡ always_larger_answer (rank a) (rank b)) → IsOrder d rule
by_rank d rule rank ranked = record {
  two = λ a b s t _. two_ranked _ _ (rank a) (rank b) (ranked a b s t) (ranked b a t s);
  three = λ a b c s t u. three_ranked _ _ _ _ _ _ (rank a) (rank b) (rank c) (ranked a b s t) (ranked b a t s) (ranked b c t u) (ranked c b u t) (ranked a c s u) (ranked c a u s);
}

given_order : (d : Coord → ℕ) (c : Coord) → kind_at c ≡ kinds.Equal → IsOrder d (at c kinds.Given)
unfolding rule_answer kind_answer
given_order d c e = by_rank d (at c kinds.Given) (λ a. given_rank (a c)) (λ a b s t. given-ranked (a c) (b c) (d c) (equal_suits c a d e s) (equal_suits c b d e t))

navigation_order : (d : Coord → ℕ) (c : Coord) → kind_at c ≡ kinds.Equal → IsOrder d (at c kinds.NavHidden)
unfolding rule_answer kind_answer
navigation_order d c e = by_rank d (at c kinds.NavHidden) (λ a. given_rank (a c)) (λ a b s t. navigation-ranked (a c) (b c) (d c) (equal_suits c a d e s) (equal_suits c b d e t))

nothing_equal : (n d : ℕ) → is_equal n d ≡ true → d ≡ 0 → n ≡ 0
nothing_equal n d h e = grind (arith, nat_tests)

nothing_at_most : (n d : ℕ) → is_at_most n d ≡ true → d ≡ 0 → n ≡ 0
nothing_at_most n d h e = grind (arith, nat_tests)

larger_order_equal : (d : Coord → ℕ) (c : Coord) → kind_at c ≡ kinds.Equal → IsOrder d (at c kinds.Larger)
unfolding rule_answer kind_answer
larger_order_equal d c e = by_rank d (at c kinds.Larger) (λ a. a c)
    (λ a b s t. larger-ranked (a c) (b c) (d c) (nothing_equal (a c) (d c) (equal_suits c a d e s)) (nothing_equal (b c) (d c) (equal_suits c b d e t)))

larger_order_at_most : (d : Coord → ℕ) (c : Coord) → kind_at c ≡ kinds.AtMost → IsOrder d (at c kinds.Larger)
unfolding rule_answer kind_answer
larger_order_at_most d c e = by_rank d (at c kinds.Larger) (λ a. a c)
    (λ a b s t. larger-ranked (a c) (b c) (d c) (nothing_at_most (a c) (d c) (at_most_suits c a d e s)) (nothing_at_most (b c) (d c) (at_most_suits c b d e t)))

always_larger_order : (d : Coord → ℕ) (c : Coord) → IsOrder d (at c kinds.AlwaysLarger)
unfolding rule_answer kind_answer
always_larger_order d c = by_rank d (at c kinds.AlwaysLarger) (λ a. a c) (λ a b s t. refl)

plain-ranked : (a b d : ℕ) → is_by_language_and_region d ≡ true → locale_answer a b d ≡ always_larger_answer (locale_rank a) (locale_rank b)
unfolding locale_answer
plain-ranked a b d plain = rw plain refl

locale_order : (d : Coord → ℕ) (c : Coord) → is_by_language_and_region (d c) ≡ true → IsOrder d (at c kinds.LocaleRank)
unfolding rule_answer kind_answer
locale_order d c plain = by_rank d (at c kinds.LocaleRank) (λ a. locale_rank (a c)) (λ a b s t. plain-ranked (a c) (b c) (d c) plain)

screen_size_order : (d : Coord → ℕ) (c : Coord) → kind_at c ≡ kinds.AtMost → IsOrder d (at c kinds.ScreenSize)
unfolding rule_answer kind_answer
screen_size_order d c e = by_rank d (at c kinds.ScreenSize) (λ a. size_rank (a c) (d c))
    (λ a b s t. size-ranked (a c) (b c) (d c) (at_most_suits c a d e s) (at_most_suits c b d e t))

keys_order : (d : Coord → ℕ) (c : Coord) → kind_at c ≡ kinds.KeysSuit → IsOrder d (at c kinds.KeysHidden)
unfolding rule_answer kind_answer
keys_order d c e = by_rank d (at c kinds.KeysHidden) (λ a. keys_rank (a c) (d c))
    (λ a b s t. keys-ranked (a c) (b c) (d c) (keys_suits c a d e s) (keys_suits c b d e t))

dimensions_order : (d : Coord → ℕ) (c : Coord) → IsOrder d (at c kinds.Dimensions)
unfolding rule_answer kind_answer dimensions_answer
dimensions_order d c =
    let rest = λ (a : Coord → ℕ). rest_of_both (numbers_at c a) (numbers_at c d) in
    record {
      two = λ a b _ _ _. smaller-opposes (rest a) (rest b);
      three = λ a b e _ _ _. smaller-composes (rest a) (rest b) (rest e);
    }

density_order : (d : Coord → ℕ) → IsOrder d (at coords.Density kinds.Density)
unfolding rule_answer kind_answer
density_order d = record {
  two = λ a b _ _ untied. density-opposes (a coords.Density) (b coords.Density) (d coords.Density) untied;
  three = λ a b c _ _ _. density-composes (a coords.Density) (b coords.Density) (c coords.Density) (d coords.Density);
}

orders : (d : Coord → ℕ) → is_by_language_and_region (d coords.Locale) ≡ true → AllByRecursion (IsOrder d) all_rules
unfolding all_rules all_conditions kind_at place_of
orders d plain = (
  given_order d coords.Mcc refl,
  (
    given_order d coords.Mnc refl,
    (
      locale_order d coords.Locale plain,
      (
        larger_order_equal d coords.LayoutDirection refl,
        (
          always_larger_order d coords.SmallestWidthDp,
          (
            dimensions_order d coords.WidthDp,
            (
              screen_size_order d coords.ScreenSize refl,
              (
                given_order d coords.Long refl,
                (
                  given_order d coords.Round refl,
                  (
                    given_order d coords.WideColor refl,
                    (
                      given_order d coords.Hdr refl,
                      (
                        given_order d coords.Orientation refl,
                        (
                          given_order d coords.UiType refl,
                          (
                            given_order d coords.Night refl,
                            (
                              density_order d,
                              (
                                given_order d coords.Touchscreen refl,
                                (
                                  keys_order d coords.KeysHidden refl,
                                  (
                                    navigation_order d coords.NavHidden refl,
                                    (
                                      given_order d coords.Keyboard refl,
                                      (
                                        given_order d coords.Navigation refl,
                                        (
                                          dimensions_order d coords.Width,
                                          (
                                            larger_order_at_most d coords.Sdk refl,
                                            (
                                              given_order d coords.Minor refl,
                                              tt,
                                            ),
                                          ),
                                        ),
                                      ),
                                    ),
                                  ),
                                ),
                              ),
                            ),
                          ),
                        ),
                      ),
                    ),
                  ),
                ),
              ),
            ),
          ),
        ),
      ),
    ),
  ),
)

-- ---- the table

each : {P Q : Rule → Type 0} → ((rule : Rule) → P rule → Q rule) → (rules : List Rule) → AllByRecursion P rules → AllByRecursion Q rules
each f [] all = tt
each f (rule ∷ rules) all = (f rule all.0, each f rules all.1)

all_oppose : (a b d : Coord → ℕ) → is_by_language_and_region (d coords.Locale) ≡ true → Suits a d → Suits b d → tie (a coords.Density) (b coords.Density) ≡ false → Opposes (answer_of_table all_rules a b d) (answer_of_table all_rules b a d)
all_oppose a b d plain s t untied = opposes all_rules a b d (each (λ rule o. o.two a b s t (and_right (is_density rule.kind) _ untied)) all_rules (orders d plain))

earlier_oppose : (a b d : Coord → ℕ) → is_by_language_and_region (d coords.Locale) ≡ true → Suits a d → Suits b d → Opposes (answer_of_table earlier_rules a b d) (answer_of_table earlier_rules b a d)
unfolding all_rules
earlier_oppose a b d plain s t = opposes earlier_rules a b d (not_density earlier_rules refl (front 14 all_rules (orders d plain)))
  where
    front : (n : ℕ) (rules : List Rule) → AllByRecursion (IsOrder d) rules → AllByRecursion (IsOrder d) (take n rules)
    front zero rules all = tt
    front (suc n) [] all = tt
    front (suc n) (rule ∷ rules) all = (all.0, front n rules all.1)

    untied : (density t : Bool) → not density ≡ true → (density && t) ≡ false
    untied true t e = absurd cc
    untied false t e = refl

    not_density : (rules : List Rule) → list_all (λ rule. not (is_density rule.kind)) rules ≡ true → AllByRecursion (IsOrder d) rules
        → AllByRecursion (λ rule. Opposes (rule_answer rule a b d) (rule_answer rule b a d)) rules
    not_density [] others all = tt
    not_density (rule ∷ rules) others all =
        let parts = and_parts _ _ others in
        (all.0.two a b s t (untied (is_density rule.kind) _ parts.0), not_density rules parts.1 all.1)

decided_alone : (x x' y y' : Answer) → Opposes x x' → is_pass x ≡ false → is_yes (or_else x y) ≡ true → is_yes (or_else x' y') ≡ false
decided_alone Yes x' y y' o some h = rw (o.yes refl) refl
decided_alone No x' y y' o some h = absurd cc
decided_alone Pass x' y y' o some h = absurd cc

-- one of the earlier rules decides
earlier_alone : (a b d : Coord → ℕ) → is_by_language_and_region (d coords.Locale) ≡ true → Suits a d → Suits b d → is_pass (answer_of_table earlier_rules a b d) ≡ false
    → is_yes (answer_of_table all_rules a b d) ≡ true → is_yes (answer_of_table all_rules b a d) ≡ false
earlier_alone a b d plain s t some better =
    ap is_yes (answer-parted b a d) ∙ decided_alone _ _ _ _ (earlier_oppose a b d plain s t) some (sym (ap is_yes (answer-parted a b d)) ∙ better)

pub at_most_one : (a b d : List ℕ) → AtMostOneIsBetter a b d
unfolding is_better record_number coordinate
at_most_one a b d plain ma mb not_tie better = densities (densities_tie a b) refl
  where
    suits_a : Suits (record_number a) (device_number d)
    suits_a = match_suits a d ma

    suits_b : Suits (record_number b) (device_number d)
    suits_b = match_suits b d mb

    earlier : densities_tie a b ≡ true → (pass : Bool) → is_pass (answer_of_table earlier_rules (record_number a) (record_number b) (device_number d)) ≡ pass → is_better b a d ≡ false
    earlier tied true pass = absurd (not_tie (record { densities = tied; decided = deciding-tie a b d tied pass }))
    earlier tied false some = earlier_alone (record_number a) (record_number b) (device_number d) plain suits_a suits_b some better

    densities : (t : Bool) → densities_tie a b ≡ t → is_better b a d ≡ false
    densities false untied = yes_alone _ _ (all_oppose (record_number a) (record_number b) (device_number d) plain suits_a suits_b untied) better
    densities true tied = earlier tied (is_pass (answer_of_table earlier_rules (record_number a) (record_number b) (device_number d))) refl

pub transitive : (a b d : List ℕ) → IsTransitiveFrom a b d
unfolding is_better
transitive a b d plain c ma mb mc first second =
    let s = match_suits a d ma in
    let t = match_suits b d mb in
    let u = match_suits c d mc in
    composes all_rules (record_number a) (record_number b) (record_number c) (device_number d)
    (each (λ rule o. o.three (record_number a) (record_number b) (record_number c) s t u) all_rules (orders (device_number d) plain))
    first second
