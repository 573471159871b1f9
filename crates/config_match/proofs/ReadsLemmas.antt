-- What a rule says depends on what it reads alone.
use Rattle.std.proofs.Common.{◌≡◌, ℕ, refl, ap, ◌∙◌}
use Rattle.config_record.specs.declared.coord.Coord.{Coord}
use Rattle.config_match.specs.declared.answer.Answer.{Answer}
use Rattle.config_match.specs.declared.kind.Kind.{Kind}
use Rattle.config_match.specs.declared.kind.Kind.TheVariants as kinds
use Rattle.config_match.specs.declared.kind.Numbers.{Numbers}
use Rattle.config_match.specs.declared.rule.Rule.{Rule}
use Rattle.config_match.specs.Answer.{answer_of_condition}
use Rattle.config_match.specs.Comparisons.{given_answer, larger_answer, always_larger_answer, locale_answer, dimensions_answer, screen_size_answer, density_answer, keys_answer, navigation_answer}
use Rattle.config_match.specs.Condition.{is_equal, is_at_most, keys_suit, locale_suits}
use Rattle.config_match.specs.Kind.{kind_answer}
use Rattle.config_match.specs.Rule.{beside, numbers_at, rule_answer}
use Rattle.config_match.specs.Reads.{reads_of, AgreeAt, DependsOnReads}

same_of : {X : Type 0} (f : X → X → X → Answer) (a b d x y z : X) → a ≡ x → b ≡ y → d ≡ z → f a b d ≡ f x y z
same_of f a b d x y z e g h = ap (λ n. f n b d) e ∙ ap (λ n. f x n d) g ∙ ap (f x y) h

same_numbers : (c : Coord) (a x : Coord → ℕ) → a c ≡ x c → a (beside c) ≡ x (beside c) → numbers_at c a ≡ numbers_at c x
same_numbers c a x e f = ap (λ (n : ℕ). make n (a (beside c))) e ∙ ap (λ (n : ℕ). make (x c) n) f
  where
    make : ℕ → ℕ → Numbers
    make n m = record { first = n; second = m }

-- of two dimensions
by_both : (c : Coord) (a b d x y z : Coord → ℕ) → AgreeAt (reads_of kinds.Dimensions c) a x → AgreeAt (reads_of kinds.Dimensions c) b y → AgreeAt (reads_of kinds.Dimensions c) d z
    → dimensions_answer (numbers_at c a) (numbers_at c b) (numbers_at c d) ≡ dimensions_answer (numbers_at c x) (numbers_at c y) (numbers_at c z)
by_both c a b d x y z e f g =
    same_of dimensions_answer _ _ _ _ _ _ (same_numbers c a x e.0 e.1.0) (same_numbers c b y f.0 f.1.0) (same_numbers c d z g.0 g.1.0)

pub kind-depends : (kind : Kind) (c : Coord) (a b d x y z : Coord → ℕ) → AgreeAt (reads_of kind c) a x → AgreeAt (reads_of kind c) b y → AgreeAt (reads_of kind c) d z
    → kind_answer kind (numbers_at c a) (numbers_at c b) (numbers_at c d) ≡ kind_answer kind (numbers_at c x) (numbers_at c y) (numbers_at c z)
unfolding kind_answer
kind-depends kinds.Given c a b d x y z e f g = same_of given_answer _ _ _ _ _ _ e.0 f.0 g.0
kind-depends kinds.Larger c a b d x y z e f g = same_of larger_answer _ _ _ _ _ _ e.0 f.0 g.0
kind-depends kinds.AlwaysLarger c a b d x y z e f g = same_of (λ m n _. always_larger_answer m n) _ _ _ _ _ _ e.0 f.0 g.0
kind-depends kinds.LocaleRank c a b d x y z e f g = same_of locale_answer _ _ _ _ _ _ e.0 f.0 g.0
kind-depends kinds.Dimensions c a b d x y z e f g = by_both c a b d x y z e f g
kind-depends kinds.ScreenSize c a b d x y z e f g = same_of screen_size_answer _ _ _ _ _ _ e.0 f.0 g.0
kind-depends kinds.Density c a b d x y z e f g = same_of density_answer _ _ _ _ _ _ e.0 f.0 g.0
kind-depends kinds.KeysHidden c a b d x y z e f g = same_of keys_answer _ _ _ _ _ _ e.0 f.0 g.0
kind-depends kinds.NavHidden c a b d x y z e f g = same_of navigation_answer _ _ _ _ _ _ e.0 f.0 g.0
kind-depends kinds.Equal c a b d x y z e f g = same_of (λ n _ r. answer_of_condition (is_equal n r)) _ _ _ _ _ _ e.0 f.0 g.0
kind-depends kinds.AtMost c a b d x y z e f g = same_of (λ n _ r. answer_of_condition (is_at_most n r)) _ _ _ _ _ _ e.0 f.0 g.0
kind-depends kinds.KeysSuit c a b d x y z e f g = same_of (λ n _ r. answer_of_condition (keys_suit n r)) _ _ _ _ _ _ e.0 f.0 g.0
kind-depends kinds.LocaleSuits c a b d x y z e f g = same_of (λ n _ r. answer_of_condition (locale_suits n r)) _ _ _ _ _ _ e.0 f.0 g.0
kind-depends kinds.Always c a b d x y z e f g = refl

pub depends : (rule : Rule) → DependsOnReads rule
unfolding rule_answer
depends rule a b d x y z e f g = kind-depends rule.kind rule.coord a b d x y z e f g
