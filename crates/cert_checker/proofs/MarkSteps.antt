-- Sets that are marked alike, as those of a box and of its parts are.
use Rattle.std.proofs.Common.{◌≡◌, ℕ, List, refl}
use Rattle.box_trace.specs.config_record.declared.coord.Coord as coord
use Rattle.box_trace.specs.config_record.declared.coord.Coord.TheVariants as coords
use Rattle.cert_tree.specs.box_answers.NumberSet.{SetOf, RangeOf, NumbersOf, LocalesOf}
use Rattle.cert_tree.specs.box_answers.Members.{set_at}
use Rattle.cert_tree.specs.box_answers.Sameness.{AreNeighbours}
use Rattle.cert_tree.specs.config_box.Marks.{AreMarkedAlike}
use Rattle.cert_tree.specs.config_box.Tests.{TestOf, AtMostOf, AmongOf, is_range, has_wrong_kind}

pub alike-next : (a b c : SetOf) → AreMarkedAlike a b → AreMarkedAlike b c → AreMarkedAlike a c
alike-next (RangeOf l h) (RangeOf m i) c first next = elim c as (λ s. AreMarkedAlike (RangeOf m i) s → AreMarkedAlike (RangeOf l h) s) [ RangeOf x y ↦ λ n. tt | NumbersOf x ↦ λ n. n | LocalesOf x ↦ λ n. n ] next
alike-next (RangeOf l h) (NumbersOf ys) c first next = absurd first
alike-next (RangeOf l h) (LocalesOf ys) c first next = absurd first
alike-next (NumbersOf xs) (RangeOf m i) c first next = absurd first
alike-next (NumbersOf xs) (NumbersOf ys) c first next = elim c as (λ s. AreMarkedAlike (NumbersOf ys) s → AreMarkedAlike (NumbersOf xs) s) [ RangeOf x y ↦ λ n. n | NumbersOf x ↦ λ n. tt | LocalesOf x ↦ λ n. n ] next
alike-next (NumbersOf xs) (LocalesOf ys) c first next = absurd first
alike-next (LocalesOf xs) (RangeOf m i) c first next = absurd first
alike-next (LocalesOf xs) (NumbersOf ys) c first next = absurd first
alike-next (LocalesOf xs) (LocalesOf ys) c first next = elim c as (λ s. AreMarkedAlike (LocalesOf ys) s → AreMarkedAlike (LocalesOf xs) s) [ RangeOf x y ↦ λ n. n | NumbersOf x ↦ λ n. n | LocalesOf x ↦ λ n. tt ] next

pub alike-range : (a b : SetOf) → AreMarkedAlike a b → is_range a ≡ is_range b
alike-range (RangeOf l h) (RangeOf m i) alike = refl
alike-range (RangeOf l h) (NumbersOf ys) alike = absurd alike
alike-range (RangeOf l h) (LocalesOf ys) alike = absurd alike
alike-range (NumbersOf xs) (RangeOf m i) alike = absurd alike
alike-range (NumbersOf xs) (NumbersOf ys) alike = refl
alike-range (NumbersOf xs) (LocalesOf ys) alike = absurd alike
alike-range (LocalesOf xs) (RangeOf m i) alike = absurd alike
alike-range (LocalesOf xs) (NumbersOf ys) alike = absurd alike
alike-range (LocalesOf xs) (LocalesOf ys) alike = refl

-- two numbers that are neighbours in the one are so in the other
pub alike-near : (a b : SetOf) (x y : ℕ) → AreMarkedAlike a b → AreNeighbours b x y → AreNeighbours a x y
alike-near (RangeOf l h) (RangeOf m i) x y alike near = near
alike-near (RangeOf l h) (NumbersOf ys) x y alike near = absurd alike
alike-near (RangeOf l h) (LocalesOf ys) x y alike near = absurd alike
alike-near (NumbersOf xs) b x y alike near = tt
alike-near (LocalesOf xs) b x y alike near = tt

-- a test is of a wrong kind for both boxes or for neither
pub alike-kind : (sets part : List SetOf) (test : TestOf) → ((c : coord.Coord) → AreMarkedAlike (set_at sets c) (set_at part c)) → has_wrong_kind sets test ≡ has_wrong_kind part test
unfolding has_wrong_kind
alike-kind sets part (AtMostOf coords.Locale most) alike = refl
alike-kind sets part (AtMostOf c most) alike = refl
alike-kind sets part (AmongOf c choice) alike = alike-range (set_at sets c) (set_at part c) (alike c)
